-- What steps that may refuse give, one after another.
use Rattle.std.specs.Prelude.{◌≡◌, List, [], ◌∷◌, Option, Some, None, Result, Ok, Err, Vec}
use Rattle.std.specs.declared.alloc.Global.{Global}
use Rattle.hk_base.specs.declared.refusal.Refusal.{Refusal}
use Rattle.hk_base.specs.declared.refusal.Refusal.TheVariants.{Fault, NoMemory}

-- the list or the fault that a definition gives, or want of memory
abbrev pub AnswersList : {T F : Type 0} → Result (List T) F → Result (Vec T Global) (Refusal F) → Type 0
AnswersList wanted (Ok values) = wanted ≡ Ok values.items
AnswersList wanted (Err (Fault fault)) = wanted ≡ Err fault
AnswersList wanted (Err NoMemory) = Unit {0}

-- the fault that a definition gives, none where the call passes, or want of memory
abbrev pub Passes : {T F : Type 0} → Option F → Result T (Refusal F) → Type 0
Passes wanted (Ok value) = wanted ≡ None
Passes wanted (Err (Fault fault)) = wanted ≡ Some fault
Passes wanted (Err NoMemory) = Unit {0}

-- the next step, where there is no fault
abbrev pub unless : {T F : Type 0} → Option F → Result T F → Result T F
unless None next = next
unless (Some fault) next = Err fault

-- the next step, on what this one gives
abbrev pub after : {S T F : Type 0} → Result S F → (S → Result T F) → Result T F
after (Ok value) next = next value
after (Err fault) next = Err fault

abbrev pub with_first : {T F : Type 0} → Result T F → Result (List T) F → Result (List T) F
with_first (Ok value) (Ok values) = Ok (value ∷ values)
with_first (Ok value) (Err fault) = Err fault
with_first (Err fault) rest = Err fault

-- what each of a list gives, or the first fault
abbrev pub each : {S T F : Type 0} → (S → Result T F) → List S → Result (List T) F
each step [] = Ok []
each step (x ∷ xs) = with_first (step x) (each step xs)
