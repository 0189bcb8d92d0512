-- What a call that may refuse answers.
use Rattle.std.specs.Prelude.{◌≡◌, Result, Ok, Err}
use Rattle.hk_base.specs.declared.refusal.Refusal.{Refusal}
use Rattle.hk_base.specs.declared.refusal.Refusal.TheVariants.{Fault, NoMemory}

-- the value or the fault that a definition gives, or want of memory
abbrev pub Answers : {T F : Type 0} → Result T F → Result T (Refusal F) → Type 0
Answers wanted (Ok value) = wanted ≡ Ok value
Answers wanted (Err (Fault fault)) = wanted ≡ Err fault
Answers wanted (Err NoMemory) = Unit {0}
