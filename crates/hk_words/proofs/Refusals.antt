-- What no command takes.
use Rattle.std.proofs.Common.{◌≡◌, Bool, refl, ap, Option, Some, None, List, [], ◌∷◌}
use Rattle.std.specs.Prelude.{ℕ, option_map, option_and_then}
use Rattle.hk_base.specs.Bytes.{Bytes}
use Rattle.hk_words.specs.Given.{Given}
use Rattle.hk_words.specs.Numbers.{number_in}
use Rattle.hk_words.specs.Arguments.{Refused, workers_in, trace_in, operands_in, arguments}
use Rattle.hk_words.proofs.Lexing.{IsDashed}

abbrev giving : List Bytes → List Bytes → List Bytes → Given
giving w t o = record { workers = w; traces = t; operands = o }

and_then_none : {X Y : Type 0} (x : Option X) → ◌≡◌ {A = Option Y} (option_and_then (λ a. None) x) None
and_then_none None = refl
and_then_none (Some a) = refl

workers_refused : (w t o : List Bytes) → workers_in w ≡ None → Refused (giving w t o)
workers_refused w t o e = rw e refl

trace_refused : (w t o : List Bytes) → trace_in t ≡ None → Refused (giving w t o)
trace_refused w t o e = rw e (and_then_none (workers_in w))

operands_refused : (w t o : List Bytes) → operands_in o ≡ None → Refused (giving w t o)
operands_refused w t o e = go (workers_in w) (trace_in t)
  where
    go : (x : Option (Option ℕ)) (y : Option Bool) → option_and_then (λ a. option_and_then (λ b. option_map (arguments a b) (operands_in o)) y) x ≡ None
    go None y = refl
    go (Some a) None = refl
    go (Some a) (Some b) = ap (option_map (arguments a b)) e

-- ---- options

pub twice_workers : (a b : Bytes) (w t o : List Bytes) → Refused (giving (a ∷ b ∷ w) t o)
twice_workers a b w t o = refl

dashed_value : (v : Bytes) (w : List Bytes) → IsDashed v → workers_in (v ∷ w) ≡ None
dashed_value v [] d = rw (d.1) refl
dashed_value v (x ∷ w) d = refl

pub dashed_workers : (v : Bytes) (w t o : List Bytes) → IsDashed v → Refused (giving (v ∷ w) t o)
dashed_workers v w t o d = workers_refused (v ∷ w) t o (dashed_value v w d)

pub twice_trace : (a b : Bytes) (w t o : List Bytes) → Refused (giving w (a ∷ b ∷ t) o)
twice_trace a b w t o = trace_refused w (a ∷ b ∷ t) o refl

-- ---- operands

pub three_operands : (a b c : Bytes) (w t o : List Bytes) → Refused (giving w t (a ∷ b ∷ c ∷ o))
three_operands a b c w t o = operands_refused w t (a ∷ b ∷ c ∷ o) refl

first_dashed : (v : Bytes) (o : List Bytes) → IsDashed v → operands_in (v ∷ o) ≡ None
first_dashed v [] d = refl
first_dashed v (b ∷ []) d = rw (d.1) refl
first_dashed v (b ∷ c ∷ o) d = refl

second_dashed : (a v : Bytes) (o : List Bytes) → IsDashed v → operands_in (a ∷ v ∷ o) ≡ None
second_dashed a v [] d = rw (d.1) (and_then_none (number_in 0 4294967295 a))
second_dashed a v (c ∷ o) d = refl

pub dashed_first : (v : Bytes) (w t o : List Bytes) → IsDashed v → Refused (giving w t (v ∷ o))
dashed_first v w t o d = operands_refused w t (v ∷ o) (first_dashed v o d)

pub dashed_second : (a v : Bytes) (w t o : List Bytes) → IsDashed v → Refused (giving w t (a ∷ v ∷ o))
dashed_second a v w t o d = operands_refused w t (a ∷ v ∷ o) (second_dashed a v o d)
