-- A text that is read field by field: a value with the bytes that follow it, or how many bytes are left at the first field
-- that doesn't stand there as it is wanted.
use Rattle.std.specs.Prelude.{◌≡◌, ℕ, zero, suc, ◌<◌, ◌⊎◌, List, [], ◌∷◌, ◌++◌, length, Result, Ok, Err}
use Rattle.hk_base.specs.Bytes.{Bytes}

abbrev pub Outcome : Type 0 → Type 0
Outcome A = Result (A × Bytes) ℕ

-- one field: the text of a thing that fits, or of none
abbrev pub field : {A : Type 0} → (A → Bytes) → (A → Type 0) → Bytes → Outcome A → Type 0
field text Fits bytes (Ok z) = Fits z.0 × (bytes ≡ text z.0 ++ z.1)
field {A} text Fits bytes (Err left) = (left ≡ length bytes) × ((x : A) (rest : Bytes) → Fits x → bytes ≡ text x ++ rest → ⊥)

-- one part, and by what it gives another
abbrev pub after : {A B : Type 0} → (Bytes → Outcome A → Type 0) → (A → Bytes → Outcome B → Type 0) → Bytes → Outcome B → Type 0
after {A} first next bytes (Ok z) = (x : A) × (rest : Bytes) × first bytes (Ok (x, rest)) × next x rest (Ok z)
after {A} first next bytes (Err left) = first bytes (Err left) ⊎ ((x : A) × (rest : Bytes) × first bytes (Ok (x, rest)) × next x rest (Err left))

-- no part: what was read gives this
abbrev pub given : {A : Type 0} → A → Bytes → Outcome A → Type 0
given x bytes (Ok z) = (x ≡ z.0) × (bytes ≡ z.1)
given x bytes (Err left) = ⊥

-- so many parts more, each by those before it
abbrev pub each : {A : Type 0} → ℕ → (List A → Bytes → Outcome A → Type 0) → List A → Bytes → Outcome (List A) → Type 0
each zero part before = given before
each (suc n) part before = after (part before) (λ x. each n part (before ++ x ∷ []))

-- nothing follows
abbrev pub ends : Bytes → Outcome (Unit {0}) → Type 0
ends bytes (Ok z) = bytes ≡ z.1 × (bytes ≡ [])
ends bytes (Err left) = (left ≡ length bytes) × (0 < length bytes)
