-- The first place in a text.
use Rattle.std.specs.Prelude.{ℕ, ◌+◌, Bool, [], ◌∷◌, if◌then◌else◌, nat_eq}
use Rattle.std.specs.List.{starts_with}
use Rattle.hk_base.specs.Bytes.{Bytes}

-- the first place from which on the rest passes the test, or else the length
abbrev pub first_place : (Bytes → Bool) → Bytes → ℕ
first_place test [] = 0
first_place test (x ∷ xs) = if test (x ∷ xs) then 0 else 1 + first_place test xs

-- where a word begins for the first time
abbrev pub place_of_word : Bytes → Bytes → ℕ
place_of_word word text = first_place (λ rest. starts_with nat_eq rest word) text
