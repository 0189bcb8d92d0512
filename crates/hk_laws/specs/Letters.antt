-- The same letters, by either case.
use Rattle.std.specs.Prelude.{◌≡◌, ℕ, ◌+◌, ◌≤◌, ◌⊎◌, [], ◌∷◌}
use Rattle.hk_base.specs.Bytes.{Bytes}

-- a capital letter of ASCII and its small one
pub record IsCapitalOf (capital small : ℕ) : Type 0 where
  pub from_a : 65 ≤ capital
  pub to_z : capital ≤ 90
  pub small_one : small ≡ capital + 32

-- one byte, or the two forms of one letter
abbrev pub SameLetter : ℕ → ℕ → Type 0
SameLetter x y = (x ≡ y) ⊎ (IsCapitalOf x y ⊎ IsCapitalOf y x)

-- as many bytes, one letter after the other
abbrev pub SameLetters : Bytes → Bytes → Type 0
SameLetters [] [] = Unit {0}
SameLetters [] (y ∷ ys) = ⊥
SameLetters (x ∷ xs) [] = ⊥
SameLetters (x ∷ xs) (y ∷ ys) = SameLetter x y × SameLetters xs ys
