-- Ends of keys.
use Rattle.std.proofs.Common.{◌≡◌, ℕ, ◌==◌, [], ◌∷◌, ◌++◌, refl}
use Rattle.hk_base.specs.Bytes.{Bytes}
use Rattle.hk_base.specs.Key.{ends_with_dash}

-- a text that ends in another byte than a dash
pub ends_by : (xs : Bytes) (c : ℕ) → ends_with_dash (xs ++ c ∷ []) ≡ (c == 45)
ends_by [] c = refl
ends_by (x ∷ []) c = refl
ends_by (x ∷ y ∷ xs) c = ends_by (y ∷ xs) c
