-- What is left of a list.
use Rattle.std.proofs.Common.{◌≡◌, suc, ◌∷◌, List, All, arith}

pub all-rest : {A : Type 0} (P : A → Type 0) (x : A) (xs ys : List A) → ys ≡ x ∷ xs → All P ys → All P xs
all-rest P x xs ys e h = λ k d lt. (let w : All P (x ∷ xs) = rw e at h in w (suc k) d (omega (arith, lt)))
