-- Lists that grow by one.
use Rattle.std.proofs.Common.{◌≡◌, refl, sym, ap, ◌∙◌, suc, ◌+◌, List, [], ◌∷◌, ◌++◌, length, map, arith, All}

pub maps-more : {A B D E : Type 0} (f : A → B) (g : D → B) (h : E → D) (os : List A) (ys : List E) (o : A) (y : E) → map f os ≡ map g (map h ys) → f o ≡ g (h y) → map f (os ++ o ∷ []) ≡ map g (map h (ys ++ y ∷ []))
maps-more f g h os ys o y e q = append f os o ∙ ap (λ l. l ++ f o ∷ []) e ∙ ap (λ b. map g (map h ys) ++ b ∷ []) q ∙ sym (ap (map g) (append h ys y) ∙ append g (map h ys) (h y))
  where
    append : {A B : Type 0} (f : A → B) (xs : List A) (x : A) → map f (xs ++ x ∷ []) ≡ map f xs ++ f x ∷ []
    append f [] x = refl
    append f (z ∷ xs) x = ap (λ l. f z ∷ l) (append f xs x)

pub length-more : {A : Type 0} (xs : List A) (x : A) → length (xs ++ x ∷ []) ≡ length xs + 1
length-more [] x = refl
length-more (y ∷ xs) x = omega (arith, length-more xs x)

pub all-rest : {A : Type 0} (P : A → Type 0) (x : A) (xs ys : List A) → ys ≡ x ∷ xs → All P ys → All P xs
all-rest P x xs ys e h = λ k d lt. (let w : All P (x ∷ xs) = rw e at h in w (suc k) d (omega (arith, lt)))
