-- Lists that are the same as far as they were read.
use Rattle.std.proofs.Common.{◌≡◌, sym, ap, ◌∙◌, subst, ℕ, ◌+◌, ◌<◌, ◌≤◌, Bool, true, List, [], ◌∷◌, ◌++◌, length, take, take_all, get_or}
use Rattle.std.specs.Bool.{OnTrue}
use Rattle.std.proofs.lemmas.List.{take_more}

pub so-true : (b : Bool) (P : Type 0) → b ≡ true → OnTrue b P → P
so-true b P e h = subst (λ x. OnTrue x P) e h

pub take-same : {A : Type 0} (xs ys : List A) (i : ℕ) (x y : A) → i < length xs → i < length ys → x ≡ get_or xs i x → y ≡ get_or ys i y → x ≡ y → take i xs ≡ take i ys → take (i + 1) xs ≡ take (i + 1) ys
take-same xs ys i x y lt less here there same so =
    (take_more xs i x lt ∙ ap (λ z. take i xs ++ z ∷ []) (sym here))
    ∙ ((λ j. so j ++ same j ∷ []) ∙ sym (take_more ys i y less ∙ ap (λ z. take i ys ++ z ∷ []) (sym there)))

pub all-same : {A : Type 0} (xs ys : List A) (i : ℕ) → length xs ≤ i → length ys ≤ i → take i xs ≡ take i ys → xs ≡ ys
all-same xs ys i le less so = sym (take_all i xs le) ∙ (so ∙ take_all i ys less)
