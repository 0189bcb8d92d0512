-- Walks over a list whose elements are seen as views.
use Rattle.std.proofs.Common.{◌≡◌, ℕ, ◌+◌, ◌<◌, List, ◌∷◌, ◌++◌, map, drop, length, get_or, subst, sym, ap, ◌∙◌, All, arith, append_assoc, drop-cons, add-one, suc}
use Rattle.std.proofs.lemmas.List.{get_or-map, length-map}
use Rattle.std.specs.List.{flat_map}

-- what holds of the view of each element
pub mapped-at : {X Y : Type 0} (P : X → Type 0) (f : Y → X) (ys : List Y) (k : ℕ) (y : Y) → All P (map f ys) → k < length ys → y ≡ get_or ys k y → P (f y)
mapped-at P f ys k y h lt is =
    let there : k < length (map f ys) = omega (arith, length-map ys f) in
    subst P (get_or-map f ys k y (f y) lt ∙ ap f (sym is)) (h k (f y) there)

-- one more element was written
pub written-turn : {X Y : Type 0} (text : X → List ℕ) (f : Y → X) (ys : List Y) (k : ℕ) (y : Y) (now new all : List ℕ) → k < length ys → y ≡ get_or ys k y → new ≡ now ++ text (f y)
    → now ++ flat_map text (map f (drop k ys)) ≡ all → new ++ flat_map text (map f (drop (k + 1) ys)) ≡ all
written-turn text f ys k y now new all lt is step so =
    let front : drop k ys ≡ y ∷ drop (k + 1) ys = drop-cons ys k y lt ∙ ap (λ x. x ∷ drop (suc k) ys) (sym is) ∙ ap (λ n. y ∷ drop n ys) (sym (add-one k)) in
    ap (λ l. l ++ flat_map text (map f (drop (k + 1) ys))) step ∙ append_assoc now (text (f y)) _ ∙ ap (λ l. now ++ flat_map text (map f l)) (sym front) ∙ so
