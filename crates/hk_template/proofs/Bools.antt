-- Tests and the facts that they decide.
use Rattle.std.proofs.Common.{◌≡◌, ℕ, Bool, true, false, ◌&&◌, ◌||◌, not, ◌==◌, [], ◌∷◌, ◌++◌, refl, sym, bytes_eq, if◌then◌else◌, eqb-true, eq-eqb}
use Rattle.std.specs.List.{list_all}
use Rattle.hk_base.specs.Bytes.{Bytes}

pub no_false : {A : Type 0} → false ≡ true → A
no_false e = absurd (let no : ⊥ = cc in no)

pub first_true : (a b : Bool) → (a && b) ≡ true → a ≡ true
first_true true b e = refl
first_true false b e = e

pub second_true : (a b : Bool) → (a && b) ≡ true → b ≡ true
second_true true b e = e
second_true false b e = no_false e

pub both_true : (a b : Bool) → a ≡ true → b ≡ true → (a && b) ≡ true
both_true true b d e = e
both_true false b d e = no_false d

pub not_true : (a : Bool) → not a ≡ true → a ≡ false
not_true true e = no_false e
not_true false e = refl

pub or_first : (a b : Bool) → (a || b) ≡ false → a ≡ false
or_first true b e = no_false (sym e)
or_first false b e = refl

pub or_second : (a b : Bool) → (a || b) ≡ false → b ≡ false
or_second true b e = no_false (sym e)
or_second false b e = e

pub all_append : (p : ℕ → Bool) (xs ys : Bytes) → list_all p xs ≡ true → list_all p ys ≡ true → list_all p (xs ++ ys) ≡ true
all_append p [] ys h g = g
all_append p (x ∷ xs) ys h g = both_true (p x) _ (first_true (p x) _ h) (all_append p xs ys (second_true (p x) _ h) g)

pub all_weaker : (p q : ℕ → Bool) → ((c : ℕ) → p c ≡ true → q c ≡ true) → (xs : Bytes) → list_all p xs ≡ true → list_all q xs ≡ true
all_weaker p q f [] h = refl
all_weaker p q f (x ∷ xs) h = both_true (q x) _ (f x (first_true (p x) _ h)) (all_weaker p q f xs (second_true (p x) _ h))

pub bytes_equal : (a b : Bytes) → bytes_eq a b ≡ true → a ≡ b
bytes_equal [] [] e = refl
bytes_equal [] (y ∷ ys) e = no_false e
bytes_equal (x ∷ xs) [] e = no_false e
bytes_equal (x ∷ xs) (y ∷ ys) e =
    let head : x ≡ y = eqb-true x y (first_true _ _ e) in
    let rest : xs ≡ ys = bytes_equal xs ys (second_true (x == y) _ e) in
    cc

pub bytes_same : (a : Bytes) → bytes_eq a a ≡ true
bytes_same [] = refl
bytes_same (x ∷ xs) = both_true (x == x) _ (eq-eqb x x refl) (bytes_same xs)

pub when_false : {A : Type 0} (b : Bool) (x y z : A) → b ≡ false → y ≡ z → (if b then x else y) ≡ z
when_false true x y z e h = no_false (sym e)
when_false false x y z e h = h

pub when_true : {A : Type 0} (b : Bool) (x y z : A) → b ≡ true → x ≡ z → (if b then x else y) ≡ z
when_true true x y z e h = h
when_true false x y z e h = no_false e
