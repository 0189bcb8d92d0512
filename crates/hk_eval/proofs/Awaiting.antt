-- Pairs that are taken out of a list of open ones.
use Rattle.std.proofs.Common.{◌≡◌, refl, sym, ap, ◌∙◌, subst, arith, ℕ, zero, suc, ◌+◌, ◌<◌, ◌≤◌, List, [], ◌∷◌, length, length-drop, drop, get_or, filter, not, nat_eq, Bool, true, false, cond, eq-eqb}
use Rattle.std.specs.List.{AllByRecursion, IsDistinct, remove}

other-way : (a b : ℕ) → nat_eq a b ≡ false → nat_eq b a ≡ false
other-way a b t = grind (arith, t)

-- a list without repeats without one of its members
taken-out : (xs : List ℕ) (i p : ℕ) → i < length xs → get_or xs i 0 ≡ p → IsDistinct nat_eq xs → remove xs i ≡ filter (λ q. not (nat_eq p q)) xs
unfolding IsDistinct
taken-out [] i p lt e d = absurd (omega arith)
taken-out (x ∷ xs) zero p lt e d =
    let s : nat_eq p x ≡ true = eq-eqb p x (sym e) in
    rw s (sym (keeps xs (subst (λ (y : ℕ). AllByRecursion (λ z. nat_eq y z ≡ false) xs) e d.0)))
  where
    keeps : (ys : List ℕ) → AllByRecursion (λ z. nat_eq p z ≡ false) ys → filter (λ q. not (nat_eq p q)) ys ≡ ys
    keeps [] h = refl
    keeps (y ∷ ys) h = rw h.0 (ap (λ l. y ∷ l) (keeps ys h.1))
taken-out (x ∷ xs) (suc i) p lt e d =
    let s : nat_eq p x ≡ false = other-way x p (at xs i (omega arith) e d.0) in
    rw s (ap (λ l. x ∷ l) (taken-out xs i p (omega arith) e d.1))
  where
    at : (ys : List ℕ) (j : ℕ) → j < length ys → get_or ys j 0 ≡ p → AllByRecursion (λ z. nat_eq x z ≡ false) ys → nat_eq x p ≡ false
    at [] j l f h = absurd (omega arith)
    at (y ∷ ys) zero l f h = subst (λ (z : ℕ). nat_eq x z ≡ false) f h.0
    at (y ∷ ys) (suc j) l f h = at ys j (omega arith) f h.1

first-out : (xs : List ℕ) (a : ℕ) → 0 < length (drop a xs) → remove (drop a xs) 0 ≡ drop (suc a) xs
first-out [] zero h = absurd (omega arith)
first-out [] (suc a) h = absurd (omega arith)
first-out (x ∷ xs) zero h = refl
first-out (x ∷ xs) (suc a) h = first-out xs a h

remove-nil : (n : ℕ) → remove {X = ℕ} [] n ≡ []
remove-nil zero = refl
remove-nil (suc n) = refl

later-drop : (xs : List ℕ) (a i n : ℕ) → n ≡ a + i → drop a (remove xs n) ≡ remove (drop a xs) i
later-drop xs zero i n e = let z : n ≡ i = omega (arith, e) in ap (remove xs) z
later-drop [] (suc a) i n e = ap (drop (suc a)) (remove-nil n) ∙ sym (remove-nil i)
later-drop (x ∷ xs) (suc a) i zero e = absurd (omega (arith, e))
later-drop (x ∷ xs) (suc a) i (suc n) e = later-drop xs a i n (omega (arith, e))

-- a place among the open ones is a place of all
pub place-in : (xs : List ℕ) (a i : ℕ) → i < length (drop a xs) → a + i < length xs
place-in [] zero i h = absurd (omega arith)
place-in [] (suc a) i h = absurd (omega arith)
place-in (x ∷ xs) zero i h = omega (arith, h)
place-in (x ∷ xs) (suc a) i h = let r : a + i < length xs = place-in xs a i h in omega (arith, r)

-- the first of the open ones
pub front-out : (xs : List ℕ) (a p : ℕ) → 0 < length (drop a xs) → get_or (drop a xs) 0 0 ≡ p → IsDistinct nat_eq (drop a xs) → drop (a + 1) xs ≡ filter (λ q. not (nat_eq p q)) (drop a xs)
front-out xs a p h e d =
    let one : a + 1 ≡ suc a = omega arith in
    ap (λ n. drop n xs) one ∙ (sym (first-out xs a h) ∙ taken-out (drop a xs) 0 p h e d)

-- another one of them
pub later-out : (xs : List ℕ) (a i p : ℕ) → i < length (drop a xs) → get_or (drop a xs) i 0 ≡ p → IsDistinct nat_eq (drop a xs) → drop a (remove xs (a + i)) ≡ filter (λ q. not (nat_eq p q)) (drop a xs)
later-out xs a i p h e d = later-drop xs a i (a + i) refl ∙ taken-out (drop a xs) i p h e d

pub none-distinct : (xs : List ℕ) → xs ≡ [] → IsDistinct nat_eq (drop 0 xs)
unfolding IsDistinct
none-distinct xs e = subst (IsDistinct nat_eq) (sym e) tt

kept : (P : ℕ → Type 0) (test : ℕ → Bool) (xs : List ℕ) → AllByRecursion P xs → AllByRecursion P (filter test xs)
kept P test [] h = tt
kept P test (x ∷ xs) h = elim (test x) as (λ b. AllByRecursion P (cond b (x ∷ filter test xs) (filter test xs))) [ true ↦ (h.0, kept P test xs h.1) | false ↦ kept P test xs h.1 ]

-- what holds of all holds of those that are left, and they are still distinct
pub all-out : (P : ℕ → Type 0) (p : ℕ) (xs : List ℕ) → AllByRecursion P xs → AllByRecursion P (filter (λ q. not (nat_eq p q)) xs)
all-out P p xs h = kept P (λ q. not (nat_eq p q)) xs h

pub distinct-out : (p : ℕ) (xs : List ℕ) → IsDistinct nat_eq xs → IsDistinct nat_eq (filter (λ q. not (nat_eq p q)) xs)
unfolding IsDistinct
distinct-out p [] h = tt
distinct-out p (x ∷ xs) h =
    elim (nat_eq p x) as (λ b. IsDistinct nat_eq (cond (not b) (x ∷ filter (λ q. not (nat_eq p q)) xs) (filter (λ q. not (nat_eq p q)) xs))) [
      | true ↦ distinct-out p xs h.1
      | false ↦ (kept (λ q. nat_eq x q ≡ false) (λ q. not (nat_eq p q)) xs h.0, distinct-out p xs h.1)
    ]
