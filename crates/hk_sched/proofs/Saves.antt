-- Lists of saves in the order of their pairs.
use Rattle.std.proofs.Common.{◌≡◌, refl, sym, ap, ◌∙◌, subst, ℕ, zero, suc, ◌+◌, ◌<◌, ◌≤◌, Bool, true, false, ◌||◌, ◌⊎◌, inl, inr, List, [], ◌∷◌, ◌++◌, length, map, take, Some, None, is_some, slice_get, nat_eq, nat_lt, arith, eqb-true, eq-eqb, ne_eqb, ltb-true, ltb-false}
use Rattle.hk_fix.specs.Run.{Save, page_in, AllAbove, Rising}
use Rattle.hk_fix.specs.Facts.{is_in}
use Rattle.hk_fix.proofs.Orders.{clash, decide}

above-none : (xs : List Save) (n p : ℕ) → AllAbove n xs → p ≤ n → page_in xs p ≡ None
above-none [] n p a h = refl
above-none (s ∷ xs) n p a h = rw (ne_eqb s.pair p (λ (e : s.pair ≡ p). omega (arith, a.0))) (above-none xs n p a.1 h)

pub above-page : (xs : List Save) (n p : ℕ) → AllAbove n xs → is_some (page_in xs p) ≡ true → n < p
above-page xs n p a s =
    elim (decide (nat_lt n p)) [
      | inl t ↦ ltb-true n p t
      | inr t ↦ clash (is_some (page_in xs p)) (ap is_some (above-none xs n p a (ltb-false n p t))) s
    ]

pub get-length : {A : Type 0} (l : List A) (k : ℕ) (s : A) → slice_get l k ≡ Some s → k < length l
get-length [] k s e = cc
get-length (x ∷ l) zero s e = omega arith
get-length (x ∷ l) (suc k) s e = omega (arith, get-length l k s e)

pub get-there : {A : Type 0} (l : List A) (k : ℕ) → k < length l → (s : A) × (slice_get l k ≡ Some s)
get-there [] k h = absurd (omega arith)
get-there (x ∷ l) zero h = (x, refl)
get-there (x ∷ l) (suc k) h = get-there l k (omega arith)

pub get-append : {A : Type 0} (xs ys : List A) (k : ℕ) (s : A) → slice_get xs k ≡ Some s → slice_get (xs ++ ys) k ≡ Some s
get-append [] ys k s e = cc
get-append (x ∷ xs) ys zero s e = e
get-append (x ∷ xs) ys (suc k) s e = get-append xs ys k s e

-- the k-th save is the page that the saves have for its pair
pub page-at : (xs : List Save) (k : ℕ) (s : Save) → Rising xs → slice_get xs k ≡ Some s → page_in xs s.pair ≡ Some s.page
page-at [] k s r e = cc
page-at (x ∷ xs) zero s r e =
    let same : x ≡ s = cc in
    rw (eq-eqb x.pair s.pair (ap (λ (v : Save). v.pair) same)) (ap (λ (v : Save). Some v.page) same)
page-at (x ∷ xs) (suc k) s r e =
    let w : page_in xs s.pair ≡ Some s.page = page-at xs k s r.1 e in
    let up : x.pair < s.pair = above-page xs x.pair s.pair r.0 (ap is_some w) in
    rw (ne_eqb x.pair s.pair (λ (q : x.pair ≡ s.pair). omega (arith, up))) w

-- a save of a lower pair than the k-th is an earlier one
pub find-before : (xs : List Save) (k : ℕ) (s : Save) (q : ℕ) → Rising xs → slice_get xs k ≡ Some s → q < s.pair → is_some (page_in xs q) ≡ true → (j : ℕ) × (t : Save) × (j < k) × (slice_get xs j ≡ Some t) × (t.pair ≡ q)
find-before [] k s q r e lt has = cc
find-before (x ∷ xs) zero s q r e lt has =
    let same : x ≡ s = cc in
    let low : q < x.pair = rw same lt in
    clash (is_some (page_in (x ∷ xs) q)) (rw (ne_eqb x.pair q (λ (w : x.pair ≡ q). omega (arith, low))) (ap is_some (above-none xs x.pair q r.0 (omega (arith, low))))) has
find-before (x ∷ xs) (suc k) s q r e lt has =
    elim (decide (nat_eq x.pair q)) [
      | inl t ↦ (0, x, omega arith, refl, eqb-true x.pair q t)
      | inr t ↦ (let w = find-before xs k s q r.1 e lt (rw t at has) in (suc w.0, w.1, omega (arith, w.2), w.3, w.4))
    ]

pub find-save : (xs : List Save) (q : ℕ) → is_some (page_in xs q) ≡ true → (j : ℕ) × (t : Save) × (slice_get xs j ≡ Some t) × (t.pair ≡ q)
find-save [] q has = cc
find-save (x ∷ xs) q has =
    elim (decide (nat_eq x.pair q)) [
      | inl t ↦ (0, x, refl, eqb-true x.pair q t)
      | inr t ↦ (let w = find-save xs q (rw t at has) in (suc w.0, w.1, w.2, w.3))
    ]

abbrev pub first_pairs : ℕ → List Save → List ℕ
first_pairs n xs = map (λ (s : Save). s.pair) (take n xs)

-- among the first n pairs
pub first-in : (xs : List Save) (n j : ℕ) (s : Save) → j < n → slice_get xs j ≡ Some s → is_in (first_pairs n xs) s.pair ≡ true
first-in [] n j s lt e = cc
first-in (x ∷ xs) zero j s lt e = absurd (omega arith)
first-in (x ∷ xs) (suc n) zero s lt e = (let same : x ≡ s = cc in rw (eq-eqb s.pair x.pair (ap (λ (v : Save). v.pair) (sym same))) refl)
first-in (x ∷ xs) (suc n) (suc j) s lt e = or-right (nat_eq s.pair x.pair) (is_in (first_pairs n xs) s.pair) (first-in xs n j s (omega arith) e)
  where
    or-right : (a b : Bool) → b ≡ true → (a || b) ≡ true
    or-right true b h = refl
    or-right false b h = h

-- one more
pub first-more : (xs : List Save) (n : ℕ) (s : Save) (p : ℕ) → slice_get xs n ≡ Some s → is_in (first_pairs (n + 1) xs) p ≡ true → (is_in (first_pairs n xs) p ≡ true) ⊎ (s.pair ≡ p)
first-more xs n s p e h = (let next : n + 1 ≡ suc n = omega arith in go xs n e (subst (λ m. is_in (first_pairs m xs) p ≡ true) next h))
  where
    go : (xs : List Save) (n : ℕ) → slice_get xs n ≡ Some s → is_in (first_pairs (suc n) xs) p ≡ true → (is_in (first_pairs n xs) p ≡ true) ⊎ (s.pair ≡ p)
    go [] n e h = cc
    go (x ∷ xs) zero e h =
        elim (decide (nat_eq p x.pair)) [
          | inl t ↦ (let same : x ≡ s = cc in inr (ap (λ (v : Save). v.pair) (sym same) ∙ sym (eqb-true p x.pair t)))
          | inr t ↦ (let no : false ≡ true = rw t at h in cc)
        ]
    go (x ∷ xs) (suc n) e h =
        elim (decide (nat_eq p x.pair)) [
          | inl t ↦ inl (rw t refl)
          | inr t ↦ elim (go xs n e (rw t at h)) [ inl w ↦ inl (rw t w) | inr w ↦ inr w ]
        ]

-- the first of a longer list
pub first-same : (xs ys : List Save) (n : ℕ) → n ≤ length xs → first_pairs n (xs ++ ys) ≡ first_pairs n xs
first-same [] ys zero h = refl
first-same [] ys (suc n) h = absurd (omega arith)
first-same (x ∷ xs) ys zero h = refl
first-same (x ∷ xs) ys (suc n) h = ap (λ l. x.pair ∷ l) (first-same xs ys n (omega arith))
