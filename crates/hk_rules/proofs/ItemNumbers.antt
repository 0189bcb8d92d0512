-- The numbers of the items that a pattern matches, and of the item with an identifier.
use Rattle.std.proofs.Common.{◌≡◌, ℕ, ◌+◌, ◌<◌, ◌≤◌, Bool, true, false, cond, ◌||◌, List, [], ◌∷◌, length, get_or, nat_eq, filter, Option, Some, None, refl, sym, ap, subst, ◌∙◌, arith, ne_eqb, eqb-true}
use Rattle.std.specs.List.{AllByRecursion, IsDistinct, list_any, range_with_len}
use Rattle.std.specs.Ordering.{is_eq}
use Rattle.hk_base.specs.Identifier.{Ident, ident_cmp}
use Rattle.hk_base.specs.IdentTies.{idents-same}
use Rattle.hk_base.proofs.Both.{not-both}
use Rattle.hk_chain.specs.Snapshots.{Ascending}
use Rattle.hk_chain.proofs.Spans.{range-all, range-rising, range-has}
use Rattle.hk_pattern.specs.declared.pattern.Pattern.{Pattern}
use Rattle.hk_rules.specs.Plan.{is_match, matches_in, find_in}
use Rattle.hk_rules.specs.declared.owner.Owner.{Owner}
use Rattle.hk_rules.proofs.PairNumbers.{position-at}

pub filter-all : (P : ℕ → Type 0) (t : ℕ → Bool) (xs : List ℕ) → AllByRecursion P xs → AllByRecursion P (filter t xs)
filter-all P t [] h = tt
filter-all P t (x ∷ xs) h = elim (t x) as (λ b. AllByRecursion P (cond b (x ∷ filter t xs) (filter t xs))) [
  | true ↦ (h.0, filter-all P t xs h.1)
  | false ↦ filter-all P t xs h.1
]

filter-rising : (t : ℕ → Bool) (xs : List ℕ) → Ascending xs → Ascending (filter t xs)
filter-rising t [] h = tt
filter-rising t (x ∷ xs) h = elim (t x) as (λ b. Ascending (cond b (x ∷ filter t xs) (filter t xs))) [
  | true ↦ (filter-all (λ q. x < q) t xs h.0, filter-rising t xs h.1)
  | false ↦ filter-rising t xs h.1
]

filter-passes : (t : ℕ → Bool) (xs : List ℕ) → AllByRecursion (λ x. t x ≡ true) (filter t xs)
filter-passes t [] = tt
filter-passes t (x ∷ xs) = elim (t x) as (λ b. t x ≡ b → AllByRecursion (λ x. t x ≡ true) (cond b (x ∷ filter t xs) (filter t xs))) [
  | true ↦ λ e. (e, filter-passes t xs)
  | false ↦ λ e. filter-passes t xs
] refl

one-has : (t : ℕ → Bool) (q x : ℕ) (rest : List ℕ) (same : Bool) → nat_eq q x ≡ same → t q ≡ true → (same ≡ false → list_any (nat_eq q) rest ≡ true) → list_any (nat_eq q) (cond (t x) (x ∷ rest) rest) ≡ true
one-has t q x rest true e p later =
    let passes : t x ≡ true = ap t (sym (eqb-true q x e)) ∙ p in
    subst (λ b. list_any (nat_eq q) (cond b (x ∷ rest) rest) ≡ true) (sym passes) (ap (λ b. b || list_any (nat_eq q) rest) e)
one-has t q x rest false e p later = elim (t x) as (λ b. list_any (nat_eq q) (cond b (x ∷ rest) rest) ≡ true) [
  | true ↦ ap (λ b. b || list_any (nat_eq q) rest) e ∙ later refl
  | false ↦ later refl
]

pub filter-has : (t : ℕ → Bool) (q : ℕ) (xs : List ℕ) → t q ≡ true → list_any (nat_eq q) xs ≡ true → list_any (nat_eq q) (filter t xs) ≡ true
filter-has t q [] p h = h
filter-has t q (x ∷ xs) p h = one-has t q x (filter t xs) (nat_eq q x) refl p (λ e. filter-has t q xs p (subst (λ b. (b || list_any (nat_eq q) xs) ≡ true) e h))

above-differ : (x : ℕ) (xs : List ℕ) → AllByRecursion (λ q. x < q) xs → AllByRecursion (λ q. nat_eq x q ≡ false) xs
above-differ x [] h = tt
above-differ x (y ∷ xs) h = let above = h.0 in (ne_eqb x y (λ e. absurd (omega arith)), above-differ x xs h.1)

pub rising-distinct : (xs : List ℕ) → Ascending xs → IsDistinct nat_eq xs
unfolding IsDistinct
rising-distinct [] h = tt
rising-distinct (x ∷ xs) h = (above-differ x xs h.0, rising-distinct xs h.1)

-- ---- the items that a pattern matches

abbrev Items : Type 0
Items = List (Ident × Owner)

pub matches_in-below : (items : Items) (by : Pattern) → AllByRecursion (λ n. n < length items) (matches_in items by)
matches_in-below items by = filter-all (λ n. n < length items) (is_match items by) (range_with_len 0 (length items)) (range-all (λ n. n < length items) 0 (length items) (λ q low high. omega arith))

pub matches_in-rising : (items : Items) (by : Pattern) → Ascending (matches_in items by)
matches_in-rising items by = filter-rising (is_match items by) (range_with_len 0 (length items)) (range-rising 0 (length items))

pub matches_in-distinct : (items : Items) (by : Pattern) → IsDistinct nat_eq (matches_in items by)
matches_in-distinct items by = rising-distinct (matches_in items by) (matches_in-rising items by)

pub matches_in-match : (items : Items) (by : Pattern) → AllByRecursion (λ n. is_match items by n ≡ true) (matches_in items by)
matches_in-match items by = filter-passes (is_match items by) (range_with_len 0 (length items))

pub matches_in-has : (items : Items) (by : Pattern) (n : ℕ) → n < length items → is_match items by n ≡ true → list_any (nat_eq n) (matches_in items by) ≡ true
matches_in-has items by n lt p = filter-has (is_match items by) n (range_with_len 0 (length items)) p (range-has n 0 (length items) (omega arith) (omega arith))

-- ---- the item with an identifier

pub find_in-item : (items : Items) (id : Ident) (n : ℕ) → find_in items id ≡ Some n → (n < length items) × ((d : Ident × Owner) → (get_or items n d).0 ≡ id)
find_in-item items id n e =
    let at = position-at (λ item. is_eq (ident_cmp id item.0)) 0 items n e in
    let same : n ≡ at.0 = omega (arith, at.1) in
    (omega (arith, at.2), λ d. ap (λ k. (get_or items k d).0) same ∙ sym (idents-same id (get_or items at.0 d).0 (at.3 d)))
