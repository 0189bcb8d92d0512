-- A binary search among targets that ascend finds exactly the targets.
use Rattle.std.proofs.Common.{◌≡◌, ℕ, ◌<◌, ◌≤◌, true, false, List, [], ◌∷◌, refl, sym, ap, subst, ◌∙◌, arith, length, get_or, Result, Ok, Err, ◌⊎◌, inl, inr, suc, zero, add-one}
use Rattle.std.proofs.lemmas.Bool.{cases_lt}
use Rattle.std.specs.Prelude.{T, bytes_eq, is_ok}
use Rattle.std.specs.Ordering.{nat_cmp, is_eq, is_lt, ordering_reverse}
use Rattle.std.specs.Cmp.Lexicographic.{slice_cmp, nat_list_cmp_total}
use Rattle.std.specs.List.Sorted.{IsBinarySearchResult, IsSearchInRange, IsSortedBy}
use Rattle.std.proofs.lemmas.List.Sorted.{searchable_from_sorted}
use Rattle.std.proofs.lemmas.List.Folds.{list_any_none, list_any_at}
use Rattle.std.specs.declared.cmp.Ordering.{Ordering}
use Rattle.std.specs.declared.cmp.Ordering.TheVariants.{Less, Equal, Greater}
use Rattle.std.proofs.lemmas.Map.Text.{is_eq-slice_cmp}
use Rattle.hk_base.specs.Bytes.{Bytes, ascends}
use Rattle.hk_base.proofs.Both.{left-part, right-part}
use Rattle.hk_links.specs.Report.{is_target}

abbrev R : Bytes → Bytes → Ordering
R = slice_cmp nat_cmp

not-less : (o : Ordering) → is_lt o ≡ true → is_lt (ordering_reverse o) ≡ false
not-less Less e = refl
not-less Equal e = absurd (subst T (sym e) tt)
not-less Greater e = absurd (subst T (sym e) tt)

rises : (all : List Bytes) (k : ℕ) (d : Bytes) → ascends all ≡ true → suc k < length all → is_lt (R (get_or all k d) (get_or all (suc k) d)) ≡ true
rises [] k d h l = absurd (omega arith)
rises (x ∷ []) k d h l = absurd (omega arith)
rises (x ∷ y ∷ ys) zero d h l = left-part _ _ (left-part _ _ h)
rises (x ∷ y ∷ ys) (suc k) d h l = rises (y ∷ ys) k d (right-part _ _ h) (omega arith)

sorted : (all : List Bytes) → ascends all ≡ true → IsSortedBy (λ a b. is_lt (R a b)) all
sorted all h k d low l =
    rw (add-one k) (ap is_lt (nat_list_cmp_total.antisymm (get_or all (suc k) d) (get_or all k d)) ∙ not-less _ (rises all k d h (omega arith)))

test-of : (x q : Bytes) (o : Ordering) → R x q ≡ o → bytes_eq x q ≡ is_eq o
test-of x q o e = sym (is_eq-slice_cmp x q) ∙ ap is_eq e

-- every target before the place is below q, and every one from there on is above
abbrev IsBetween : List Bytes → Bytes → ℕ → Type 0
IsBetween all q i = ((k : ℕ) (d : Bytes) → 0 ≤ k → k < i → R (get_or all k d) q ≡ Less) × ((k : ℕ) (d : Bytes) → i ≤ k → k < length all → R (get_or all k d) q ≡ Greater)

side : (all : List Bytes) (q : Bytes) (i k : ℕ) (d : Bytes) → k < length all → (k < i) ⊎ (i ≤ k) → IsBetween all q i → bytes_eq (get_or all k d) q ≡ false
side all q i k d within (inl before) parts = test-of _ q Less (parts.0 k d (omega arith) before)
side all q i k d within (inr past) parts = test-of _ q Greater (parts.1 k d past within)

pub searched : (all : List Bytes) (q : Bytes) (r : Result ℕ ℕ) → IsSearchInRange r (length all) → IsBinarySearchResult (λ (t : Bytes). R t q) all r → ascends all ≡ true → is_ok r ≡ is_target all q
searched [] q (Ok i) l at h = absurd (omega arith)
searched (x ∷ xs) q (Ok i) l at h = sym (list_any_at (λ (t : Bytes). bytes_eq t q) (x ∷ xs) i x l (test-of _ q Equal (at x)))
searched all q (Err i) l at h =
    let parts = at (searchable_from_sorted nat_list_cmp_total (λ (t : Bytes). t) all q (sorted all h)) in
    sym (list_any_none (λ (t : Bytes). bytes_eq t q) all (λ k d within. side all q i k d within (cases_lt k i) parts))
