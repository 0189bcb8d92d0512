-- A binary search among pages in the order of their targets finds exactly the pages.
use Rattle.std.proofs.Common.{◌≡◌, ℕ, ◌<◌, ◌≤◌, true, false, List, [], ◌∷◌, refl, sym, ap, subst, ◌∙◌, arith, length, get_or, Result, Ok, Err, ◌⊎◌, inl, inr, suc, zero, add-one}
use Rattle.std.proofs.lemmas.Bool.{cases_lt}
use Rattle.std.specs.Prelude.{◌||◌, T, bytes_eq, is_ok}
use Rattle.std.specs.List.{list_any}
use Rattle.std.specs.Ordering.{nat_cmp, is_eq, is_lt, ordering_reverse}
use Rattle.std.specs.Cmp.Lexicographic.{slice_cmp, nat_list_cmp_total}
use Rattle.std.specs.List.Sorted.{IsBinarySearchResult, IsSearchInRange, IsSortedBy}
use Rattle.std.proofs.lemmas.List.Sorted.{searchable_from_sorted}
use Rattle.std.proofs.lemmas.List.Folds.{list_any_none, list_any_at}
use Rattle.std.specs.declared.cmp.Ordering.{Ordering}
use Rattle.std.specs.declared.cmp.Ordering.TheVariants.{Less, Equal, Greater}
use Rattle.std.proofs.lemmas.Map.Text.{is_eq-slice_cmp}
use Rattle.hk_base.specs.Bytes.{Bytes, ascends, paths_of}
use Rattle.hk_base.proofs.Both.{left-part, right-part}
use Rattle.hk_writer.specs.declared.page_out.PageOut.{PageOut}
use Rattle.hk_writer.specs.Pages.{pages_of}
use Rattle.hk_writer.specs.Writing.{is_page}

abbrev R : Bytes → Bytes → Ordering
R = slice_cmp nat_cmp

not-less : (o : Ordering) → is_lt o ≡ true → is_lt (ordering_reverse o) ≡ false
not-less Less e = refl
not-less Equal e = absurd (subst T (sym e) tt)
not-less Greater e = absurd (subst T (sym e) tt)

rises : (outs : List PageOut) (k : ℕ) (d : PageOut) → ascends (paths_of (pages_of outs)) ≡ true → suc k < length outs → is_lt (R (get_or outs k d).target (get_or outs (suc k) d).target) ≡ true
rises [] k d h l = absurd (omega arith)
rises (x ∷ []) k d h l = absurd (omega arith)
rises (x ∷ y ∷ ys) zero d h l = left-part _ _ (left-part _ _ h)
rises (x ∷ y ∷ ys) (suc k) d h l = rises (y ∷ ys) k d (right-part _ _ h) (omega arith)

sorted-pages : (outs : List PageOut) → ascends (paths_of (pages_of outs)) ≡ true → IsSortedBy (λ a b. is_lt (R a.target b.target)) outs
sorted-pages outs h k d low l =
    rw (add-one k) (ap is_lt (nat_list_cmp_total.antisymm (get_or outs (suc k) d).target (get_or outs k d).target) ∙ not-less _ (rises outs k d h (omega arith)))

test-of : (x q : Bytes) (o : Ordering) → R x q ≡ o → bytes_eq x q ≡ is_eq o
test-of x q o e = sym (is_eq-slice_cmp x q) ∙ ap is_eq e

-- every page before the place is below q, and every page from there on is above
abbrev IsBetween : List PageOut → Bytes → ℕ → Type 0
IsBetween outs q i = ((k : ℕ) (d : PageOut) → 0 ≤ k → k < i → R (get_or outs k d).target q ≡ Less) × ((k : ℕ) (d : PageOut) → i ≤ k → k < length outs → R (get_or outs k d).target q ≡ Greater)

side : (outs : List PageOut) (q : Bytes) (i k : ℕ) (d : PageOut) → k < length outs → (k < i) ⊎ (i ≤ k) → IsBetween outs q i → bytes_eq (get_or outs k d).target q ≡ false
side outs q i k d within (inl before) parts = test-of _ q Less (parts.0 k d (omega arith) before)
side outs q i k d within (inr past) parts = test-of _ q Greater (parts.1 k d past within)

any-of : (outs : List PageOut) (q : Bytes) → is_page (pages_of outs) q ≡ list_any (λ (p : PageOut). bytes_eq p.target q) outs
any-of [] q = refl
any-of (p ∷ ps) q = ap (λ b. bytes_eq p.target q || b) (any-of ps q)

pub searched : (outs : List PageOut) (q : Bytes) (r : Result ℕ ℕ) → IsSearchInRange r (length outs) → IsBinarySearchResult (λ (p : PageOut). R p.target q) outs r → ascends (paths_of (pages_of outs)) ≡ true → is_ok r ≡ is_page (pages_of outs) q
searched [] q (Ok i) l at h = absurd (omega arith)
searched (x ∷ xs) q (Ok i) l at h = sym (any-of (x ∷ xs) q ∙ list_any_at (λ (p : PageOut). bytes_eq p.target q) (x ∷ xs) i x l (test-of _ q Equal (at x)))
searched outs q (Err i) l at h =
    let parts = at (searchable_from_sorted nat_list_cmp_total (λ (p : PageOut). p.target) outs q (sorted-pages outs h)) in
    sym (any-of outs q ∙ list_any_none (λ (p : PageOut). bytes_eq p.target q) outs (λ k d within. side outs q i k d within (cases_lt k i) parts))
