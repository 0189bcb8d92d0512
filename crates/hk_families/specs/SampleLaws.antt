-- The small family keeps the laws.
use Rattle.std.proofs.Common.{◌≡◌, ◌≢◌, refl, sym, ap, ◌∙◌, subst, arith, ℕ, zero, suc, ◌<◌, true, false, cond, List, [], ◌∷◌, length, Option, Some, None, is_some, nat_eq, filter, not, eq-eqb, eqb-true, get_or, remove}
use Rattle.std.specs.List.{AllByRecursion, IsDistinct, list_any, slice_get}
use Rattle.std.proofs.Math.Path.{fun_ext}
use Rattle.hk_chain.specs.declared.page.Page.{Page}
use Rattle.hk_chain.specs.declared.fault.Fault.TheVariants as faults
use Rattle.hk_chain.specs.Facts.{FactsView, group, save}
use Rattle.hk_chain.specs.Layout.{IsShape, pairs, item_of, final_of}
use Rattle.hk_chain.proofs.Layouts.{counts-layout}
use Rattle.hk_fix.specs.Pages.{Pages, lacking, all_pages, tell}
use Rattle.hk_fix.specs.Task.{done, fault, waits, run, answered}
use Rattle.hk_fix.specs.Run.{Save, saves_of, IsRun}
use Rattle.hk_fix.specs.Facts.{facts_of, whole_log}
use Rattle.hk_fix.specs.Chains.{AllGroups, Saves}
use Rattle.hk_families.specs.Sample.{sample_shape, empty_page, own_pair, last_pair, first_need, second_need, sample_end, sample_task, sample_run, told_of, left_of}
use Rattle.hk_fix.specs.ChainLaws.{chains-run}

pub sample-is_shape : IsShape sample_shape
sample-is_shape = (counts-layout (1 ∷ 1 ∷ 1 ∷ []) (omega arith) (omega arith)).shape

distinct : (i : ℕ) → AllGroups (IsDistinct nat_eq) (sample_task i)
unfolding IsDistinct
distinct zero = (((refl, tt), (tt, tt)), λ xs. tt)
distinct (suc zero) = (((refl, tt), (tt, tt)), λ xs. tt)
distinct (suc (suc n)) = (((refl, tt), (tt, tt)), λ xs. tt)

within : (i : ℕ) → AllGroups (AllByRecursion (λ p. p < pairs sample_shape)) (sample_task i)
within zero = ((omega arith, (omega arith, tt)), λ xs. tt)
within (suc zero) = ((omega arith, (omega arith, tt)), λ xs. tt)
within (suc (suc n)) = ((omega arith, (omega arith, tt)), λ xs. tt)

saving : (i : ℕ) → Saves (own_pair i ∷ []) (sample_task i)
saving zero = (refl, λ xs. tt)
saving (suc zero) = (refl, λ xs. tt)
saving (suc (suc n)) = (refl, λ xs. tt)

own-is : (i : ℕ) → i < 3 → (own_pair i < 6) × (item_of sample_shape (own_pair i) ≡ i) × (own_pair i ≢ final_of sample_shape i)
own-is zero lt = (omega arith, refl, λ e. omega arith)
own-is (suc zero) lt = (omega arith, refl, λ e. omega arith)
own-is (suc (suc zero)) lt = (omega arith, refl, λ e. omega arith)
own-is (suc (suc (suc n))) lt = absurd (omega arith)

all-are : (i p : ℕ) → p < 6 → item_of sample_shape p ≡ i → p ≢ final_of sample_shape i → list_any (nat_eq p) (own_pair i ∷ []) ≡ true
all-are i zero lt e ne = subst (λ (n : ℕ). list_any (nat_eq 0) (own_pair n ∷ []) ≡ true) e refl
all-are i (suc zero) lt e ne = absurd (subst (λ (n : ℕ). 1 ≢ final_of sample_shape n) (sym e) ne refl)
all-are i (suc (suc zero)) lt e ne = subst (λ (n : ℕ). list_any (nat_eq 2) (own_pair n ∷ []) ≡ true) e refl
all-are i (suc (suc (suc zero))) lt e ne = absurd (subst (λ (n : ℕ). 3 ≢ final_of sample_shape n) (sym e) ne refl)
all-are i (suc (suc (suc (suc zero)))) lt e ne = subst (λ (n : ℕ). list_any (nat_eq 4) (own_pair n ∷ []) ≡ true) e refl
all-are i (suc (suc (suc (suc (suc zero))))) lt e ne = absurd (subst (λ (n : ℕ). 5 ≢ final_of sample_shape n) (sym e) ne refl)
all-are i (suc (suc (suc (suc (suc (suc n)))))) lt e ne = absurd (omega arith)

pub sample-is_run : IsRun sample_shape sample_run
sample-is_run =
    chains-run sample_shape sample_task (λ i. own_pair i ∷ []) (record {
      distinct = λ i lt. distinct i;
      within = λ i lt. within i;
      saves = λ i lt. saving i;
      in_order = λ i lt. record {
        own = (own-is i lt, tt);
        rising = (tt, tt);
        all = λ p below of ne. all-are i p below of ne;
      };
    })

pub saves-first : (i : ℕ) (k : Pages) → slice_get (saves_of (sample_run i k).log) 0 ≡ Some (let s : Save = record { pair = own_pair i; page = empty_page } in s)
saves-first i k = refl

end-saves : (i : ℕ) (k : Pages) → saves_of (run (sample_end i) k).log ≡ []
end-saves zero k = refl
end-saves (suc zero) k = refl
end-saves (suc (suc n)) k = refl

pub saves-are : (i : ℕ) (k : Pages) → saves_of (sample_run i k).log ≡ (let s : Save = record { pair = own_pair i; page = empty_page } in s ∷ [])
saves-are i k =
    ap (λ (l : List Save). (let s : Save = record { pair = own_pair i; page = empty_page } in s ∷ l)) (elim (all_pages k (first_need i ∷ second_need i ∷ [])) as (λ o. saves_of (answered (first_need i ∷ second_need i ∷ []) (lacking k (first_need i ∷ second_need i ∷ [])) (λ xs. run (sample_end i) k) o).log ≡ []) [
      | None ↦ refl
      | Some xs ↦ end-saves i k
    ])

pub asks-run : (i : ℕ) (k : Pages) → k (first_need i) ≡ None → k (second_need i) ≡ None → (sample_run i k).end ≡ waits (first_need i ∷ second_need i ∷ [])
asks-run i k e f = rw (e, f) refl

end-goes : (i : ℕ) (k : Pages) → i < 2 → (run (sample_end i) k).end ≡ done empty_page
end-goes zero k lt = refl
end-goes (suc zero) k lt = refl
end-goes (suc (suc n)) k lt = absurd (omega arith)

pub done-run : (i : ℕ) (k : Pages) (x y : Page) → i < 2 → k (first_need i) ≡ Some x → k (second_need i) ≡ Some y → (sample_run i k).end ≡ done empty_page
done-run i k x y lt e f = rw (e, f) (end-goes i k lt)

pub fail-run : (i : ℕ) (k : Pages) (x y : Page) → i ≡ 2 → k (first_need i) ≡ Some x → k (second_need i) ≡ Some y → (sample_run i k).end ≡ fault faults.TooDeep
fail-run i k x y two e f = subst (λ (n : ℕ). k (first_need n) ≡ Some x → k (second_need n) ≡ Some y → (sample_run n k).end ≡ fault faults.TooDeep) (sym two) (λ g h. rw (g, h) refl) e f

pub facts-are : (i : ℕ) (k : Pages) (x y : Page) → i < 2 → k (first_need i) ≡ Some x → k (second_need i) ≡ Some y
    → facts_of (whole_log sample_shape i (sample_run i k)) ≡ (let f : FactsView = record { asks = first_need i ∷ second_need i ∷ []; patterns = []; trace = save (own_pair i) ∷ group (first_need i ∷ second_need i ∷ []) ∷ save (last_pair i) ∷ [] } in f)
facts-are zero k x y lt e f = rw (e, f) refl
facts-are (suc zero) k x y lt e f = rw (e, f) refl
facts-are (suc (suc n)) k x y lt e f = absurd (omega arith)

-- what was told

pub told-first_at : (a b : ℕ) (one two : Option Page) → told_of a b one two a ≡ one
told-first_at a b one two = rw (eq-eqb a a refl) refl

pub told-second_at : (a b : ℕ) (one two : Option Page) → nat_eq a b ≡ false → told_of a b one two b ≡ two
told-second_at a b one two e = rw (e, eq-eqb b b refl) refl

pub tell-first : (a b : ℕ) (one two : Option Page) (x : Page) → tell (told_of a b one two) a x ≡ told_of a b (Some x) two
tell-first a b one two x = fun_ext (λ q. elim (nat_eq a q) as (λ t. cond t (Some x) (cond t one (cond (nat_eq b q) two None)) ≡ cond t (Some x) (cond (nat_eq b q) two None)) [ true ↦ refl | false ↦ refl ])

pub tell-second : (a b : ℕ) (one two : Option Page) (x : Page) → nat_eq a b ≡ false → tell (told_of a b one two) b x ≡ told_of a b one (Some x)
tell-second a b one two x ne =
    fun_ext (λ q. elim (nat_eq b q) as (λ t. nat_eq b q ≡ t → cond t (Some x) (cond (nat_eq a q) one (cond t two None)) ≡ cond (nat_eq a q) one (cond t (Some x) None)) [
      | true ↦ λ e. let f : nat_eq a q ≡ false = sym (ap (nat_eq a) (eqb-true b q e)) ∙ ne in rw f refl
      | false ↦ λ e. refl
    ] refl)

other-way : (a b : ℕ) → nat_eq a b ≡ false → nat_eq b a ≡ false
other-way a b t = grind (arith, t)

pub left-first : (a b : ℕ) (one two : Option Page) (x : Page) → nat_eq a b ≡ false → filter (λ q. not (nat_eq a q)) (left_of a b one two) ≡ left_of a b (Some x) two
left-first a b None None x ne = rw (eq-eqb a a refl, ne) refl
left-first a b None (Some y) x ne = rw (eq-eqb a a refl) refl
left-first a b (Some z) None x ne = rw ne refl
left-first a b (Some z) (Some y) x ne = refl

pub left-second : (a b : ℕ) (one two : Option Page) (x : Page) → nat_eq a b ≡ false → filter (λ q. not (nat_eq b q)) (left_of a b one two) ≡ left_of a b one (Some x)
left-second a b None None x ne = rw (eq-eqb b b refl, other-way a b ne) refl
left-second a b None (Some y) x ne = rw (other-way a b ne) refl
left-second a b (Some z) None x ne = rw (eq-eqb b b refl) refl
left-second a b (Some z) (Some y) x ne = refl

pub left-none : (a b : ℕ) (one two : Option Page) → left_of a b one two ≡ [] → (is_some one ≡ true) × (is_some two ≡ true)
left-none a b None None e = cc
left-none a b None (Some y) e = cc
left-none a b (Some x) None e = cc
left-none a b (Some x) (Some y) e = (refl, refl)

pub left-distinct : (a b : ℕ) (one two : Option Page) → nat_eq a b ≡ false → IsDistinct nat_eq (left_of a b one two)
unfolding IsDistinct
left-distinct a b None None ne = ((ne, tt), (tt, tt))
left-distinct a b None (Some y) ne = (tt, tt)
left-distinct a b (Some x) None ne = (tt, tt)
left-distinct a b (Some x) (Some y) ne = tt

pub needs-apart : (i : ℕ) → nat_eq (first_need i) (second_need i) ≡ false
needs-apart zero = refl
needs-apart (suc zero) = refl
needs-apart (suc (suc n)) = refl

-- a list without repeats without one of its members
pub taken-out : (xs : List ℕ) (i p : ℕ) → i < length xs → get_or xs i 0 ≡ p → IsDistinct nat_eq xs → remove xs i ≡ filter (λ q. not (nat_eq p q)) xs
unfolding IsDistinct
taken-out [] i p lt e d = absurd (omega arith)
taken-out (x ∷ xs) zero p lt e d =
    let s : nat_eq p x ≡ true = eq-eqb p x (sym e) in
    rw s (sym (keeps xs (subst (λ (y : ℕ). AllByRecursion (λ z. nat_eq y z ≡ false) xs) e d.0)))
  where
    keeps : (ys : List ℕ) → AllByRecursion (λ z. nat_eq p z ≡ false) ys → filter (λ q. not (nat_eq p q)) ys ≡ ys
    keeps [] h = refl
    keeps (y ∷ ys) h = rw h.0 (ap (λ l. y ∷ l) (keeps ys h.1))
taken-out (x ∷ xs) (suc i) p lt e d =
    let s : nat_eq p x ≡ false = other-way x p (at xs i (omega arith) e d.0) in
    rw s (ap (λ l. x ∷ l) (taken-out xs i p (omega arith) e d.1))
  where
    at : (ys : List ℕ) (j : ℕ) → j < length ys → get_or ys j 0 ≡ p → AllByRecursion (λ z. nat_eq x z ≡ false) ys → nat_eq x p ≡ false
    at [] j l f h = absurd (omega arith)
    at (y ∷ ys) zero l f h = subst (λ (z : ℕ). nat_eq x z ≡ false) f h.0
    at (y ∷ ys) (suc j) l f h = at ys j (omega arith) f h.1
