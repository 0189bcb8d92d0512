-- Items on stacks: what a push and a pop leave linked.
use Rattle.std.proofs.Common.{◌≡◌, refl, sym, ap, ◌∙◌, subst, ℕ, zero, suc, ◌+◌, ◌<◌, ◌≤◌, true, false, cond, ◌||◌, List, [], ◌∷◌, length, Option, Some, None, nat_eq, nat_lt, arith, eqb-true, eq-eqb, ltb-true, ltb-false, slice_set, get_or, replicate, ◌-◌, get_or-set_same, get_or-set_other, length-set, inl, inr}
use Rattle.std.proofs.lemmas.List.{get_or_past, get_or_default, length-replicate}
use Rattle.hk_chain.specs.Kept.{at_place}
use Rattle.hk_fix.specs.Facts.{is_in}
use Rattle.hk_fix.proofs.Orders.{clash, decide}
use Rattle.hk_sched.specs.declared.stacks.Stack.{Stack}
use Rattle.hk_sched.specs.declared.stacks.Stack.TheVariants.{Fresh, Woken, Waiting}
use Rattle.hk_sched.specs.Stacks.{stack_index, HasStack, is_on, IsChain, IsStack, AreStacks}

pub place-set : {A : Type 0} (xs : List (Option A)) (i : ℕ) (v : Option A) (j : ℕ) → i < length xs → at_place (slice_set xs i v) j ≡ cond (nat_eq j i) v (at_place xs j)
place-set xs i v j lt =
    elim (decide (nat_eq j i)) [
      | inl t ↦ rw (t, eqb-true j i t) (get_or-set_same xs i v None lt)
      | inr f ↦ rw f (get_or-set_other xs i j v None (λ q. clash (nat_eq j i) f (eq-eqb j i q)))
    ]

chain-set : (next : List (Option ℕ)) (i : ℕ) (v : Option ℕ) (top : Option ℕ) (xs : List ℕ) → is_in xs i ≡ false → IsChain next top xs → IsChain (slice_set next i v) top xs
chain-set next i v top [] n c = c
chain-set next i v top (x ∷ xs) n c =
    elim (decide (nat_eq i x)) [
      | inl t ↦ clash (nat_eq i x || is_in xs i) n (rw t refl)
      | inr f ↦ (
        c.0,
        rw (get_or-set_other next i x v None (λ q. clash (nat_eq i x) f (eq-eqb i x (sym q)))) (chain-set next i v (at_place next x) xs (rw f at n) c.1),
      )
    ]

index-same : (s t : Stack) → stack_index s ≡ stack_index t → s ≡ t
index-same Fresh Fresh e = refl
index-same Fresh Woken e = absurd (omega arith)
index-same Fresh (Waiting q) e = absurd (omega arith)
index-same Woken Fresh e = absurd (omega arith)
index-same Woken Woken e = refl
index-same Woken (Waiting q) e = absurd (omega arith)
index-same (Waiting p) Fresh e = absurd (omega arith)
index-same (Waiting p) Woken e = absurd (omega arith)
index-same (Waiting p) (Waiting q) e = ap Waiting (omega arith)

pub on-same : (s : Stack) (o : Option Stack) → is_on s o ≡ true → o ≡ Some s
on-same s None e = cc
on-same s (Some t) e = ap Some (sym (index-same s t (eqb-true (stack_index s) (stack_index t) e)))

pub on-itself : (s : Stack) → is_on s (Some s) ≡ true
on-itself s = eq-eqb (stack_index s) (stack_index s) refl

alike-on : (s t : Stack) (o : Option Stack) → stack_index t ≡ stack_index s → is_on t o ≡ is_on s o
alike-on s t None e = refl
alike-on s t (Some u) e = rw e refl

module _ (tops next : List (Option ℕ)) (stack_of : List (Option Stack)) (are : AreStacks tops next stack_of) (s : Stack) (here : stack_index s < length tops) where
  pub pushed : (i : ℕ) → at_place stack_of i ≡ None → i < length stack_of → AreStacks (slice_set tops (stack_index s) (Some i)) (slice_set next i (at_place tops (stack_index s))) (slice_set stack_of i (Some s))
  pushed i free lt =
      record {
        linked = length-set next i (at_place tops (stack_index s)) ∙ are.linked ∙ sym (length-set stack_of i (Some s));
        each = λ t below. elim (decide (nat_eq (stack_index t) (stack_index s))) [
          | inl e ↦ same t e
          | inr f ↦ other t f (omega (arith, below, length-set tops (stack_index s) (Some i)))
        ];
      }
    where
      top : Option ℕ
      top = at_place tops (stack_index s)

      was : (items : List ℕ) × IsStack next (at_place tops (stack_index s)) (λ j. is_on s (at_place stack_of j)) items
      was = are.each s here

      not-in : is_in was.0 i ≡ false
      not-in = was.1.all i ∙ rw free refl

      same : (t : Stack) → nat_eq (stack_index t) (stack_index s) ≡ true
          → (items : List ℕ) × IsStack (slice_set next i (at_place tops (stack_index s))) (at_place (slice_set tops (stack_index s) (Some i)) (stack_index t)) (λ j. is_on t (at_place (slice_set stack_of i (Some s)) j)) items
      same t e = (
        i ∷ was.0,
        record {
          chain = (
            rw (eqb-true (stack_index t) (stack_index s) e) (get_or-set_same tops (stack_index s) (Some i) None here),
            rw (get_or-set_same next i (at_place tops (stack_index s)) None (omega (arith, lt, are.linked))) (chain-set next i (at_place tops (stack_index s)) (at_place tops (stack_index s)) was.0 not-in was.1.chain),
          );
          once = (not-in, was.1.once);
          all = λ j. rw (place-set stack_of i (Some s) j lt) (members j);
        },
      )
        where
          members : (j : ℕ) → (nat_eq j i || is_in was.0 j) ≡ is_on t (cond (nat_eq j i) (Some s) (at_place stack_of j))
          members j =
              elim (nat_eq j i) as (λ b. (b || is_in was.0 j) ≡ is_on t (cond b (Some s) (at_place stack_of j))) [
                | true ↦ sym e
                | false ↦ was.1.all j ∙ sym (alike-on s t (at_place stack_of j) (eqb-true (stack_index t) (stack_index s) e))
              ]

      other : (t : Stack) → nat_eq (stack_index t) (stack_index s) ≡ false → stack_index t < length tops
          → (items : List ℕ) × IsStack (slice_set next i (at_place tops (stack_index s))) (at_place (slice_set tops (stack_index s) (Some i)) (stack_index t)) (λ j. is_on t (at_place (slice_set stack_of i (Some s)) j)) items
      other t f below =
          let w : (items : List ℕ) × IsStack next (at_place tops (stack_index t)) (λ j. is_on t (at_place stack_of j)) items = are.each t below in
          let away : is_in w.0 i ≡ false = w.1.all i ∙ ap (is_on t) free in (
            w.0,
            record {
              chain =
                  rw (get_or-set_other tops (stack_index s) (stack_index t) (Some i) None (λ q. clash (nat_eq (stack_index t) (stack_index s)) f (eq-eqb (stack_index t) (stack_index s) q)))
                  (chain-set next i (at_place tops (stack_index s)) (at_place tops (stack_index t)) w.0 away w.1.chain);
              once = w.1.once;
              all = λ j. rw (place-set stack_of i (Some s) j lt) (elim (decide (nat_eq j i)) [
                | inl q ↦ rw q (ap (is_in w.0) (eqb-true j i q) ∙ away ∙ sym f)
                | inr q ↦ rw q (w.1.all j)
              ]);
            },
          )

  -- the stack's items, its top first
  topped : (i : ℕ) → at_place tops (stack_index s) ≡ Some i → (rest : List ℕ) × IsStack next (at_place tops (stack_index s)) (λ j. is_on s (at_place stack_of j)) (i ∷ rest)
  topped i at = go (are.each s here)
    where
      go : (items : List ℕ) × IsStack next (at_place tops (stack_index s)) (λ j. is_on s (at_place stack_of j)) items → (rest : List ℕ) × IsStack next (at_place tops (stack_index s)) (λ j. is_on s (at_place stack_of j)) (i ∷ rest)
      go ([], w) = (let no : ◌≡◌ {A = Option ℕ} (Some i) None = sym at ∙ w.chain in cc)
      go (x ∷ xs, w) =
          let both : ◌≡◌ {A = Option ℕ} (Some x) (Some i) = sym w.chain.0 ∙ at in
          let same : x ≡ i = cc both in
          (xs, subst (λ (y : ℕ). IsStack next (at_place tops (stack_index s)) (λ j. is_on s (at_place stack_of j)) (y ∷ xs)) same w)

  pub on-top : (i : ℕ) → at_place tops (stack_index s) ≡ Some i → at_place stack_of i ≡ Some s
  on-top i at = on-same s (at_place stack_of i) (sym ((topped i at).1.all i) ∙ rw (eq-eqb i i refl) refl)

  pub top-below : (i : ℕ) → at_place tops (stack_index s) ≡ Some i → i < length stack_of
  top-below i at =
      elim (decide (nat_lt i (length stack_of))) [
        | inl t ↦ ltb-true i (length stack_of) t
        | inr f ↦ (let no : ◌≡◌ {A = Option Stack} None (Some s) = sym (get_or_past stack_of i None (ltb-false i (length stack_of) f)) ∙ on-top i at in cc)
      ]

  pub none-on : at_place tops (stack_index s) ≡ None → (i : ℕ) → is_on s (at_place stack_of i) ≡ false
  none-on at i = go (are.each s here)
    where
      go : (items : List ℕ) × IsStack next (at_place tops (stack_index s)) (λ j. is_on s (at_place stack_of j)) items → is_on s (at_place stack_of i) ≡ false
      go ([], w) = sym (w.all i)
      go (x ∷ xs, w) = (let no : ◌≡◌ {A = Option ℕ} (Some x) None = sym w.chain.0 ∙ at in cc)

  pub popped : (i : ℕ) → at_place tops (stack_index s) ≡ Some i → AreStacks (slice_set tops (stack_index s) (at_place next i)) next (slice_set stack_of i None)
  popped i at =
      record {
        linked = are.linked ∙ sym (length-set stack_of i None);
        each = λ t below. elim (decide (nat_eq (stack_index t) (stack_index s))) [
          | inl e ↦ same t e
          | inr f ↦ other t f (omega (arith, below, length-set tops (stack_index s) (at_place next i)))
        ];
      }
    where
      was : (rest : List ℕ) × IsStack next (at_place tops (stack_index s)) (λ j. is_on s (at_place stack_of j)) (i ∷ rest)
      was = topped i at

      lt : i < length stack_of
      lt = top-below i at

      same : (t : Stack) → nat_eq (stack_index t) (stack_index s) ≡ true
          → (items : List ℕ) × IsStack next (at_place (slice_set tops (stack_index s) (at_place next i)) (stack_index t)) (λ j. is_on t (at_place (slice_set stack_of i None) j)) items
      same t e = (
        was.0,
        record {
          chain = rw (eqb-true (stack_index t) (stack_index s) e, get_or-set_same tops (stack_index s) (at_place next i) None here) was.1.chain.1;
          once = was.1.once.1;
          all = λ j. rw (place-set stack_of i None j lt) (elim (decide (nat_eq j i)) [
            | inl q ↦ rw q (ap (is_in was.0) (eqb-true j i q) ∙ was.1.once.0)
            | inr q ↦ rw q (sym (rw q refl) ∙ was.1.all j ∙ sym (alike-on s t (at_place stack_of j) (eqb-true (stack_index t) (stack_index s) e)))
          ]);
        },
      )

      other : (t : Stack) → nat_eq (stack_index t) (stack_index s) ≡ false → stack_index t < length tops
          → (items : List ℕ) × IsStack next (at_place (slice_set tops (stack_index s) (at_place next i)) (stack_index t)) (λ j. is_on t (at_place (slice_set stack_of i None) j)) items
      other t f below =
          let w : (items : List ℕ) × IsStack next (at_place tops (stack_index t)) (λ j. is_on t (at_place stack_of j)) items = are.each t below in (
            w.0,
            record {
              chain = rw (get_or-set_other tops (stack_index s) (stack_index t) (at_place next i) None (λ q. clash (nat_eq (stack_index t) (stack_index s)) f (eq-eqb (stack_index t) (stack_index s) q))) w.1.chain;
              once = w.1.once;
              all = λ j. rw (place-set stack_of i None j lt) (elim (decide (nat_eq j i)) [
                | inl q ↦ rw q (ap (is_in w.0) (eqb-true j i q) ∙ w.1.all i ∙ ap (is_on t) (on-top i at) ∙ f)
                | inr q ↦ rw q (w.1.all j)
              ]);
            },
          )

pub has-place : (s : Stack) (n : ℕ) → 2 ≤ n → HasStack (n - 2) s → stack_index s < n
has-place Fresh n h w = omega arith
has-place Woken n h w = omega arith
has-place (Waiting p) n h w = omega (arith, w)

pub read-at : {A : Type 0} (xs : List (Option A)) (n k : ℕ) (o : Option A) → o ≡ get_or xs n o → n ≡ k → k < length xs → at_place xs k ≡ o
read-at xs n k o e same lt = ap (λ j. at_place xs j) (sym same) ∙ get_or_default xs n None o (omega (arith, same, lt)) ∙ sym e

pub unset : {A : Type 0} (n i : ℕ) → at_place {A = A} (replicate n None) i ≡ None
unset zero i = refl
unset (suc n) zero = refl
unset (suc n) (suc i) = unset n i

pub opened : (tops next : List (Option ℕ)) (stack_of : List (Option Stack)) (pairs items : ℕ) → tops ≡ replicate (pairs + 2) None → next ≡ replicate items None → stack_of ≡ replicate items None → AreStacks tops next stack_of × (2 ≤ length tops)
opened tops next stack_of pairs items t n s = (
  record {
    linked = rw (n, s) (simp length-replicate refl);
    each = λ k below. (
      [],
      record {
        chain = rw (t, unset {A = ℕ} (pairs + 2) (stack_index k)) refl;
        once = tt;
        all = λ i. rw (s, unset {A = Stack} items i) refl;
      },
    );
  },
  rw t (rw length-replicate (omega arith)),
)

module _ (tops next : List (Option ℕ)) (stack_of : List (Option Stack)) (are : AreStacks tops next stack_of × (2 ≤ length tops)) (s : Stack) (place : ℕ) (is : place ≡ stack_index s) (has : HasStack (length tops - 2) s) where
  pub push-links : (i a b : ℕ) (old : Option ℕ) → a ≡ i → b ≡ i → old ≡ get_or tops place old → at_place stack_of i ≡ None → i < length stack_of
      → AreStacks (slice_set tops place (Some i)) (slice_set next a old) (slice_set stack_of b (Some s)) × (2 ≤ length (slice_set tops place (Some i)))
  push-links i a b old ea eb read free lt =
      let here : stack_index s < length tops = has-place s (length tops) are.1 has in
      let top : at_place tops (stack_index s) ≡ old = read-at tops place (stack_index s) old read is here in
      (rw (is, ea, eb, ← top) (pushed tops next stack_of are.0 s here i free lt), omega (arith, length-set tops place (Some i), are.1))

  module _ (i : ℕ) (old : Option ℕ) (read : old ≡ get_or tops place old) (at : old ≡ Some i) where
    here : stack_index s < length tops
    here = has-place s (length tops) are.1 has

    top : at_place tops (stack_index s) ≡ Some i
    top = read-at tops place (stack_index s) old read is here ∙ at

    pub pop-below : i < length stack_of
    pop-below = top-below tops next stack_of are.0 s here i top

    pub pop-linked : i < length next
    pop-linked = omega (arith, pop-below, are.0.linked)

    pub pop-on : at_place stack_of i ≡ Some s
    pop-on = on-top tops next stack_of are.0 s here i top

    pub pop-links : (a b : ℕ) (after : Option ℕ) → a ≡ i → b ≡ i → after ≡ get_or next b after
        → AreStacks (slice_set tops place after) next (slice_set stack_of a None) × (2 ≤ length (slice_set tops place after))
    pop-links a b after ea eb r =
        let next-is : at_place next i ≡ after = read-at next b i after r eb pop-linked in
        (rw (is, ea, ← next-is) (popped tops next stack_of are.0 s here i top), omega (arith, length-set tops place after, are.1))

  pub empty-none : (old : Option ℕ) → old ≡ get_or tops place old → old ≡ None → (i : ℕ) → is_on s (at_place stack_of i) ≡ false
  empty-none old read at i =
      let here : stack_index s < length tops = has-place s (length tops) are.1 has in
      none-on tops next stack_of are.0 s here (read-at tops place (stack_index s) old read is here ∙ at) i
