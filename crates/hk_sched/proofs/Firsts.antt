-- A roster at first.
use Rattle.std.proofs.Common.{◌≡◌, refl, sym, ap, ◌∙◌, subst, ℕ, zero, suc, ◌-◌, ◌<◌, ◌≤◌, false, inl, inr, List, [], ◌∷◌, length, map, replicate, Option, Some, None, nat_eq, arith, eqb-true, eq-eqb, ne_eqb, nat_le, leb-true, leb-false, slice_index, slice_set, length-set}
use Rattle.std.proofs.lemmas.List.{length-map, ext_get_or, length-replicate, get_or_past, set-get_or}
use Rattle.std.proofs.Math.ListN.{get_or-map}
use Rattle.hk_chain.specs.declared.page.Page.{Page}
use Rattle.hk_chain.specs.Facts.{FactsView}
use Rattle.hk_chain.specs.Kept.{at_place}
use Rattle.hk_fix.specs.Pages.{Pages}
use Rattle.hk_fix.specs.Meaning.{Meaning}
use Rattle.hk_fix.proofs.Orders.{clash, decide}
use Rattle.hk_sched.specs.declared.stacks.Stack.{Stack}
use Rattle.hk_sched.specs.declared.place.Place.{Place}
use Rattle.hk_sched.specs.declared.place.Place.TheVariants.{Unbegun, Again, Out, Held, Over}
use Rattle.hk_sched.specs.Places.{standing}
use Rattle.hk_sched.specs.Stacks.{StacksView}
use Rattle.hk_sched.specs.Standings.{Standing, nowhere, standing_at, stack_for, first_standing}
use Rattle.hk_sched.specs.Rosters.{IsCursor, IsRoster, first_stack}
use Rattle.hk_sched.proofs.Chains.{place-set, unset}

module _ {X C : Type 0} (meaning : X → Meaning C) where
  one-first : (k : Pages) (f : Option FactsView) → first_stack {X = X} (first_standing f) ≡ stack_for meaning k (first_standing f)
  one-first k None = refl
  one-first k (Some facts) = refl

  firsts-are : (k : Pages) (fs : List (Option FactsView)) → map (first_stack {X = X}) (map first_standing fs) ≡ map (stack_for meaning k) (map first_standing fs)
  firsts-are k [] = refl
  firsts-are k (f ∷ fs) = λ j. one-first k f j ∷ firsts-are k fs j

  first-cursor : (known : List (Option Page)) (fs : List (Option FactsView)) (i c : ℕ) → IsCursor meaning known (standing_at (map first_standing fs) i) c
  first-cursor known [] i c = tt
  first-cursor known (None ∷ fs) zero c = tt
  first-cursor known (Some f ∷ fs) zero c = tt
  first-cursor known (f ∷ fs) (suc i) c = first-cursor known fs i c

  pub first-fits : (known : List (Option Page)) (fs : List (Option FactsView)) (places : List (Standing X)) (cursors : List ℕ) (stacks : StacksView) → places ≡ map first_standing fs → length cursors ≡ length places
      → stacks ≡ record { pairs = length known; stack_of = map first_stack places } → IsRoster meaning known places cursors stacks
  first-fits known fs places cursors stacks p many s =
      record {
        stacked = s ∙ rw p (ap (λ (o : List (Option Stack)). record { pairs = length known; stack_of = o }) (firsts-are (at_place known) fs));
        many = many;
        found = λ i. rw p (first-cursor known fs i (slice_index cursors i));
      }

pub not-first : {X : Type 0} (p : Place X) → (p ≡ Unbegun → ⊥) → first_stack (standing p) ≡ None
not-first Unbegun n = absurd (n refl)
not-first Again n = refl
not-first Out n = refl
not-first (Held x) n = refl
not-first (Over e) n = refl

-- the stacks of the items from one on
pub record StoodFrom {X : Type 0} (places : List (Standing X)) (left : ℕ) (stack_of : List (Option Stack)) : Type 0 where
  pub within : left ≤ length places
  pub many : length stack_of ≡ length places
  pub stood : (i : ℕ) → left ≤ i → at_place stack_of i ≡ first_stack (standing_at places i)
  pub free : (i : ℕ) → i < left → at_place stack_of i ≡ None

module _ {X : Type 0} (places : List (Standing X)) where
  pub stood-none : (n : ℕ) → n ≡ length places → StoodFrom places n (replicate n None)
  stood-none n e =
      record {
        within = omega (arith, e);
        many = length-replicate n None ∙ e;
        stood = λ i h. unset n i ∙ sym (ap first_stack (get_or_past places i nowhere (omega (arith, h, e))));
        free = λ i h. unset n i;
      }

  module _ (left : ℕ) (stack_of : List (Option Stack)) (so : StoodFrom places left stack_of) (more : 0 < left) where
    pub stood-more : (o : Option Stack) → o ≡ first_stack (standing_at places (left - 1)) → StoodFrom places (left - 1) (slice_set stack_of (left - 1) o)
    stood-more o e =
        record {
          within = omega (arith, so.within);
          many = length-set stack_of (left - 1) o ∙ so.many;
          stood = λ i h. rw (place-set stack_of (left - 1) o i (omega (arith, so.within, so.many, more))) (elim (decide (nat_eq i (left - 1))) [
            | inl t ↦ rw (t, eqb-true i (left - 1) t) e
            | inr f ↦ rw f (so.stood i (beyond i h f))
          ]);
          free = λ i h. rw (place-set stack_of (left - 1) o i (omega (arith, so.within, so.many, more))) (rw (ne_eqb i (left - 1) (λ q. omega (arith, h, q))) (so.free i (omega (arith, h))));
        }
      where
        beyond : (i : ℕ) → left - 1 ≤ i → nat_eq i (left - 1) ≡ false → left ≤ i
        beyond i h f = elim (decide (nat_le left i)) [ inl t ↦ leb-true left i t | inr n ↦ clash (nat_eq i (left - 1)) f (eq-eqb i (left - 1) (omega (arith, h, leb-false left i n))) ]

    pub stood-same : first_stack (standing_at places (left - 1)) ≡ None → StoodFrom places (left - 1) stack_of
    stood-same e =
        subst (StoodFrom places (left - 1)) (same-set stack_of (left - 1) (so.free (left - 1) (omega (arith, more))) (omega (arith, so.within, so.many, more))) (stood-more None (sym e))
      where
        same-set : (xs : List (Option Stack)) (n : ℕ) → at_place xs n ≡ None → n < length xs → slice_set xs n None ≡ xs
        same-set xs n at lt = ap (slice_set xs n) (sym at) ∙ set-get_or xs n None

  pub stood-all : (stack_of : List (Option Stack)) → StoodFrom places 0 stack_of → stack_of ≡ map first_stack places
  stood-all stack_of so =
      ext_get_or None stack_of (map first_stack places) (so.many ∙ sym (length-map places first_stack)) (λ i lt. so.stood i (omega arith) ∙ sym (get_or-map first_stack places i nowhere))
