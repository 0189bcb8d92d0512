-- A roster's parts stay fitted to one another.
use Rattle.std.proofs.Common.{◌≡◌, refl, sym, ap, ◌∙◌, ℕ, ◌+◌, ◌<◌, true, false, cond, not, ◌⊎◌, inl, inr, List, length, map, take, Option, Some, None, is_some, is_none, nat_eq, nat_lt, arith, eqb-true, eq-eqb, ne_eqb, ltb-true, ltb-false, slice_index, slice_set, get_or, get_or-set_same, get_or-set_other, length-set}
use Rattle.std.specs.List.{sum_by}
use Rattle.std.proofs.lemmas.List.{map-set, length-map, ext_get_or, set-set, get_or_past, get_or-map as read-map}
use Rattle.std.proofs.lemmas.List.Sums.{sum_by-set}
use Rattle.std.proofs.Math.ListN.{get_or-map}
use Rattle.hk_chain.specs.declared.page.Page.{Page}
use Rattle.hk_chain.specs.Kept.{at_place}
use Rattle.hk_fix.specs.Pages.{Pages}
use Rattle.hk_fix.specs.Meaning.{Meaning}
use Rattle.hk_fix.proofs.Orders.{clash, decide}
use Rattle.hk_sched.specs.declared.stacks.Stack.{Stack}
use Rattle.hk_sched.specs.declared.stacks.Stack.TheVariants.{Waiting}
use Rattle.hk_sched.specs.Stacks.{StacksView, is_on}
use Rattle.hk_sched.specs.Standings.{Standing, unbegun, again, out, held, over, nowhere, standing_at, is_out, stack_for}
use Rattle.hk_sched.specs.declared.place.Place.{Place}
use Rattle.hk_sched.specs.Places.{standing}
use Rattle.hk_sched.specs.Rosters.{IsCursor, IsRoster, IsWaking}
use Rattle.hk_sched.proofs.Chains.{place-set, on-itself}
use Rattle.hk_sched.proofs.Lacks.{none-is, not-first, lacks-fewer, stack-moves}

-- how many items are on a stack
abbrev pub on_stack : Stack → List (Option Stack) → ℕ
on_stack s stack_of = sum_by (λ o. cond (is_on s o) 1 0) stack_of

pub index-set : (xs : List ℕ) (i v j : ℕ) → i < length xs → slice_index (slice_set xs i v) j ≡ cond (nat_eq j i) v (slice_index xs j)
index-set xs i v j lt =
    elim (decide (nat_eq j i)) [
      | inl t ↦ rw (t, eqb-true j i t) (get_or-set_same xs i v 0 lt)
      | inr f ↦ rw f (get_or-set_other xs i j v 0 (λ q. clash (nat_eq j i) f (eq-eqb j i q)))
    ]

pub standing-set : {X : Type 0} (places : List (Standing X)) (i : ℕ) (s : Standing X) (j : ℕ) → i < length places → standing_at (slice_set places i s) j ≡ cond (nat_eq j i) s (standing_at places j)
standing-set places i s j lt =
    elim (decide (nat_eq j i)) [
      | inl t ↦ rw (t, eqb-true j i t) (get_or-set_same places i s nowhere lt)
      | inr f ↦ rw f (get_or-set_other places i j s nowhere (λ q. clash (nat_eq j i) f (eq-eqb j i q)))
    ]

-- who isn't nowhere is within
pub standing-below : {X : Type 0} (places : List (Standing X)) (i : ℕ) (s : Standing X) → standing_at places i ≡ s → (nowhere ≡ s → ⊥) → i < length places
standing-below places i s at ne =
    elim (decide (nat_lt i (length places))) [
      | inl t ↦ ltb-true i (length places) t
      | inr f ↦ absurd (ne (sym (get_or_past places i nowhere (ltb-false i (length places) f)) ∙ at))
    ]

pub out-below : {X : Type 0} (places : List (Standing X)) (i : ℕ) → standing_at places i ≡ out → i < length places
out-below {X} places i at = standing-below places i out at (λ (e : ◌≡◌ {A = Standing X} nowhere out). cc)

module _ {X C : Type 0} (meaning : X → Meaning C) where
  -- an item that waits for a pair which is known goes to another stack
  pub not-waiting : (k : Pages) (p : ℕ) (s : Standing X) → is_some (k p) ≡ true → is_on (Waiting p) (stack_for meaning k s) ≡ false
  not-waiting k p unbegun has = ne_eqb (p + 2) 0 (λ e. omega arith)
  not-waiting k p again has = ne_eqb (p + 2) 0 (λ e. omega arith)
  not-waiting k p out has = refl
  not-waiting k p (held x) has = not-first k (meaning x).awaits p has
  not-waiting k p (over e) has = refl

  pub stood-at : (k : Pages) (places : List (Standing X)) (i : ℕ) → at_place (map (stack_for meaning k) places) i ≡ stack_for meaning k (standing_at places i)
  stood-at k places i = get_or-map (stack_for meaning k) places i nowhere

  module _ (known : List (Option Page)) (places : List (Standing X)) (cursors : List ℕ) (stacks : StacksView) where
    module _ (p : ℕ) (waking : IsWaking meaning known places cursors stacks p) where
      pub woken : ((i : ℕ) → is_on (Waiting p) (at_place stacks.stack_of i) ≡ false) → IsRoster meaning known places cursors stacks
      woken none =
          record {
            stacked = rw (← waking.pairs, ← same) refl;
            many = waking.many;
            found = waking.found;
          }
        where
          at : (i : ℕ) → at_place stacks.stack_of i ≡ at_place (map (stack_for meaning (at_place known)) places) i
          at i =
              elim (waking.each i) [
                | inl e ↦ e ∙ sym (stood-at (at_place known) places i)
                | inr e ↦ clash (is_on (Waiting p) (at_place stacks.stack_of i)) (none i) (ap (is_on (Waiting p)) e ∙ on-itself (Waiting p))
              ]

          same : stacks.stack_of ≡ map (stack_for meaning (at_place known)) places
          same = ext_get_or None stacks.stack_of (map (stack_for meaning (at_place known)) places) (waking.items ∙ sym (length-map places (stack_for meaning (at_place known)))) (λ i lt. at i)

      module _ (i : ℕ) (lt : i < length stacks.stack_of) where
        stood : List (Option Stack)
        stood = slice_set stacks.stack_of i None

        pub wake-one : (cursor : ℕ) → IsCursor meaning known (standing_at places i) cursor
            → IsWaking meaning known places (slice_set cursors i cursor) (record stacks { stack_of = slice_set (slice_set stacks.stack_of i None) i (stack_for meaning (at_place known) (standing_at places i)) }) p
        wake-one cursor fits =
            record {
              pairs = waking.pairs;
              items = rw (length-set (slice_set stacks.stack_of i None) i (stack_for meaning (at_place known) (standing_at places i)), length-set stacks.stack_of i None) waking.items;
              many = length-set cursors i cursor ∙ waking.many;
              found = λ j. rw (index-set cursors i cursor j (omega (arith, lt, waking.many, waking.items))) (elim (decide (nat_eq j i)) [
                | inl t ↦ rw (t, eqb-true j i t) fits
                | inr f ↦ rw f (waking.found j)
              ]);
              each = λ j. rw (set-set stacks.stack_of i None (stack_for meaning (at_place known) (standing_at places i)), place-set stacks.stack_of i (stack_for meaning (at_place known) (standing_at places i)) j lt) (elim (decide (nat_eq j i)) [
                | inl t ↦ rw (t, eqb-true j i t) (inl refl)
                | inr f ↦ rw f (waking.each j)
              ]);
            }

        pub wake-less : is_some (at_place known p) ≡ true → at_place stacks.stack_of i ≡ Some (Waiting p)
            → on_stack (Waiting p) (slice_set (slice_set stacks.stack_of i None) i (stack_for meaning (at_place known) (standing_at places i))) < on_stack (Waiting p) stacks.stack_of
        wake-less has at =
            let sum = sum_by-set (λ o. cond (is_on (Waiting p) o) 1 0) stacks.stack_of i (stack_for meaning (at_place known) (standing_at places i)) None lt in
            let one : ◌≡◌ {A = ℕ} (cond (is_on (Waiting p) (at_place stacks.stack_of i)) 1 0) 1 = rw (at, on-itself (Waiting p)) refl in
            let zero : ◌≡◌ {A = ℕ} (cond (is_on (Waiting p) (stack_for meaning (at_place known) (standing_at places i))) 1 0) 0 = rw (not-waiting (at_place known) p (standing_at places i) has) refl in
            rw (set-set stacks.stack_of i None (stack_for meaning (at_place known) (standing_at places i))) (omega (arith, sum, one, zero))

    module _ (is : IsRoster meaning known places cursors stacks) where
      pub free-out : (i : ℕ) → standing_at places i ≡ out → at_place stacks.stack_of i ≡ None
      free-out i at = ap (λ (s : StacksView). at_place s.stack_of i) is.stacked ∙ stood-at (at_place known) places i ∙ ap (stack_for meaning (at_place known)) at

      pub many-stacks : length stacks.stack_of ≡ length places
      many-stacks = ap (λ (s : StacksView). length s.stack_of) is.stacked ∙ length-map places (stack_for meaning (at_place known))

      pub put-fits : (i : ℕ) (s : Standing X) (cursor : ℕ) → i < length places → IsCursor meaning known s cursor
          → IsRoster meaning known (slice_set places i s) (slice_set cursors i cursor) (record stacks { stack_of = slice_set stacks.stack_of i (stack_for meaning (at_place known) s) })
      put-fits i s cursor lt fits =
          record {
            stacked = rw (is.stacked, map-set (stack_for meaning (at_place known)) places i s) refl;
            many = rw (length-set cursors i cursor, length-set places i s) is.many;
            found = λ j. rw (index-set cursors i cursor j (omega (arith, lt, is.many)), standing-set places i s j lt) (elim (decide (nat_eq j i)) [
              | inl t ↦ rw t fits
              | inr f ↦ rw f (is.found j)
            ]);
          }

      -- one more page is known
      module _ (p : ℕ) (x : Page) (below : p < length known) where
        now : List (Option Page)
        now = slice_set known p (Some x)

        other-same : (q : ℕ) → nat_eq q p ≡ false → at_place (slice_set known p (Some x)) q ≡ at_place known q
        other-same q f = rw (place-set known p (Some x) q below, f) refl

        pub has-new : is_some (at_place (slice_set known p (Some x)) p) ≡ true
        has-new = rw (place-set known p (Some x) p below, eq-eqb p p refl) refl

        fewer : (q : ℕ) → is_none (at_place known q) ≡ false → is_none (at_place (slice_set known p (Some x)) q) ≡ false
        fewer q e =
            elim (decide (nat_eq q p)) [
              | inl t ↦ none-is (at_place (slice_set known p (Some x)) q) ∙ ap not (ap (λ j. is_some (at_place (slice_set known p (Some x)) j)) (eqb-true q p t) ∙ has-new)
              | inr f ↦ ap is_none (other-same q f) ∙ e
            ]

        cursor-stays : (s : Standing X) (cursor : ℕ) → IsCursor meaning known s cursor → IsCursor meaning (slice_set known p (Some x)) s cursor
        cursor-stays unbegun cursor w = tt
        cursor-stays again cursor w = tt
        cursor-stays out cursor w = tt
        cursor-stays (over e) cursor w = tt
        cursor-stays (held m) cursor w =
            record {
              pairs = λ i d lt. rw (length-set known p (Some x)) (w.pairs i d lt);
              before = w.before;
              found = lacks-fewer (at_place known) (at_place (slice_set known p (Some x))) (take cursor (meaning m).awaits) fewer w.found;
            }

        moves : (s : Standing X) → (stack_for meaning (at_place known) s ≡ stack_for meaning (at_place (slice_set known p (Some x))) s) ⊎ (stack_for meaning (at_place known) s ≡ Some (Waiting p))
        moves unbegun = inl refl
        moves again = inl refl
        moves out = inl refl
        moves (over e) = inl refl
        moves (held m) =
            elim (stack-moves (at_place known) (at_place (slice_set known p (Some x))) p other-same has-new (meaning m).awaits) [
              | inl e ↦ inl (ap Some e)
              | inr e ↦ inr (ap Some e)
            ]

        pub to-wake : IsWaking meaning (slice_set known p (Some x)) places cursors stacks p
        to-wake =
            record {
              pairs = ap (λ (s : StacksView). s.pairs) is.stacked ∙ sym (length-set known p (Some x));
              items = many-stacks;
              many = is.many;
              found = λ i. cursor-stays (standing_at places i) (slice_index cursors i) (is.found i);
              each = λ i. let e : at_place stacks.stack_of i ≡ stack_for meaning (at_place known) (standing_at places i) = ap (λ (s : StacksView). at_place s.stack_of i) is.stacked ∙ stood-at (at_place known) places i in
                  elim (moves (standing_at places i)) [
                    | inl m ↦ inl (e ∙ m)
                    | inr m ↦ inr (e ∙ m)
                  ];
            }

pub place-at : {X : Type 0} (ps : List (Place X)) (n i : ℕ) (x : Place X) → x ≡ get_or ps n x → n ≡ i → n < length ps → standing_at (map standing ps) i ≡ standing x
place-at ps n i x is same lt = ap (standing_at (map standing ps)) (sym same) ∙ read-map standing ps n x nowhere lt ∙ ap standing (sym is)

module _ {X C : Type 0} (meaning : X → Meaning C) (known : List (Option Page)) (ps : List (Place X)) (cursors : List ℕ) (stacks popped after : StacksView) (p : ℕ) (waking : IsWaking meaning known (map standing ps) cursors stacks p) (i at : ℕ) (same : at ≡ i) (lt : i < length stacks.stack_of) (x : Place X) (is : x ≡ get_or ps at x) (pop : popped ≡ record stacks { stack_of = slice_set stacks.stack_of i None }) (push : after ≡ record popped { stack_of = slice_set popped.stack_of i (stack_for meaning (at_place known) (standing x)) }) where
  pub here-below : at < length ps
  here-below = omega (arith, lt, same, waking.items, length-map ps standing)

  here-at : standing_at (map standing ps) i ≡ standing x
  here-at = place-at ps at i x is same here-below

  after-is : after ≡ record stacks { stack_of = slice_set (slice_set stacks.stack_of i None) i (stack_for meaning (at_place known) (standing_at (map standing ps) i)) }
  after-is = push ∙ rw (pop, here-at) refl

  pub wake-step : (cursor : ℕ) → IsCursor meaning known (standing x) cursor → IsWaking meaning known (map standing ps) (slice_set cursors at cursor) after p
  wake-step cursor fits = rw (after-is, same) (wake-one meaning known (map standing ps) cursors stacks p waking i lt cursor (rw here-at fits))

  pub wake-smaller : is_some (at_place known p) ≡ true → at_place stacks.stack_of i ≡ Some (Waiting p) → on_stack (Waiting p) after.stack_of < on_stack (Waiting p) stacks.stack_of
  wake-smaller has on = rw after-is (wake-less meaning known (map standing ps) cursors stacks p waking i lt has on)

pub is-out : {X : Type 0} (s : Standing X) → is_out s ≡ true → s ≡ out
is-out unbegun e = cc
is-out again e = cc
is-out out e = refl
is-out (held x) e = cc
is-out (over f) e = cc
