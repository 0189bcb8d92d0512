-- What stands ready is found on two stacks.
use Rattle.std.proofs.Common.{◌≡◌, refl, sym, ap, ◌∙◌, subst, ℕ, ◌<◌, Bool, true, false, cond, not, List, [], ◌∷◌, length, filter, take, Option, Some, None, Ok, is_none, arith, slice_index, slice_set, get_or, All, Contains}
use Rattle.std.proofs.lemmas.List.{set-set, set-get_or, get_or_default}
use Rattle.hk_chain.specs.declared.page.Page.{Page}
use Rattle.hk_chain.specs.Kept.{at_place}
use Rattle.hk_fix.specs.Pages.{Pages, lacking}
use Rattle.hk_fix.specs.Facts.{is_in}
use Rattle.hk_fix.specs.Meaning.{Meaning}
use Rattle.hk_fix.proofs.Steps.{contains-in, in-contains}
use Rattle.hk_sched.specs.declared.stacks.Stack.{Stack}
use Rattle.hk_sched.specs.declared.stacks.Stack.TheVariants.{Fresh, Woken, Waiting}
use Rattle.hk_sched.specs.declared.place.Place.{Place}
use Rattle.hk_sched.specs.declared.place.Place.TheVariants as place
use Rattle.hk_sched.specs.declared.turn.Ready.{Ready}
use Rattle.hk_sched.specs.declared.turn.Ready.TheVariants as ready
use Rattle.hk_sched.specs.Stacks.{StacksView, is_on}
use Rattle.hk_sched.specs.Standings.{Standing, unbegun, again, out, held, over, nowhere, standing_at, is_out, is_settled, is_empty, is_ready, stack_at, stack_for, SomeTold}
use Rattle.hk_sched.specs.Places.{standing}
use Rattle.hk_sched.specs.Rosters.{IsWithin, IsCursor, IsRoster}
use Rattle.hk_sched.specs.Turns.{IsToBegin, AreToBegin, Begins, Takes}
use Rattle.hk_sched.proofs.Answering.{filter-in}
use Rattle.hk_sched.proofs.Lacks.{lacks-at}
use Rattle.hk_sched.proofs.Rosters.{stood-at, put-fits, many-stacks}

-- where no pair is lacking, none is among some of them
pub lacks-filter : (k : Pages) (test : ℕ → Bool) (ps : List ℕ) → lacking k ps ≡ [] → lacking k (filter test ps) ≡ []
lacks-filter k test [] e = refl
lacks-filter k test (p ∷ ps) e =
    elim (is_none (k p)) as (λ b. is_none (k p) ≡ b → cond b (p ∷ lacking k ps) (lacking k ps) ≡ [] → lacking k (cond (test p) (p ∷ filter test ps) (filter test ps)) ≡ []) [
      | true ↦ λ h q. cc
      | false ↦ λ h q. elim (test p) as (λ b. lacking k (cond b (p ∷ filter test ps) (filter test ps)) ≡ []) [
        | true ↦ rw h (lacks-filter k test ps q)
        | false ↦ lacks-filter k test ps q
      ]
    ] refl e

pub all-by_in : (P : ℕ → Type 0) (xs : List ℕ) → ((p : ℕ) → is_in xs p ≡ true → P p) → All P xs
all-by_in P xs h = λ i d lt. h (get_or xs i d) (contains-in xs (get_or xs i d) (i, lt, get_or_default xs i (get_or xs i d) d lt))

pub all-in : (P : ℕ → Type 0) (xs : List ℕ) → All P xs → (p : ℕ) → is_in xs p ≡ true → P p
all-in P xs h p e = let c : Contains xs p = in-contains xs p e in subst P c.2 (h c.0 p c.1)

woken-empty : (ps : List ℕ) → Some (stack_at ps) ≡ Some Woken → ps ≡ []
woken-empty [] q = refl
woken-empty (p ∷ ps) q = cc

pub lacks-some : (k : Pages) (ps : List ℕ) (n : ℕ) → lacking k (take n ps) ≡ [] → n < length ps → k (slice_index ps n) ≡ None → lacking k ps ≡ [] → ⊥
lacks-some k ps n e lt none all =
    let first : stack_at (lacking k ps) ≡ Waiting (slice_index ps n) = lacks-at k ps n e lt none in
    let no : ◌≡◌ {A = Stack} Woken (Waiting (slice_index ps n)) = ap stack_at (sym all) ∙ first in
    cc

module _ {X C : Type 0} (meaning : X → Meaning C) where
  stack-held : (k : Pages) (s : Standing X) → stack_for meaning k s ≡ Some Woken → (x : X) × (s ≡ held x) × (lacking k (meaning x).awaits ≡ [])
  stack-held k unbegun e = cc
  stack-held k again e = cc
  stack-held k out e = cc
  stack-held k (over f) e = cc
  stack-held k (held x) e = (x, refl, woken-empty (lacking k (meaning x).awaits) e)

  stack-fresh : (k : Pages) (s : Standing X) → stack_for meaning k s ≡ Some Fresh → IsToBegin s
  stack-fresh k unbegun e = tt
  stack-fresh k again e = tt
  stack-fresh k out e = cc
  stack-fresh k (over f) e = cc
  stack-fresh k (held x) e = go (lacking k (meaning x).awaits) e
    where
      go : (ps : List ℕ) → Some (stack_at ps) ≡ Some Fresh → ⊥
      go [] q = cc
      go (p ∷ ps) q = cc

  ready-stack : (k : Pages) (s : Standing X) → is_on Woken (stack_for meaning k s) ≡ false → is_on Fresh (stack_for meaning k s) ≡ false → is_ready meaning k s ≡ false
  ready-stack k unbegun w f = f
  ready-stack k again w f = f
  ready-stack k out w f = refl
  ready-stack k (over e) w f = refl
  ready-stack k (held x) w f = go (lacking k (meaning x).awaits) w
    where
      go : (ps : List ℕ) → is_on Woken (Some (stack_at ps)) ≡ false → is_empty ps ≡ false
      go [] q = q
      go (p ∷ ps) q = refl

  module _ (known : List (Option Page)) (places : List (Standing X)) (cursors : List ℕ) (stacks : StacksView) (is : IsRoster meaning known places cursors stacks) where
    on-stack : (i : ℕ) → at_place stacks.stack_of i ≡ stack_for meaning (at_place known) (standing_at places i)
    on-stack i = ap (λ (s : StacksView). at_place s.stack_of i) is.stacked ∙ stood-at meaning (at_place known) places i

    pub woken-held : (i : ℕ) → at_place stacks.stack_of i ≡ Some Woken → (x : X) × (standing_at places i ≡ held x) × (lacking (at_place known) (meaning x).awaits ≡ [])
    woken-held i e = stack-held (at_place known) (standing_at places i) (sym (on-stack i) ∙ e)

    pub woken-lacks : (i : ℕ) (x : X) → at_place stacks.stack_of i ≡ Some Woken → standing_at places i ≡ held x → lacking (at_place known) (meaning x).awaits ≡ []
    woken-lacks i x e at = woken-empty (lacking (at_place known) (meaning x).awaits) (ap (stack_for meaning (at_place known)) (sym at) ∙ sym (on-stack i) ∙ e)

    pub none-ready : ((i : ℕ) → is_on Woken (at_place stacks.stack_of i) ≡ false) → ((i : ℕ) → is_on Fresh (at_place stacks.stack_of i) ≡ false) → (i : ℕ) → is_ready meaning (at_place known) (standing_at places i) ≡ false
    none-ready w f i = ready-stack (at_place known) (standing_at places i) (ap (is_on Woken) (sym (on-stack i)) ∙ w i) (ap (is_on Fresh) (sym (on-stack i)) ∙ f i)

    pub out-fits : (i : ℕ) → i < length places → IsRoster meaning known (slice_set places i out) cursors (record stacks { stack_of = slice_set stacks.stack_of i None })
    out-fits i lt =
        subst (λ (cs : List ℕ). IsRoster meaning known (slice_set places i out) cs (record stacks { stack_of = slice_set stacks.stack_of i None })) (set-get_or cursors i 0)
        (put-fits meaning known places cursors stacks is i out (slice_index cursors i) lt tt)

    pub told-fits : (i : ℕ) (x y : X) → i < length places → standing_at places i ≡ held x → lacking (at_place known) (meaning x).awaits ≡ [] → SomeTold (at_place known) (meaning x) (meaning y)
        → IsRoster meaning known (slice_set places i (held y)) (slice_set cursors i 0) (record stacks { stack_of = slice_set (slice_set stacks.stack_of i None) i (Some Woken) })
    told-fits i x y lt at none told =
        rw (set-set stacks.stack_of i None (Some Woken))
        (subst (λ (o : Option Stack). IsRoster meaning known (slice_set places i (held y)) (slice_set cursors i 0) (record stacks { stack_of = slice_set stacks.stack_of i o }))
        (ap (λ (ps : List ℕ). Some (stack_at ps)) still-none)
        (put-fits meaning known places cursors stacks is i (held y) 0 lt (record { pairs = within; before = omega arith; found = refl })))
      where
        awaits : (meaning y).awaits ≡ filter (λ q. not (is_in told.0 q)) (meaning x).awaits
        awaits = ap (λ (m : Meaning C). m.awaits) told.2

        still-none : lacking (at_place known) (meaning y).awaits ≡ []
        still-none = ap (lacking (at_place known)) awaits ∙ lacks-filter (at_place known) (λ q. not (is_in told.0 q)) (meaning x).awaits none

        was : IsWithin known (meaning x).awaits (slice_index cursors i)
        was = subst (λ (s : Standing X). IsCursor meaning known s (slice_index cursors i)) at (is.found i)

        within : All (λ p. p < length known) (meaning y).awaits
        within = all-by_in (λ p. p < length known) (meaning y).awaits (λ p h. all-in (λ q. q < length known) (meaning x).awaits was.pairs p (filter-in (λ q. not (is_in told.0 q)) (meaning x).awaits p (rw awaits at h)).0)

    pub fresh-begin : AreToBegin places stacks
    fresh-begin i e = stack-fresh (at_place known) (standing_at places i) (sym (on-stack i) ∙ e)

    pub begin-fits : (r : Option (Ready X)) (places' : List (Standing X)) (stacks' : StacksView) → Begins places stacks r places' stacks' → IsRoster meaning known places' cursors stacks'
    begin-fits None places' stacks' b = rw (b.1, b.2) is
    begin-fits (Some (ready.First i)) places' stacks' b = rw (b.1.2, b.1.3) (out-fits i (omega (arith, b.1.0, many-stacks meaning known places cursors stacks is)))
    begin-fits (Some (ready.Again i)) places' stacks' b = rw (b.1.2, b.1.3) (out-fits i (omega (arith, b.1.0, many-stacks meaning known places cursors stacks is)))
    begin-fits (Some (ready.Woken x)) places' stacks' b = absurd b

    pub begin-takes : (r : Option (Ready X)) (places' : List (Standing X)) (stacks' : StacksView) → Begins places stacks r places' stacks' → ((i : ℕ) → is_on Woken (at_place stacks.stack_of i) ≡ false)
        → Takes meaning (record { known = known; places = places }) (Ok r) (record { known = known; places = places' })
    begin-takes None places' stacks' b w = (none-ready w b.0, rw b.1 refl)
    begin-takes (Some (ready.First i)) places' stacks' b w = (omega (arith, b.1.0, many-stacks meaning known places cursors stacks is), b.0, rw b.1.2 refl)
    begin-takes (Some (ready.Again i)) places' stacks' b w = (
      omega (arith, b.1.0, many-stacks meaning known places cursors stacks is),
      b.0,
      rw b.1.2 refl,
    )
    begin-takes (Some (ready.Woken x)) places' stacks' b w = absurd b

-- what is to begin stands at one of two places
pub no-other : {M : Type 0} (p : Place M) → (p ≡ place.Unbegun → ⊥) → (p ≡ place.Again → ⊥) → IsToBegin (standing p) → ⊥
no-other place.Unbegun n m h = n refl
no-other place.Again n m h = m refl
no-other place.Out n m h = h
no-other (place.Held x) n m h = h
no-other (place.Over o) n m h = h

-- where nothing stands ready and nothing is out, all is settled
pub all-settled : {X C : Type 0} (meaning : X → Meaning C) (k : Pages) (places : List (Standing X)) → ((i : ℕ) → is_ready meaning k (standing_at places i) ≡ false) → ((i : ℕ) → is_out (standing_at places i) ≡ false) → All (λ s. is_settled s ≡ true) places
all-settled {X} {C} meaning k places ready outs = λ i d lt. subst (λ (s : Standing X). is_settled s ≡ true) (get_or_default places i nowhere d lt) (go (standing_at places i) (ready i) (outs i))
  where
    go : (s : Standing X) → is_ready meaning k s ≡ false → is_out s ≡ false → is_settled s ≡ true
    go unbegun r o = sym r
    go again r o = sym r
    go out r o = sym o
    go (held x) r o = refl
    go (over e) r o = refl
