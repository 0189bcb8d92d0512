-- What a board hands out, and what it says of an ask.
use Rattle.std.specs.Prelude.{◌≡◌, ℕ, ◌<◌, false, List, [], length, Option, Some, None, slice_set, Result, Ok, Err}
use Rattle.hk_base.specs.declared.refusal.NoMemory.{NoMemory}
use Rattle.hk_chain.specs.declared.page.Page.{Page}
use Rattle.hk_chain.specs.Kept.{at_place}
use Rattle.hk_fix.specs.Pages.{lacking}
use Rattle.hk_fix.specs.Meaning.{Meaning}
use Rattle.hk_sched.specs.declared.turn.Ready.{Ready}
use Rattle.hk_sched.specs.declared.turn.Ready.TheVariants as ready
use Rattle.hk_sched.specs.declared.turn.Asked.{Asked}
use Rattle.hk_sched.specs.declared.turn.Asked.TheVariants as asked
use Rattle.hk_sched.specs.declared.stacks.Stack.TheVariants.{Fresh}
use Rattle.hk_sched.specs.Stacks.{StacksView, is_on}
use Rattle.hk_sched.specs.Standings.{RosterView, Standing, unbegun, again, out, held, over, standing_at, is_out, is_ready, all_told, SomeTold}

abbrev pub placed : {X : Type 0} → RosterView X → ℕ → Standing X → RosterView X
placed r i s = record r { places = slice_set r.places i s }

-- the least item that is out, and none exactly where there is none
abbrev pub FirstOut : {X : Type 0} → List (Standing X) → Option ℕ → Type 0
FirstOut places None = (i : ℕ) → is_out (standing_at places i) ≡ false
FirstOut places (Some i) = (standing_at places i ≡ out) × ((j : ℕ) → j < i → is_out (standing_at places j) ≡ false)

-- a fresh item is off its stack, and out
abbrev pub IsTaken : {X : Type 0} → List (Standing X) → StacksView → ℕ → List (Standing X) → StacksView → Type 0
IsTaken places stacks i places' stacks' =
    (i < length stacks.stack_of) × (at_place stacks.stack_of i ≡ Some Fresh) × (places' ≡ slice_set places i out) × (stacks' ≡ record stacks { stack_of = slice_set stacks.stack_of i None })

-- it is on the board, to begin or to begin anew
abbrev pub IsToBegin : {X : Type 0} → Standing X → Type 0
IsToBegin unbegun = Unit {0}
IsToBegin again = Unit {0}
IsToBegin out = ⊥
IsToBegin (held x) = ⊥
IsToBegin (over e) = ⊥

-- so it is with each item on the stack of those that are to begin
abbrev pub AreToBegin : {X : Type 0} → List (Standing X) → StacksView → Type 0
AreToBegin places stacks = (i : ℕ) → at_place stacks.stack_of i ≡ Some Fresh → IsToBegin (standing_at places i)

abbrev pub Begins : {X : Type 0} → List (Standing X) → StacksView → Option (Ready X) → List (Standing X) → StacksView → Type 0
Begins places stacks None places' stacks' = ((i : ℕ) → is_on Fresh (at_place stacks.stack_of i) ≡ false) × (places' ≡ places) × (stacks' ≡ stacks)
Begins places stacks (Some (ready.First i)) places' stacks' = (standing_at places i ≡ unbegun) × IsTaken places stacks i places' stacks'
Begins places stacks (Some (ready.Again i)) places' stacks' = (standing_at places i ≡ again) × IsTaken places stacks i places' stacks'
Begins places stacks (Some (ready.Woken x)) places' stacks' = ⊥

module _ {X C : Type 0} (meaning : X → Meaning C) where
  -- a compiler that stands there has its open pairs known
  abbrev pub Resumable : List (Option Page) → List (Standing X) → ℕ → Type 0
  Resumable known places i = (x : X) × (standing_at places i ≡ held x) × (lacking (at_place known) (meaning x).awaits ≡ [])

  abbrev pub Resumes : List (Option Page) → List (Standing X) → ℕ → Result X NoMemory → List (Standing X) → Type 0
  Resumes known places i (Ok y) places' = (x : X) × (standing_at places i ≡ held x) × (meaning y ≡ all_told (at_place known) (meaning x)) × (places' ≡ slice_set places i out)
  Resumes known places i (Err e) places' = (x : X) × (y : X) × (standing_at places i ≡ held x) × SomeTold (at_place known) (meaning x) (meaning y) × (places' ≡ slice_set places i (held y))

  abbrev pub NoneReady : RosterView X → Type 0
  NoneReady r = (i : ℕ) → is_ready meaning (at_place r.known) (standing_at r.places i) ≡ false

  -- what stood ready is out
  abbrev pub TakesReady : RosterView X → Ready X → RosterView X → Type 0
  TakesReady r (ready.First i) s = (i < length r.places) × (standing_at r.places i ≡ unbegun) × (s ≡ placed r i out)
  TakesReady r (ready.Again i) s = (i < length r.places) × (standing_at r.places i ≡ again) × (s ≡ placed r i out)
  TakesReady r (ready.Woken y) s =
      (i : ℕ) × (x : X) × (i < length r.places) × (standing_at r.places i ≡ held x) × (lacking (at_place r.known) (meaning x).awaits ≡ []) × (meaning y ≡ all_told (at_place r.known) (meaning x)) × (s ≡ placed r i out)

  -- some open pairs of a woken compiler may have been answered
  abbrev pub ToldOne : RosterView X → RosterView X → Type 0
  ToldOne r s =
      (i : ℕ) × (x : X) × (y : X) × (i < length r.places) × (standing_at r.places i ≡ held x) × (lacking (at_place r.known) (meaning x).awaits ≡ []) × SomeTold (at_place r.known) (meaning x) (meaning y) × (s ≡ placed r i (held y))

  abbrev pub Takes : RosterView X → Result (Option (Ready X)) NoMemory → RosterView X → Type 0
  Takes r (Ok None) s = NoneReady r × (s ≡ r)
  Takes r (Ok (Some x)) s = TakesReady r x s
  Takes r (Err e) s = ToldOne r s

  -- the value exactly where each open pair is known
  abbrev pub Asks : RosterView X → X → Asked X → RosterView X → Type 0
  Asks r x (asked.Value y) s = (lacking (at_place r.known) (meaning x).awaits ≡ []) × (meaning y ≡ all_told (at_place r.known) (meaning x)) × (s ≡ r)
  Asks r x asked.Parked s = (lacking (at_place r.known) (meaning x).awaits ≡ [] → ⊥) × (s ≡ placed r (meaning x).item (held x))
  Asks r x (asked.NoMemory y) s = (lacking (at_place r.known) (meaning x).awaits ≡ []) × SomeTold (at_place r.known) (meaning x) (meaning y) × (s ≡ r)
