-- When a roster's parts fit one another.
use Rattle.std.specs.Prelude.{◌≡◌, ℕ, ◌<◌, ◌≤◌, List, [], length, map, take, Option, slice_index, All, Some, None, ◌⊎◌}
use Rattle.hk_chain.specs.declared.page.Page.{Page}
use Rattle.hk_chain.specs.Kept.{KeptView, at_place}
use Rattle.hk_fix.specs.Meaning.{Meaning}
use Rattle.hk_fix.specs.Pages.{lacking}
use Rattle.hk_sched.specs.declared.stacks.Stack.{Stack}
use Rattle.hk_sched.specs.declared.stacks.Stack.TheVariants.{Fresh, Waiting}
use Rattle.hk_sched.specs.Stacks.{StacksView}
use Rattle.hk_sched.specs.Standings.{RosterView, Standing, unbegun, again, out, held, over, standing_at, stack_for, first_standing}

-- open pairs are pairs of the layout, and those before the cursor are known
pub record IsWithin (known : List (Option Page)) (awaits : List ℕ) (cursor : ℕ) : Type 0 where
  pub pairs : All (λ p. p < length known) awaits
  pub before : cursor ≤ length awaits
  pub found : lacking (at_place known) (take cursor awaits) ≡ []

module _ {X C : Type 0} (meaning : X → Meaning C) where
  abbrev pub IsCursor : List (Option Page) → Standing X → ℕ → Type 0
  IsCursor known unbegun cursor = Unit {0}
  IsCursor known again cursor = Unit {0}
  IsCursor known out cursor = Unit {0}
  IsCursor known (held x) cursor = IsWithin known (meaning x).awaits cursor
  IsCursor known (over e) cursor = Unit {0}

  -- each item is on the stack that the known pages give it
  pub record IsRoster (known : List (Option Page)) (places : List (Standing X)) (cursors : List ℕ) (stacks : StacksView) : Type 0 where
    pub stacked : stacks ≡ record { pairs = length known; stack_of = map (stack_for meaning (at_place known)) places }
    pub many : length cursors ≡ length places
    pub found : (i : ℕ) → IsCursor known (standing_at places i) (slice_index cursors i)

  -- so it is, but for items that still wait for a pair
  pub record IsWaking (known : List (Option Page)) (places : List (Standing X)) (cursors : List ℕ) (stacks : StacksView) (pair : ℕ) : Type 0 where
    pub pairs : stacks.pairs ≡ length known
    pub items : length stacks.stack_of ≡ length places
    pub many : length cursors ≡ length places
    pub found : (i : ℕ) → IsCursor known (standing_at places i) (slice_index cursors i)
    pub each : (i : ℕ) → (at_place stacks.stack_of i ≡ stack_for meaning (at_place known) (standing_at places i)) ⊎ (at_place stacks.stack_of i ≡ Some (Waiting pair))

-- the stack of an item at first
abbrev pub first_stack : {X : Type 0} → Standing X → Option Stack
first_stack unbegun = Some Fresh
first_stack again = None
first_stack out = None
first_stack (held x) = None
first_stack (over e) = None

abbrev pub first_roster : {X : Type 0} → KeptView → RosterView X
first_roster kept = record { known = kept.pages; places = map first_standing kept.facts }
