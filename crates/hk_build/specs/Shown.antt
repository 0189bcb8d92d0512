-- The events of marked items.
use Rattle.std.specs.Prelude.{Bool, false, cond, List, [], ◌∷◌, get_or}
use Rattle.std.specs.List.{flat_map}
use Rattle.hk_chain.specs.Layout.{Shape}
use Rattle.hk_fix.specs.declared.event.Event.{Event}
use Rattle.hk_reuse.specs.Histories.{item_of_event}

module _ (lay : Shape) (marks : List Bool) where
  -- the item of an event is marked
  abbrev pub is_marked : Event → Bool
  is_marked event = get_or marks (item_of_event lay event) false

  abbrev pub marked_event : Event → List Event
  marked_event event = cond (is_marked event) (event ∷ []) []

  abbrev pub marked_events : List Event → List Event
  marked_events history = flat_map marked_event history
