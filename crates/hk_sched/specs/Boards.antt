-- When a board's parts fit one another.
use Rattle.std.specs.Prelude.{◌≡◌, ℕ, ◌+◌, ◌≤◌, List, length}
use Rattle.hk_chain.specs.Layout.{Shape, IsLayout, pairs}
use Rattle.hk_fix.specs.declared.event.Event.{Event}
use Rattle.hk_sched.specs.Standings.{RosterView}
use Rattle.hk_sched.specs.Board.{events_left}

-- a place for each pair and one for each item, and room for what may still come
pub record IsBoard {X : Type 0} (lay : Shape) (roster : RosterView X) (history : List Event) (room capacity : ℕ) : Type 0 where
  pub layout : IsLayout lay
  pub pairs_known : length roster.known ≡ pairs lay
  pub items_placed : length roster.places ≡ lay.items
  pub events : length history + events_left roster.known roster.places ≤ capacity
  pub endings : lay.items ≤ room
