-- Places that were made, as results.
use Rattle.std.specs.Prelude.{ℕ, List, Option, Some, None, Result, Ok, Err}
use Rattle.hk_eval.specs.Lists.{Dated}
use Rattle.hk_eval.specs.declared.place.Place.{Place}
use Rattle.hk_eval.specs.declared.placing.Dates.{Dates}
use Rattle.hk_eval.specs.declared.placing.Dates.TheVariants as dates
use Rattle.hk_eval.specs.declared.placing.Placed.{Placed}
use Rattle.hk_eval.specs.declared.placing.Placed.TheVariants as places

abbrev pub placing_of : Placed → Result (List Place) ℕ
placing_of (places.Places ps) = Ok ps.items
placing_of (places.Lacks item) = Err item

abbrev pub dates_of : Dates → Result (List Dated) ℕ
dates_of (dates.All ds) = Ok ds.items
dates_of (dates.Lacks item) = Err item

-- these places, or the item that is no good
abbrev pub placed_by : List Place → Option ℕ → Result (List Place) ℕ
placed_by ps None = Ok ps
placed_by ps (Some item) = Err item
