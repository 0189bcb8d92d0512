-- What ordering items answers, as a definition gives it.
use Rattle.std.specs.Prelude.{ℕ, List, Result, Ok, Err}
use Rattle.hk_tags.specs.declared.dates.Dated.{Dated}
use Rattle.hk_tags.specs.declared.dates.Dates.{Dates}
use Rattle.hk_tags.specs.declared.dates.Dates.TheVariants as dates
use Rattle.hk_tags.specs.declared.dates.Ordered.{Ordered}
use Rattle.hk_tags.specs.declared.dates.Ordered.TheVariants as orders

abbrev pub dates_of : Dates → Result (List Dated) ℕ
dates_of (dates.All dated) = Ok dated.items
dates_of (dates.Lacks item) = Err item

abbrev pub order_of : Ordered → Result (List ℕ) ℕ
order_of (orders.Items items) = Ok items.items
order_of (orders.Lacks item) = Err item
