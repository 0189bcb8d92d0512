-- The order of a table's members.
use Rattle.std.specs.Prelude.{ℕ, Bool, List, [], ◌∷◌, map, reverse, Option, Some, None, Result, Ok, Err}
use Rattle.std.specs.Ordering.{is_lt}
use Rattle.hk_chain.specs.declared.context.Order.{Order}
use Rattle.hk_chain.specs.declared.context.Order.TheVariants as orders
use Rattle.hk_meta.specs.declared.date.Moment.{Moment}
use Rattle.hk_meta.specs.Moments.{moment_cmp}
use Rattle.hk_rules.specs.Plan.{Lookups}
use Rattle.hk_tags.specs.Members.{date_at}
use Rattle.hk_chain.specs.Sorting.{sorted_by}
-- an item with its date
pub use Rattle.hk_tags.specs.declared.dates.Dated.{Dated}

abbrev pub with_date : ℕ → Option Moment → Result (List Dated) ℕ → Result (List Dated) ℕ
with_date item None rest = Err item
with_date item (Some date) (Ok ds) = Ok (record { date = date; item = item } ∷ ds)
with_date item (Some date) (Err other) = Err other

-- the items with their dates, or the first that has none
abbrev pub dated : Lookups → List ℕ → Result (List Dated) ℕ
dated plan [] = Ok []
dated plan (item ∷ items) = with_date item (date_at plan item) (dated plan items)

abbrev pub is_earlier : Dated → Dated → Bool
is_earlier a b = is_lt (moment_cmp a.date b.date)

-- in the order of time; those of the same time stay as they stand
abbrev pub by_date : List Dated → List Dated
by_date ds = sorted_by is_earlier ds

abbrev pub item_in : Dated → ℕ
item_in d = d.item

abbrev pub chronological : Result (List Dated) ℕ → Result (List ℕ) ℕ
chronological (Ok ds) = Ok (map item_in (by_date ds))
chronological (Err item) = Err item

abbrev pub reversed : Result (List ℕ) ℕ → Result (List ℕ) ℕ
reversed (Ok items) = Ok (reverse items)
reversed (Err item) = Err item

-- the items in their order, or the first whose date is wanting
abbrev pub ordered : Lookups → Order → List ℕ → Result (List ℕ) ℕ
ordered plan orders.Id items = Ok items
ordered plan orders.Chronological items = chronological (dated plan items)
ordered plan orders.Recent items = reversed (chronological (dated plan items))
