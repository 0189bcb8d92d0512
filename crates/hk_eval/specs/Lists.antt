-- The places of a list.
use Rattle.std.specs.Prelude.{ℕ, Bool, List, [], ◌∷◌, map, reverse, take, Option, Some, None, Result, Ok, Err}
use Rattle.std.specs.Ordering.{is_lt}
use Rattle.hk_chain.specs.Sorting.{sorted_by}
use Rattle.hk_chain.specs.declared.context.Order.{Order}
use Rattle.hk_chain.specs.declared.context.Order.TheVariants as orders
use Rattle.hk_chain.specs.declared.page.Page.{Page}
use Rattle.hk_chain.specs.declared.fault.Fault.TheVariants.{WrongKind, NoDate}
use Rattle.hk_fix.specs.Task.{Task, gives, fails, notes, used, ◌▷◌}
use Rattle.hk_meta.specs.declared.date.Moment.{Moment}
use Rattle.hk_meta.specs.Moments.{moment_cmp}
use Rattle.hk_rules.specs.Plan.{Lookups}
use Rattle.hk_eval.specs.Asking.{ask_all, other_kind}
use Rattle.hk_eval.specs.Fields.{date_at}
use Rattle.hk_eval.specs.Value.{Listing}
use Rattle.hk_eval.specs.declared.place.Place.{Place}
-- a place with its item's date
pub use Rattle.hk_eval.specs.declared.placing.Dated.{Dated}

-- the items with their pages, each in this context
abbrev pub places_of : ℕ → List ℕ → List Page → List Place
places_of context [] pages = []
places_of context (item ∷ items) [] = []
places_of context (item ∷ items) (page ∷ pages) = record { item = item; page = page; context = context } ∷ places_of context items pages

abbrev pub with_date : Place → Option Moment → Result (List Dated) ℕ → Result (List Dated) ℕ
with_date place None rest = Err place.item
with_date place (Some date) (Ok ds) = Ok (record { date = date; place = place } ∷ ds)
with_date place (Some date) (Err item) = Err item

-- the places with their dates, or the first item that has none
abbrev pub dated : Lookups → List Place → Result (List Dated) ℕ
dated plan [] = Ok []
dated plan (place ∷ places) = with_date place (date_at plan place.item) (dated plan places)

abbrev pub is_earlier : Dated → Dated → Bool
is_earlier a b = is_lt (moment_cmp a.date b.date)

-- in the order of time; those of the same time stay as they stand
abbrev pub by_date : List Dated → List Dated
by_date ds = sorted_by is_earlier ds

abbrev pub place_in : Dated → Place
place_in d = d.place

abbrev pub chronological : Result (List Dated) ℕ → Result (List Place) ℕ
chronological (Ok ds) = Ok (map place_in (by_date ds))
chronological (Err item) = Err item

abbrev pub reversed : Result (List Place) ℕ → Result (List Place) ℕ
reversed (Ok places) = Ok (reverse places)
reversed (Err item) = Err item

-- the places in their order, or the first item whose date is wanting
abbrev pub ordered : Lookups → Order → List Place → Result (List Place) ℕ
ordered plan orders.Id places = Ok places
ordered plan orders.Chronological places = chronological (dated plan places)
ordered plan orders.Recent places = reversed (chronological (dated plan places))

abbrev pub limited : Option ℕ → List Place → List Place
limited None places = places
limited (Some most) places = take most places

abbrev pub limited_task : Lookups → Option ℕ → Result (List Place) ℕ → Task (List Place)
limited_task plan limit (Ok places) = gives (limited limit places)
limited_task plan limit (Err item) = fails (NoDate (plan.id item))

abbrev pub places_by : Lookups → Listing → List Place → Option ℕ → Task (List Place)
places_by plan listing places None = limited_task plan listing.limit (ordered plan listing.order places)
places_by plan listing places (Some item) = fails (WrongKind (plan.id item))

-- the places that a list makes of its items and their pages, each of which must be text
abbrev pub places_task : Lookups → Listing → List ℕ → List Page → Task (List Place)
places_task plan listing items pages = places_by plan listing (places_of listing.context items pages) (other_kind items pages)

-- the places of a list: the pattern is noted, and the pages of its items are asked for as one group
unfoldable pub list_task : Lookups → Listing → Task (List Place)
list_task plan listing =
    notes (used listing.pattern) (ask_all plan listing.snapshot (plan.matches listing.pattern) ▷ places_task plan listing (plan.matches listing.pattern))
