-- The places of a list, as a deed.
use Rattle.std.specs.Prelude.{ℕ, Bool, List, [], ◌∷◌, map, reverse, take, Option, Some, None, Result, Ok, Err}
use Rattle.std.specs.Ordering.{is_lt}
use Rattle.hk_base.specs.Bytes.{Bytes}
use Rattle.hk_base.specs.Identifier.{Ident}
use Rattle.hk_chain.specs.declared.context.Order.{Order}
use Rattle.hk_chain.specs.declared.context.Order.TheVariants as orders
use Rattle.hk_chain.specs.declared.fault.Fault.TheVariants.{WrongKind, NoDate}
use Rattle.hk_fix.specs.Deed.{Answer, Deed, returns, refuses, asking, matching}
use Rattle.hk_meta.specs.declared.date.Moment.{Moment}
use Rattle.hk_rules.specs.Recipe.{NamedList}
use Rattle.hk_chain.specs.Sorting.{sorted_by}
use Rattle.hk_meta.specs.Moments.{moment_cmp}
use Rattle.hk_eval.specs.NamedAsking.{keys_named, other_named}
use Rattle.hk_eval.specs.NamedFields.{named_date}
use Rattle.hk_eval.specs.NamedValue.{NamedPlace}

-- the items with their answers, each in this context
abbrev pub named_places : Bytes → List Ident → List Answer → List NamedPlace
named_places context [] xs = []
named_places context (id ∷ ids) [] = []
named_places context (id ∷ ids) (x ∷ xs) = record { id = id; page = x.page; traits = x.traits; context = context } ∷ named_places context ids xs

-- a place with its item's date
pub record DatedPlace : Type 0 where
  pub date : Moment
  pub place : NamedPlace

abbrev pub add_dated : NamedPlace → Option Moment → Result (List DatedPlace) Ident → Result (List DatedPlace) Ident
add_dated place None rest = Err place.id
add_dated place (Some date) (Ok ds) = Ok (record { date = date; place = place } ∷ ds)
add_dated place (Some date) (Err id) = Err id

-- the places with their dates, or the first item that has none
abbrev pub dated_places : List NamedPlace → Result (List DatedPlace) Ident
dated_places [] = Ok []
dated_places (place ∷ places) = add_dated place (named_date place) (dated_places places)

abbrev pub comes_earlier : DatedPlace → DatedPlace → Bool
comes_earlier a b = is_lt (moment_cmp a.date b.date)

-- in the order of time; those of the same time stay as they stand
abbrev pub places_by_date : List DatedPlace → List DatedPlace
places_by_date ds = sorted_by comes_earlier ds

abbrev pub undated : DatedPlace → NamedPlace
undated d = d.place

abbrev pub in_time : Result (List DatedPlace) Ident → Result (List NamedPlace) Ident
in_time (Ok ds) = Ok (map undated (places_by_date ds))
in_time (Err id) = Err id

abbrev pub backwards : Result (List NamedPlace) Ident → Result (List NamedPlace) Ident
backwards (Ok places) = Ok (reverse places)
backwards (Err id) = Err id

-- the places in their order, or the first item whose date is wanting
abbrev pub in_order : Order → List NamedPlace → Result (List NamedPlace) Ident
in_order orders.Id places = Ok places
in_order orders.Chronological places = in_time (dated_places places)
in_order orders.Recent places = backwards (in_time (dated_places places))

abbrev pub at_most : Option ℕ → List NamedPlace → List NamedPlace
at_most None places = places
at_most (Some most) places = take most places

abbrev pub limited_deed : Option ℕ → Result (List NamedPlace) Ident → Deed (List NamedPlace)
limited_deed limit (Ok places) = returns (at_most limit places)
limited_deed limit (Err id) = refuses (NoDate id)

abbrev pub places_deed_by : NamedList → List NamedPlace → Option Ident → Deed (List NamedPlace)
places_deed_by listing places None = limited_deed listing.limit (in_order listing.order places)
places_deed_by listing places (Some id) = refuses (WrongKind id)

-- the places that a list makes of its items and their answers, each of which must be text
abbrev pub places_deed : NamedList → List Ident → List Answer → Deed (List NamedPlace)
places_deed listing ids xs = places_deed_by listing (named_places listing.context ids xs) (other_named ids xs)

-- the places of a list: the items that the pattern matches, and their pages as one group
abbrev pub list_deed : NamedList → Deed (List NamedPlace)
list_deed listing = matching listing.pattern (λ ids. asking (keys_named listing.snapshot ids) (places_deed listing ids))
