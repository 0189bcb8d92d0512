-- The members of a feed, the latest first.
use Rattle.std.specs.Prelude.{ℕ, Bool, List, map, reverse, take, Option, Some, None}
use Rattle.std.specs.List.{filter_map}
use Rattle.std.specs.Ordering.{is_lt}
use Rattle.hk_chain.specs.Sorting.{sorted_by}
use Rattle.hk_meta.specs.declared.date.Moment.{Moment}
use Rattle.hk_meta.specs.Moments.{moment_cmp}
use Rattle.hk_rules.specs.Plan.{Lookups}
use Rattle.hk_feed.specs.Members.{members, date_at}
use Rattle.hk_rules_file.specs.declared.tables.FeedRule.{FeedRule}
-- an item with its date
pub use Rattle.hk_feed.specs.declared.recent.Dated.{Dated}

abbrev pub dated_by : ℕ → Option Moment → Option Dated
dated_by item None = None
dated_by item (Some date) = Some (record { date = date; item = item })

abbrev pub dated_at : Lookups → ℕ → Option Dated
dated_at plan item = dated_by item (date_at plan item)

-- the items with their dates; those that have none are left out
abbrev pub dated : Lookups → List ℕ → List Dated
dated plan items = filter_map (dated_at plan) items

abbrev pub is_earlier : Dated → Dated → Bool
is_earlier a b = is_lt (moment_cmp a.date b.date)

-- in the order of time; those of the same time stay as they stand
abbrev pub by_date : List Dated → List Dated
by_date ds = sorted_by is_earlier ds

abbrev pub item_in : Dated → ℕ
item_in d = d.item

-- the items with their dates from the latest to the earliest, those of the same time from the last to the first
abbrev pub latest_first : List Dated → List Dated
latest_first ds = reverse (by_date ds)

-- the members of a feed in recent order
abbrev pub recent : Lookups → FeedRule → List ℕ
recent plan feed = map item_in (latest_first (dated plan (members plan feed)))

-- the first of them, as many as the feed's limit says
abbrev pub first_recent : Lookups → FeedRule → List ℕ
first_recent plan feed = take feed.limit (recent plan feed)
