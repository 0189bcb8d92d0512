-- Why feeds can't be made.
use Rattle.std.specs.Prelude.{ℕ, Bool, false, ◌&&◌, ◌||◌, not, ◌==◌, nat_eq, nat_lt, List, [], ◌∷◌, ◌++◌, length, slice_index, bytes_eq, Option, Some, None, option_map, is_none, if◌then◌else◌}
use Rattle.std.specs.List.{find, list_any, range_with_len, starts_with}
use Rattle.std.specs.Option.{option_or}
use Rattle.hk_base.specs.Bytes.{Bytes}
use Rattle.hk_base.specs.Identifier.{is_path}
use Rattle.hk_rules.specs.Plan.{Lookups}
use Rattle.hk_feed.specs.Members.{members, date_at}
use Rattle.hk_rules_file.specs.declared.tables.FeedRule.{FeedRule}
use Rattle.hk_feed.specs.declared.feed_fault.FeedFault.{FeedFault}
use Rattle.hk_feed.specs.declared.feed_fault.FeedFault.TheVariants.{BadTarget, Taken, NoSnapshot, NoDate}

-- a path that goes on with a slash after all of another
abbrev pub lies_below : Bytes → Bytes → Bool
lies_below above below = nat_lt (length above) (length below) && (slice_index below (length above) == 47) && starts_with nat_eq below above

-- two targets that can't both be written
abbrev pub clashes : Bytes → Bytes → Bool
clashes target other = bytes_eq target other || lies_below other target || lies_below target other

abbrev pub clashes_with : Bytes → Option Bytes → Bool
clashes_with target None = false
clashes_with target (Some other) = clashes target other

abbrev pub clashes_with_item : Lookups → Bytes → ℕ → Bool
clashes_with_item plan target item = clashes_with target (plan.target_of item)

abbrev pub clashes_with_feed : Bytes → FeedRule → Bool
clashes_with_feed target feed = clashes target feed.target

-- an item's target or that of an earlier feed is in the way
abbrev pub is_taken : Lookups → List FeedRule → Bytes → Bool
is_taken plan earlier target =
    list_any (clashes_with_item plan target) (range_with_len 0 plan.count) || list_any (clashes_with_feed target) earlier

abbrev pub target_fault : Lookups → List FeedRule → FeedRule → Option FeedFault
target_fault plan earlier feed =
    if not (is_path feed.target) then Some (BadTarget feed.target)
    else (if is_taken plan earlier feed.target then Some (Taken feed.target) else None)

abbrev pub lacks_snapshot : Lookups → Bytes → ℕ → Bool
lacks_snapshot plan name item = is_none (plan.pair item name)

abbrev pub lacks_date : Lookups → ℕ → Bool
lacks_date plan item = is_none (date_at plan item)

abbrev pub no_snapshot : Lookups → Bytes → ℕ → FeedFault
no_snapshot plan name item = NoSnapshot (plan.id item) name

abbrev pub no_date : Lookups → ℕ → FeedFault
no_date plan item = NoDate (plan.id item)

-- the first member without a pair of the name
abbrev pub snapshot_fault : Lookups → Bytes → List ℕ → Option FeedFault
snapshot_fault plan name items = option_map (no_snapshot plan name) (find (lacks_snapshot plan name) items)

-- the first member without a date
abbrev pub date_fault : Lookups → List ℕ → Option FeedFault
date_fault plan items = option_map (no_date plan) (find (lacks_date plan) items)

abbrev pub members_fault : Lookups → Bytes → List ℕ → Option FeedFault
members_fault plan name items = option_or (snapshot_fault plan name items) (date_fault plan items)

-- the first fault of a feed that stands after these
abbrev pub feed_fault : Lookups → List FeedRule → FeedRule → Option FeedFault
feed_fault plan earlier feed = option_or (target_fault plan earlier feed) (members_fault plan feed.snapshot (members plan feed))

-- the first fault of the later feeds
abbrev pub later_fault : Lookups → List FeedRule → List FeedRule → Option FeedFault
later_fault plan earlier [] = None
later_fault plan earlier (feed ∷ later) = option_or (feed_fault plan earlier feed) (later_fault plan (earlier ++ feed ∷ []) later)

-- the first fault of feeds, in their order
unfoldable pub feeds_fault : Lookups → List FeedRule → Option FeedFault
feeds_fault plan feeds = later_fault plan [] feeds
