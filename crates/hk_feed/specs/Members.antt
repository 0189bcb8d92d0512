-- The items of a feed.
use Rattle.std.specs.Prelude.{ℕ, Bool, ◌&&◌, List, filter, Option, is_some}
use Rattle.std.specs.List.{range_with_len}
use Rattle.hk_base.specs.Identifier.{Ident}
use Rattle.hk_meta.specs.Date.{date_of}
use Rattle.hk_meta.specs.declared.date.Moment.{Moment}
use Rattle.hk_pattern.specs.Pattern.{matches}
use Rattle.hk_pattern.specs.declared.pattern.Pattern.{Pattern}
use Rattle.hk_rules.specs.Plan.{Lookups}
use Rattle.hk_rules_file.specs.declared.tables.FeedRule.{FeedRule}

abbrev pub is_match : Pattern → Ident → Bool
is_match by id = matches by id.path id.version

-- an item that the pattern matches and that has a target
abbrev pub is_member : Lookups → FeedRule → ℕ → Bool
is_member plan feed item = is_match feed.of (plan.id item) && is_some (plan.target_of item)

-- the members of a feed, in identifier order
abbrev pub members : Lookups → FeedRule → List ℕ
members plan feed = filter (is_member plan feed) (range_with_len 0 plan.count)

-- the date of an item
abbrev pub date_at : Lookups → ℕ → Option Moment
date_at plan item = date_of (plan.meta item) (plan.id item).path
