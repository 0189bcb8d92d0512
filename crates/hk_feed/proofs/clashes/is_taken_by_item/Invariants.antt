use Rattle.std.proofs.Common.{◌≡◌, ◌-◌}
use Rattle.std.specs.List.{list_any, range_with_len}
use Rattle.hk_rules.specs.Plan.{lookups}
use Rattle.hk_feed.specs.FeedFaults.{clashes_with_item}
use Rattle.hk_feed.proofs.clashes.is_taken_by_item.Given as goal

-- what holds of all items holds of those that are left
abbrev pub invariant-loop-number : goal.invariant-loop-number
invariant-loop-number l =
    list_any (clashes_with_item (lookups l.plan) l.target) (range_with_len l.number ((lookups l.plan).count - l.number)) ≡ list_any (clashes_with_item (lookups l.plan) l.target) (range_with_len 0 (lookups l.plan).count)
