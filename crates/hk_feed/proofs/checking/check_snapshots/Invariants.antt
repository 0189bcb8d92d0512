use Rattle.std.proofs.Common.{◌≡◌, drop}
use Rattle.hk_rules.specs.Plan.{lookups}
use Rattle.hk_feed.specs.FeedFaults.{snapshot_fault}
use Rattle.hk_feed.proofs.checking.check_snapshots.Given as goal

-- what is wanting is wanting of the rest
abbrev pub invariant-loop-item : goal.invariant-loop-item
invariant-loop-item l = snapshot_fault (lookups l.plan) l.name (drop l.item-index l.members) ≡ snapshot_fault (lookups l.plan) l.name l.members
