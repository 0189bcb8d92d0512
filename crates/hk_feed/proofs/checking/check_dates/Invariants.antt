use Rattle.std.proofs.Common.{◌≡◌, drop}
use Rattle.hk_rules.specs.Plan.{lookups}
use Rattle.hk_feed.specs.FeedFaults.{date_fault}
use Rattle.hk_feed.proofs.checking.check_dates.Given as goal

-- what is wanting is wanting of the rest
abbrev pub invariant-loop-item : goal.invariant-loop-item
invariant-loop-item l = date_fault (lookups l.plan) (drop l.item-index l.members) ≡ date_fault (lookups l.plan) l.members
