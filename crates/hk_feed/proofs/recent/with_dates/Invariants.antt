use Rattle.std.proofs.Common.{◌≡◌, ◌++◌, drop}
use Rattle.hk_rules.specs.Plan.{lookups}
use Rattle.hk_feed.specs.Recent.{dated}
use Rattle.hk_feed.proofs.recent.with_dates.Given as goal

-- the dates so far and those of the rest are all
abbrev pub invariant-loop-item : goal.invariant-loop-item
invariant-loop-item l = l.dated.items ++ dated (lookups l.plan) (drop l.item-index l.items) ≡ dated (lookups l.plan) l.items
