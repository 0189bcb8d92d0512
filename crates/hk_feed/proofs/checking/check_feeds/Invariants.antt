use Rattle.std.proofs.Common.{◌≡◌, [], take, drop}
use Rattle.hk_rules.specs.Plan.{lookups}
use Rattle.hk_feed.specs.FeedFaults.{later_fault}
use Rattle.hk_feed.proofs.checking.check_feeds.Given as goal

-- the fault of all feeds is that of the rest
abbrev pub invariant-loop-place : goal.invariant-loop-place
invariant-loop-place l = later_fault (lookups l.plan) (take l.place l.feeds) (drop l.place l.feeds) ≡ later_fault (lookups l.plan) [] l.feeds
