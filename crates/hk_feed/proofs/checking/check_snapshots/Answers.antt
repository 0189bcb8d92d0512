use Rattle.std.proofs.Common.{sym, ◌∙◌}
use Rattle.hk_rules.specs.Plan.{lookups}
use Rattle.hk_feed.specs.FeedFaults.{lacks_snapshot, no_snapshot}
use Rattle.hk_feed.proofs.Lists.{found-turn, found-end}
use Rattle.hk_feed.proofs.checking.check_snapshots.Goals as goal

pub loop-item-preserved : goal.loop-item-preserved
loop-item-preserved c =
    found-turn (no_snapshot (lookups c.args.plan.now) c.args.name.now) (lacks_snapshot (lookups c.args.plan.now) c.args.name.now) c.args.members.now c.loop-item.item-index c.item-item.result _
    c.loop-item-test.true c.item-item.is (sym c.lacks_snapshot.ensures ∙ c.if-lacks_snapshot.false) c.loop-item.invariant

pub returns : goal.returns
returns c =
    sym (found-end (no_snapshot (lookups c.args.plan.now) c.args.name.now) (lacks_snapshot (lookups c.args.plan.now) c.args.name.now) c.args.members.now c.loop-item.item-index _ c.loop-item-test.false c.loop-item.invariant)
