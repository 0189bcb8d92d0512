use Rattle.std.proofs.Common.{sym, ◌∙◌}
use Rattle.hk_rules.specs.Plan.{lookups}
use Rattle.hk_feed.specs.FeedFaults.{lacks_date, no_date}
use Rattle.hk_feed.proofs.Lists.{found-turn, found-end}
use Rattle.hk_feed.proofs.checking.check_dates.Goals as goal

pub loop-item-preserved : goal.loop-item-preserved
loop-item-preserved c =
    found-turn (no_date (lookups c.args.plan.now)) (lacks_date (lookups c.args.plan.now)) c.args.members.now c.loop-item.item-index c.item-item.result _
    c.loop-item-test.true c.item-item.is (sym c.lacks_date.ensures ∙ c.if-lacks_date.false) c.loop-item.invariant

pub returns : goal.returns
returns c =
    sym (found-end (no_date (lookups c.args.plan.now)) (lacks_date (lookups c.args.plan.now)) c.args.members.now c.loop-item.item-index _ c.loop-item-test.false c.loop-item.invariant)
