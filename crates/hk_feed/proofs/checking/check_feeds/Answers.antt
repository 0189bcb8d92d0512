use Rattle.std.proofs.lemmas.Result.{err_from_is_err_and}
use Rattle.hk_rules.specs.Plan.{lookups}
use Rattle.hk_feed.specs.FeedFaults.{feeds_fault}
use Rattle.hk_feed.proofs.Checks.{checked-turn, checked-stop, checked-end}
use Rattle.hk_feed.proofs.checking.check_feeds.Goals as goal

pub loop-place-preserved : goal.loop-place-preserved
loop-place-preserved c =
    checked-turn (lookups c.args.plan.now) c.args.feeds.now c.loop-place.place c.index-feeds-place.result c.loop-place-test.true c.index-feeds-place.is c.loop-place.invariant c.in_ok-check_feed.ensures

pub returns-in_err-check_feed : goal.returns-in_err-check_feed
unfolding feeds_fault
returns-in_err-check_feed c =
    let p = err_from_is_err_and c.from_residual.result c.from_residual.ensures.1 in
    rw (p.1, p.2)
    (checked-stop (lookups c.args.plan.now) c.args.feeds.now c.loop-place.place c.index-feeds-place.result c.loop-place-test.true c.index-feeds-place.is c.loop-place.invariant c.in_err-check_feed.field-0.0 c.in_err-check_feed.ensures)

pub returns : goal.returns
unfolding feeds_fault
returns c = checked-end (lookups c.args.plan.now) c.args.feeds.now c.loop-place.place c.loop-place-test.false c.loop-place.invariant
