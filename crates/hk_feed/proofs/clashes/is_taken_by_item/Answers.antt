use Rattle.std.proofs.Common.{◌≡◌, ◌<◌, ◌≤◌, arith, sym, ap, ◌∙◌}
use Rattle.hk_rules.specs.Plan.{Lookups, lookups}
use Rattle.hk_feed.specs.FeedFaults.{clashes_with, clashes_with_item}
use Rattle.hk_feed.proofs.Lists.{any-init, any-step, any-found, any-over}
use Rattle.hk_feed.proofs.clashes.is_taken_by_item.Goals as goal

pub loop-number-init : goal.loop-number-init
loop-number-init c = any-init (clashes_with_item (lookups c.args.plan.now) c.args.target.now) (lookups c.args.plan.now).count

pub loop-number-preserved : goal.loop-number-preserved
loop-number-preserved c =
    any-step (clashes_with_item (lookups c.args.plan.now) c.args.target.now) (lookups c.args.plan.now).count c.loop-number.number _ (omega (arith, c.loop-number-test.true, c.count-number-end.ensures.value))
    (ap (clashes_with c.args.target.now) (sym c.target_of.ensures) ∙ (sym c.clashes_with.ensures ∙ c.if-clashes_with.false)) c.loop-number.invariant

pub returns-then-clashes_with : goal.returns-then-clashes_with
returns-then-clashes_with c =
    any-found (clashes_with_item (lookups c.args.plan.now) c.args.target.now) (lookups c.args.plan.now).count c.loop-number.number _ (omega (arith, c.loop-number-test.true, c.count-number-end.ensures.value))
    (ap (clashes_with c.args.target.now) (sym c.target_of.ensures) ∙ (sym c.clashes_with.ensures ∙ c.if-clashes_with.true)) c.loop-number.invariant

pub returns : goal.returns
returns c = any-over (clashes_with_item (lookups c.args.plan.now) c.args.target.now) (lookups c.args.plan.now).count c.loop-number.number _ (omega (arith, c.loop-number-test.false, c.count-number-end.ensures.value)) c.loop-number.invariant
