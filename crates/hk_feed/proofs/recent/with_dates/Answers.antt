use Rattle.std.proofs.Common.{◌++◌, sym, ap, ◌∙◌}
use Rattle.std.specs.Option.{option_to_list}
use Rattle.hk_rules.specs.Plan.{Lookups, lookups}
use Rattle.hk_feed.specs.Recent.{dated_by, dated_at}
use Rattle.hk_feed.proofs.Lists.{given-turn, given-end}
use Rattle.hk_feed.proofs.recent.with_dates.Goals as goal

pub loop-item-preserved : goal.loop-item-preserved
loop-item-preserved c =
    given-turn (dated_at (lookups c.args.plan.now)) c.args.items.now c.loop-item.item-index c.item-item.result _ _ _ c.loop-item-test.true c.item-item.is
    (c.in_ok-add_dated.ensures ∙ ap (λ o. c.loop-item.dated.items ++ option_to_list (dated_by c.item-item.result o)) c.date_at.ensures.value) c.loop-item.invariant

pub returns : goal.returns
returns c = given-end (dated_at (lookups c.args.plan.now)) c.args.items.now c.loop-item.item-index c.loop-item.dated.items _ c.loop-item-test.false c.loop-item.invariant
