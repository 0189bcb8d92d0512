use Rattle.std.proofs.Common.{◌<◌, All, length, subst, sym, ap, ◌∙◌, ◌++◌}
use Rattle.hk_chain.specs.Layout.{pairs}
use Rattle.hk_rules.specs.Pairs.{layout}
use Rattle.hk_rules.specs.Plan.{lookups}
use Rattle.hk_texts.specs.ReportText.{IsBlockedWithin, blocked_line}
use Rattle.hk_texts.proofs.Views.{mapped-at, written-turn}
use Rattle.hk_texts.proofs.report.write_blocked.Goals as goal

pub write_blocked_item-requires : goal.write_blocked_item-requires
write_blocked_item-requires c =
    let within : IsBlockedWithin (length c.args.plan.now.items) (pairs (layout c.args.plan.now.items)) (c.loop-item-item.result.0, c.loop-item-item.result.1.items) =
    mapped-at (IsBlockedWithin (length c.args.plan.now.items) (pairs (layout c.args.plan.now.items))) (λ b. (b.0, b.1.items)) c.args.blocked.now c.loop-item.item-index c.loop-item-item.result c.requires c.loop-item-test.true c.loop-item-item.is in
    record { item = within.0; pairs = subst (All (λ pair. pair < pairs (layout c.args.plan.now.items))) (sym c.deref.ensures.value) within.1 }

pub loop-item-preserved : goal.loop-item-preserved
loop-item-preserved c =
    written-turn (blocked_line (lookups c.args.plan.now)) (λ b. (b.0, b.1.items)) c.args.blocked.now c.loop-item.item-index c.loop-item-item.result c.loop-item.out.items _ _ c.loop-item-test.true c.loop-item-item.is
    (c.in_ok-write_blocked_item.ensures ∙ ap (λ waits. c.loop-item.out.items ++ blocked_line (lookups c.args.plan.now) (c.loop-item-item.result.0, waits)) c.deref.ensures.value) c.loop-item.invariant
