use Rattle.std.proofs.Common.{◌<◌, All, length, subst, sym}
use Rattle.hk_texts.proofs.Views.{mapped-at}
use Rattle.hk_texts.proofs.report.write_cycles.Goals as goal

pub write_cycle-requires : goal.write_cycle-requires
write_cycle-requires c =
    subst (All (λ item. item < length c.args.plan.now.items)) (sym c.deref.ensures.value)
    (mapped-at (All (λ item. item < length c.args.plan.now.items)) (λ v. v.items) c.args.cycles.now c.loop-items.items-index c.items-item.result c.requires c.loop-items-test.true c.items-item.is)
