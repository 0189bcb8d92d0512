use Rattle.std.proofs.Common.{sym, ◌∙◌, subst}
use Rattle.hk_chain.specs.Layout.{Shape}
use Rattle.hk_eval.specs.PlanTable.{table_of}
use Rattle.hk_reuse.specs.Entries.{entries_in}
use Rattle.hk_replay.specs.PlanItems.{items_of}
use Rattle.hk_replay.specs.Replays.{AreRecords}
use Rattle.hk_replay.specs.declared.record.Records.{Records}
use Rattle.hk_replay.proofs.Bridging.{records-numbered}
use Rattle.hk_replay.proofs.Matching.{layout-same}
use Rattle.hk_replay.proofs.Planned.{plan-items, stores-formed}
use Rattle.hk_replay.proofs.maker.ReplayMaker.new.Goals as goal

pub invariant_of-result : goal.invariant_of-result
invariant_of-result g c =
    let plan = c.args.plan.now in
    let stored = c.args.stored.now in
    let made : AreRecords (table_of plan).layout c.in_ok-made.made = records-numbered (items_of plan) (plan-items plan c.count-count.ensures.valid c.linked.ensures) (entries_in stored) (stores-formed stored c.requires.stored) c.in_ok-made.made c.in_ok-made.ensures in
    record { fit = subst (λ (l : Shape). AreRecords l c.in_ok-records.records) (layout-same plan ∙ sym c.requires.layout) (subst (λ (r : Records). AreRecords (table_of plan).layout r) (sym c.in_ok-records.ensures) made) }
