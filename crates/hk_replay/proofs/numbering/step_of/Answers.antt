use Rattle.std.proofs.Common.{◌≡◌, sym, ◌∙◌, subst}
use Rattle.hk_eval.specs.PlanTable.{table_of}
use Rattle.hk_fix.specs.Deeds.{pair_or}
use Rattle.hk_rules.specs.Plan.{id_at}
use Rattle.hk_store.specs.Marks.{mark_view}
use Rattle.hk_store.specs.declared.entry.MarkRecord.{MarkRecord}
use Rattle.hk_reuse.specs.Site.{pair_named}
use Rattle.hk_replay.specs.Numbered.{save, numbered_step}
use Rattle.hk_replay.proofs.Matching.{id-same}
use Rattle.hk_replay.proofs.numbering.step_of.Goals as goal

pub returns-in_ok-page-in-Save : goal.returns-in_ok-page-in-Save
returns-in_ok-page-in-Save c =
    let plan = c.args.plan.now in
    let table = table_of plan in
    let pair : c.pair_or-pair.result ≡ pair_named table (id_at plan c.args.item) c.in-Save.save.name = c.pair_or-pair.ensures ∙ (λ i. pair_or table (record { id = (c.id.ensures ∙ id-same plan c.args.item) i; name = c.as_slice.ensures i })) in
    subst (λ (m : MarkRecord). save c.pair_or-pair.result c.in_ok-page-in-Save.page ≡ numbered_step table (id_at plan c.args.item) (mark_view m)) (sym c.in-Save.is) (λ i. save (pair i) (c.in_ok-page-in-Save.ensures i))
