use Rattle.std.proofs.Common.{◌≡◌, sym, ap, subst, ◌∙◌}
use Rattle.std.specs.Option.{unwrap_or}
use Rattle.hk_chain.specs.Kept.{at_place}
use Rattle.hk_chain.specs.Marks.{mark_view}
use Rattle.hk_chain.specs.declared.facts.Mark.{Mark}
use Rattle.hk_eval.specs.PlanTable.{table_of}
use Rattle.hk_fix.specs.Table.{Key}
use Rattle.hk_store.specs.Entry.{stored}
use Rattle.hk_store.specs.Traits.{sha_digests}
use Rattle.hk_reuse.specs.Entries.{blank_page}
use Rattle.hk_reuse.specs.Image as image
use Rattle.hk_replay.proofs.LeftEntries.{key-same, name-same}
use Rattle.hk_replay.proofs.storing.mark_of.Goals as goal

pub returns-in_ok-page-in-Saved : goal.returns-in_ok-page-in-Saved
returns-in_ok-page-in-Saved c =
    let plan = c.args.plan.now in
    let pair = c.in-Saved.pair in
    let k = at_place c.args.pages.now in
    let table = table_of plan in
    let name : c.in_ok-name-in-Saved.name ≡ (table.key pair).name = c.in_ok-name-in-Saved.ensures ∙ (c.pair_name.ensures ∙ (name-same plan pair ∙ sym (ap (λ (key : Key). key.name) (key-same plan pair)))) in
    let page : c.in_ok-page-in-Saved.page ≡ image.page_at k pair = c.in_ok-page-in-Saved.ensures ∙ sym (ap (λ o. unwrap_or o blank_page) c.page_of.ensures) in
    subst (λ (m : Mark). stored c.in_ok-name-in-Saved.name c.in_ok-page-in-Saved.page ≡ image.mark_view sha_digests table k (mark_view m)) (sym c.in-Saved.is) (λ i. stored (name i) (page i))
