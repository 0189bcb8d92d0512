use Rattle.std.proofs.Common.{◌≡◌, sym, ap, ◌∙◌}
use Rattle.hk_chain.specs.Kept.{at_place}
use Rattle.hk_fix.specs.Results.{ResultsView}
use Rattle.hk_reuse.specs.Entries.{Entries}
use Rattle.hk_reuse.specs.Kept.{out_of_date}
use Rattle.hk_store.specs.Traits.{sha_digests}
use Rattle.hk_replay.specs.Numbered.{AreNumbered}
use Rattle.hk_replay.specs.PlanItems.{items_of}
use Rattle.hk_replay.specs.Renewing.{others_below}
use Rattle.hk_replay.proofs.Matching.{if-ok, table-items}
use Rattle.hk_replay.proofs.Renewed.{others-old}
use Rattle.hk_replay.proofs.maker.ReplayMaker.out_of_date.Goals as goal

pub returns : goal.returns
returns g c =
    let plan = c.args.plan.now in
    let records = c.args.self.now.records in
    let pages : c.deref.result.now ≡ c.args.results.now.pages = c.deref.ensures.value ∙ ap (λ (r : ResultsView). r.pages) c.results.view_is in
    let count = c.count.ensures.items ∙ sym (table-items plan) in
    if-ok c.others_of.result (λ v. v.items ≡ others_below (at_place c.deref.result.now) c.get.result.now c.count.result)
    (λ v. (entries : Entries) → AreNumbered sha_digests (items_of plan) entries records → v.items ≡ out_of_date sha_digests (items_of plan) (at_place c.args.results.now.pages) entries)
    (λ v e entries are. e ∙ ((λ i. others_below (at_place (pages i)) (c.get.ensures i) (count i)) ∙ others-old (items_of plan) entries records (at_place c.args.results.now.pages) are))
    c.others_of.ensures
