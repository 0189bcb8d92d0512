use Rattle.std.proofs.Common.{◌≡◌, sym, ap, ◌∙◌, arith, Some, None, ℕ, []}
use Rattle.hk_rules.specs.Plan.{lookups}
use Rattle.hk_store.specs.Entry.{EntryView}
use Rattle.hk_store.specs.Traits.{sha_digests}
use Rattle.hk_replay.specs.Numbered.{numbered_by}
use Rattle.hk_replay.specs.PlanItems.{items_of}
use Rattle.hk_replay.proofs.Matching.{found-below, adds-none, adds-some}
use Rattle.hk_replay.proofs.numbering.add_record.Goals as goal

pub returns-in_default-clause-added : goal.returns-in_default-clause-added
returns-in_default-clause-added c =
    let plan = c.args.plan.now in
    let none : (lookups plan).find c.args.entry.now.id ≡ None = ap (λ (e : EntryView). (lookups plan).find e.id) (sym c.entry.view_is) ∙ (sym c.find.ensures ∙ c.in_default.is) in
    adds-none plan c.requires.form c.args.entry.now c.args.by_item.now.items none

pub record_of-requires-clause-item : goal.record_of-requires-clause-item
record_of-requires-clause-item c = found-below c.args.plan.now c.entry.inside.id [] c.in-Some.item (sym c.find.ensures ∙ c.in-Some.is)

pub index_mut-requires : goal.index_mut-requires
index_mut-requires c = omega (arith, found-below c.args.plan.now c.entry.inside.id [] c.in-Some.item (sym c.find.ensures ∙ c.in-Some.is), c.requires.count, c.item.view_is)

pub returns-clause-added : goal.returns-clause-added
returns-clause-added c =
    let plan = c.args.plan.now in
    let e = c.args.entry.now in
    let below = found-below plan c.entry.inside.id [] c.in-Some.item (sym c.find.ensures ∙ c.in-Some.is) in
    let found : (lookups plan).find e.id ≡ Some c.item.inside.0 = ap (λ (v : EntryView). (lookups plan).find v.id) (sym c.entry.view_is) ∙ (sym c.find.ensures ∙ (c.in-Some.is ∙ ap Some (sym c.item.view_is))) in
    adds-some plan c.requires.form e c.args.by_item.now.items c.item.inside.0 c.in_ok-made.made c.requires.count found (omega (arith, below, c.item.view_is))
    (c.in_ok-made.ensures ∙ ap (λ (k : ℕ). numbered_by sha_digests (items_of plan) k (Some e)) (sym c.item.view_is))
