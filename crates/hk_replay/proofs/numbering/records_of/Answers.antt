use Rattle.std.proofs.Common.{◌≡◌, sym, ap, ◌∙◌, arith, ◌+◌, ◌-◌, drop, get_or, List}
use Rattle.hk_rules.specs.Plan.{id_at}
use Rattle.hk_store.specs.Entry.{EntryView}
use Rattle.hk_store.specs.Traits.{sha_digests}
use Rattle.hk_reuse.specs.Entries.{entries_in}
use Rattle.hk_replay.specs.Numbered.{numbered_by}
use Rattle.hk_replay.specs.PlanItems.{items_of}
use Rattle.hk_replay.proofs.Matching.{table-items, adds-turn}
use Rattle.hk_replay.proofs.numbering.records_of.Goals as goal

pub loop-at-preserved : goal.loop-at-preserved
loop-at-preserved c =
    let plan = c.args.plan.now in
    let entries : List EntryView = c.args.stored.now in
    let at = c.loop-at.at in
    let back : (at - 1) + 1 ≡ at = omega (arith, c.loop-at-test.true) in
    let e : EntryView = c.index.result.now in
    let here : e ≡ get_or entries (at - 1) e = c.index.ensures ∙ ap (λ (l : List EntryView). get_or l (at - 1) e) c.stored.view_is in (
      omega (arith, c.loop-at.invariant.0),
      c.in_ok-add_record.ensures.count ∙ c.loop-at.invariant.1,
      adds-turn plan entries (at - 1) e c.loop-at.by_item.items c.add_record.new.by_item.items (omega (arith, c.loop-at.invariant.0, c.loop-at-test.true)) here c.in_ok-add_record.ensures.added
          (λ i lt. c.loop-at.invariant.2 i lt ∙ ap (λ n. numbered_by sha_digests (items_of plan) i (entries_in (drop n entries) (id_at plan i))) (sym back)),
    )

pub returns : goal.returns
returns c =
    let plan = c.args.plan.now in
    let zero : c.loop-at.at ≡ 0 = omega (arith, c.loop-at-test.false) in
    λ i lt. c.loop-at.invariant.2 i (omega (arith, lt, table-items plan)) ∙ ap (λ n. numbered_by sha_digests (items_of plan) i (entries_in (drop n c.args.stored.now) (id_at plan i))) zero
