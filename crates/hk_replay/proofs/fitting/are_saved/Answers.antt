use Rattle.std.proofs.Common.{◌≡◌, sym, ap, ◌∙◌, map, drop, ◌∷◌, ◌+◌}
use Rattle.hk_store.specs.Marks.{mark_view}
use Rattle.hk_store.specs.declared.entry.MarkRecord.{MarkRecord}
use Rattle.hk_reuse.specs.Entries.{saved_names}
use Rattle.hk_replay.proofs.Matching.{names-turn, names-past}
use Rattle.hk_replay.proofs.fitting.are_saved.Goals as goal

pub returns-then-at-wanted : goal.returns-then-at-wanted
returns-then-at-wanted c =
    let rest = saved_names (map mark_view (drop (c.loop-mark.mark-index + 1) c.args.marks.now)) in
    let names : saved_names (map mark_view (drop c.loop-mark.mark-index c.args.marks.now)) ≡ c.in-Save.save.name ∷ rest = names-turn c.args.marks.now c.loop-mark.mark-index c.mark-item.result c.loop-mark-test.true c.mark-item.is ∙ ap (λ (m : MarkRecord). saved_names (mark_view m ∷ map mark_view (drop (c.loop-mark.mark-index + 1) c.args.marks.now))) c.in-Save.is in
    sym (c.loop-mark.invariant.0 ∙ names-past (saved_names (map mark_view (drop c.loop-mark.mark-index c.args.marks.now))) c.args.wanted.now c.loop-mark.at c.in-Save.save.name rest names c.if-at-wanted.true)
