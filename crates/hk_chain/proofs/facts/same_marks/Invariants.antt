use Rattle.std.proofs.Common.{◌≡◌, map, take}
use Rattle.hk_chain.specs.Marks.{mark_view}
use Rattle.hk_chain.proofs.facts.same_marks.Given as goal

abbrev pub invariant-loop-mark : goal.invariant-loop-mark
invariant-loop-mark l = map mark_view l.same.items ≡ map mark_view (take l.mark-index l.marks)
