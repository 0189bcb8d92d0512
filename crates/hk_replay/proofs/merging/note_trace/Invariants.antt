use Rattle.std.proofs.Common.{◌≡◌, drop, map}
use Rattle.hk_chain.specs.Marks.{mark_view}
use Rattle.hk_replay.specs.Merging.{merged}
use Rattle.std.specs.BTreeSet.{contains}
use Rattle.std.specs.Ordering.{nat_cmp}
use Rattle.hk_replay.proofs.merging.note_trace.Given as goal

abbrev pub invariant-loop-mark : goal.invariant-loop-mark
invariant-loop-mark l = merged (contains nat_cmp l.kept) l.initial.notes (map mark_view l.trace) ≡ merged (contains nat_cmp l.kept) l.notes (map mark_view (drop l.mark-index l.trace))
