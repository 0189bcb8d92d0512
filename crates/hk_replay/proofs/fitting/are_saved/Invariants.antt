use Rattle.std.proofs.Common.{◌≡◌, ◌≤◌, drop, length, map}
use Rattle.std.specs.Prelude.{bytes_eq}
use Rattle.std.specs.Cmp.Lexicographic.{pointwise}
use Rattle.hk_store.specs.Marks.{mark_view}
use Rattle.hk_reuse.specs.Entries.{saved_names}
use Rattle.hk_replay.proofs.fitting.are_saved.Given as goal

abbrev pub invariant-loop-mark : goal.invariant-loop-mark
invariant-loop-mark l = (pointwise bytes_eq (saved_names (map mark_view l.marks)) l.wanted ≡ pointwise bytes_eq (saved_names (map mark_view (drop l.mark-index l.marks))) (drop l.at l.wanted)) × (l.at ≤ length l.wanted)
