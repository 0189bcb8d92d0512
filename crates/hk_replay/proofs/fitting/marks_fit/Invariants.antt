use Rattle.std.proofs.Common.{◌≡◌, drop, map}
use Rattle.std.specs.List.{list_all}
use Rattle.hk_eval.specs.PlanTable.{table_of}
use Rattle.hk_store.specs.Marks.{mark_view}
use Rattle.hk_store.specs.Traits.{sha_digests}
use Rattle.hk_reuse.specs.Fits.{mark_fits}
use Rattle.hk_replay.proofs.fitting.marks_fit.Given as goal

abbrev pub invariant-loop-mark : goal.invariant-loop-mark
invariant-loop-mark l = list_all (mark_fits sha_digests (table_of l.plan)) (map mark_view l.marks) ≡ list_all (mark_fits sha_digests (table_of l.plan)) (map mark_view (drop l.mark-index l.marks))
