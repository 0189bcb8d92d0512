use Rattle.std.proofs.Common.{◌≡◌, take, map}
use Rattle.hk_chain.specs.Kept.{at_place}
use Rattle.hk_chain.specs.Marks as traces
use Rattle.hk_eval.specs.PlanTable.{table_of}
use Rattle.hk_store.specs.Marks as marks
use Rattle.hk_store.specs.Traits.{sha_digests}
use Rattle.hk_reuse.specs.Image as image
use Rattle.hk_replay.proofs.storing.marks_of.Given as goal

abbrev pub invariant-loop-mark : goal.invariant-loop-mark
invariant-loop-mark l = map marks.mark_view l.records.items ≡ map (image.mark_view sha_digests (table_of l.plan) (at_place l.pages)) (map traces.mark_view (take l.mark-index l.trace))
