use Rattle.std.proofs.Common.{◌≡◌, take, map}
use Rattle.hk_chain.specs.Kept.{at_place}
use Rattle.hk_chain.specs.Marks as traces
use Rattle.hk_eval.specs.PlanTable.{table_of}
use Rattle.hk_store.specs.Marks as marks
use Rattle.hk_store.specs.Traits.{sha_digests}
use Rattle.hk_reuse.specs.Image as image
use Rattle.hk_replay.proofs.leaving.have_marks.Given as goal

abbrev pub invariant-loop-i : goal.invariant-loop-i
invariant-loop-i l = map (image.mark_view sha_digests (table_of l.plan) (at_place l.pages)) (map traces.mark_view (take l.i l.trace)) ≡ map marks.mark_view (take l.i l.records)
