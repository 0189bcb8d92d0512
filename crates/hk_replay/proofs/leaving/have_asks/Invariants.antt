use Rattle.std.proofs.Common.{◌≡◌, take, map}
use Rattle.hk_chain.specs.Kept.{at_place}
use Rattle.hk_eval.specs.PlanTable.{table_of}
use Rattle.hk_store.specs.Traits.{sha_digests}
use Rattle.hk_reuse.specs.Image.{ask_view}
use Rattle.hk_replay.proofs.leaving.have_asks.Given as goal

abbrev pub invariant-loop-i : goal.invariant-loop-i
invariant-loop-i l = map (ask_view sha_digests (table_of l.plan) (at_place l.pages)) (take l.i l.pairs) ≡ take l.i l.asks
