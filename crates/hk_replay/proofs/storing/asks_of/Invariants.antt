use Rattle.std.proofs.Common.{◌≡◌, take, map}
use Rattle.hk_chain.specs.Kept.{at_place}
use Rattle.hk_eval.specs.PlanTable.{table_of}
use Rattle.hk_store.specs.Traits.{sha_digests}
use Rattle.hk_reuse.specs.Image.{ask_view}
use Rattle.hk_replay.proofs.storing.asks_of.Given as goal

abbrev pub invariant-loop-pair : goal.invariant-loop-pair
invariant-loop-pair l = l.asks.items ≡ map (ask_view sha_digests (table_of l.plan) (at_place l.pages)) (take l.pair-index l.pairs)
