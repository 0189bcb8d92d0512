use Rattle.std.proofs.Common.{◌≡◌, take}
use Rattle.hk_eval.specs.PlanTable.{table_of}
use Rattle.hk_reuse.specs.Replay.{asked_pairs}
use Rattle.hk_replay.proofs.numbering.pairs_of.Given as goal

abbrev pub invariant-loop-ask : goal.invariant-loop-ask
invariant-loop-ask l = l.pairs.items ≡ asked_pairs (table_of l.plan) (take l.ask-index l.asks)
