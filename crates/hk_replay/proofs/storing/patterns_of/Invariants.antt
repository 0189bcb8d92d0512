use Rattle.std.proofs.Common.{◌≡◌, take, map}
use Rattle.hk_eval.specs.PlanTable.{table_of}
use Rattle.hk_reuse.specs.Image.{match_view}
use Rattle.hk_replay.proofs.storing.patterns_of.Given as goal

abbrev pub invariant-loop-number : goal.invariant-loop-number
invariant-loop-number l = l.records.items ≡ map (match_view (table_of l.plan)) (take l.number-index l.numbers)
