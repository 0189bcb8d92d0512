use Rattle.std.proofs.Common.{◌≡◌, take, map}
use Rattle.hk_eval.specs.PlanTable.{table_of}
use Rattle.hk_reuse.specs.Image.{match_view}
use Rattle.hk_replay.proofs.leaving.have_matches.Given as goal

abbrev pub invariant-loop-i : goal.invariant-loop-i
invariant-loop-i l = map (match_view (table_of l.plan)) (take l.i l.numbers) ≡ take l.i l.records
