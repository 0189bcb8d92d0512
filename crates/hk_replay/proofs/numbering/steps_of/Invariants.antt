use Rattle.std.proofs.Common.{◌≡◌, take, map}
use Rattle.hk_eval.specs.PlanTable.{table_of}
use Rattle.hk_rules.specs.Plan.{id_at}
use Rattle.hk_store.specs.Marks.{mark_view}
use Rattle.hk_replay.specs.Numbered.{numbered_step, step_view}
use Rattle.hk_replay.proofs.numbering.steps_of.Given as goal

abbrev pub invariant-loop-mark : goal.invariant-loop-mark
invariant-loop-mark l = map step_view l.steps.items ≡ map (numbered_step (table_of l.plan) (id_at l.plan l.item)) (map mark_view (take l.mark-index l.marks))
