use Rattle.hk_eval.proofs.PlanNames.{plan-is_table, plan-is_told}
use Rattle.hk_eval.proofs.named.plans_tell_names.Goals as goal

pub returns-clause-table : goal.returns-clause-table
returns-clause-table c = λ plan is linked. plan-is_table plan is linked

pub returns-clause-told : goal.returns-clause-told
returns-clause-told c = λ plan is linked. plan-is_told plan is linked
