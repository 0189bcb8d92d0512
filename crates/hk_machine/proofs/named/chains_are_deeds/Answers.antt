use Rattle.std.proofs.Common.{length}
use Rattle.hk_rules.specs.Plan.{lookups}
use Rattle.hk_eval.specs.PlanTable.{table_of}
use Rattle.hk_rules.specs.Recipe.{recipe_of}
use Rattle.hk_eval.proofs.PlanNames.{plan-is_told}
use Rattle.hk_rules.proofs.Recipes.{plan-recipe}
use Rattle.hk_machine.proofs.ChainDeeds.{chain-same}
use Rattle.hk_machine.proofs.PlanProper.{deeds-proper}
use Rattle.hk_machine.proofs.named.chains_are_deeds.Goals as goal

pub returns-clause-same : goal.returns-clause-same
unfolding lookups recipe_of
returns-clause-same c = λ plan item made lt.
    chain-same (lookups plan) (length plan.items) (length plan.contexts) (length plan.patterns) (table_of plan) (plan-is_told plan made.form made.linked) item lt (plan-recipe plan made.linked made.headed item lt)

pub returns-clause-proper : goal.returns-clause-proper
returns-clause-proper c = λ plan made. deeds-proper plan made.form made.linked made.headed
