use Rattle.std.proofs.Common.{length, sym}
use Rattle.hk_rules.specs.Plan.{lookups}
use Rattle.hk_eval.specs.PlanTable.{table_of}
use Rattle.hk_rules.specs.Recipe.{recipe_of}
use Rattle.hk_eval.proofs.PlanNames.{plan-is_told}
use Rattle.hk_rules.proofs.Recipes.{plan-recipe}
use Rattle.hk_machine.proofs.ChainDeeds.{apply-same, self-same}
use Rattle.hk_machine.proofs.named.renderings_of_pages_are_deeds.Goals as goal

pub returns-clause-applied : goal.returns-clause-applied
unfolding lookups recipe_of
returns-clause-applied c = λ plan item id context page made lt i.
    sym (apply-same (lookups plan) (length plan.items) (length plan.contexts) (length plan.patterns) (table_of plan) (plan-is_told plan made.form made.linked) item lt (plan-recipe plan made.linked made.headed item lt) id context i page)

pub returns-clause-itself : goal.returns-clause-itself
unfolding lookups recipe_of
returns-clause-itself c = λ plan item context page made lt i.
    sym (self-same (lookups plan) (length plan.items) (length plan.contexts) (length plan.patterns) (table_of plan) (plan-is_told plan made.form made.linked) item lt (plan-recipe plan made.linked made.headed item lt) context i page)
