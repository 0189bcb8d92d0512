use Rattle.hk_rules.proofs.Recipes.{plan-recipe, plan_of-headed}
use Rattle.hk_rules.proofs.recipe.plans_give_recipes.Goals as goal

pub returns-clause-recipe : goal.returns-clause-recipe
returns-clause-recipe c = λ plan item linked headed lt. plan-recipe plan linked headed item lt

pub returns-clause-headed : goal.returns-clause-headed
returns-clause-headed c = λ rules files plan e. plan_of-headed rules files plan e
