-- The items of a plan, as entries are held against them.
use Rattle.std.specs.Prelude.{length}
use Rattle.hk_eval.specs.PlanTable.{table_of}
use Rattle.hk_rules.specs.Pairs.{saves}
use Rattle.hk_rules.specs.Plan.{id_at, chain_at}
use Rattle.hk_rules.specs.PlanView.{PlanView}
use Rattle.hk_rules.specs.Recipe.{recipe_of}
use Rattle.hk_store.specs.RecipeText.{recipe_text}
use Rattle.hk_reuse.specs.Site.{Items}

abbrev pub items_of : PlanView → Items
items_of plan =
    record {
      table = table_of plan;
      patterns = length plan.patterns;
      id = id_at plan;
      names = λ item. saves (chain_at plan item);
      text = λ item. recipe_text (recipe_of plan item);
    }
