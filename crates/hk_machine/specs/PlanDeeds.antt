-- A plan's items with the deeds of their compilers.
use Rattle.std.specs.Prelude.{List, filter_map}
use Rattle.hk_base.specs.Bytes.{Bytes}
use Rattle.hk_fix.specs.Deeds.{Deeds}
use Rattle.hk_rules.specs.Plan.{id_at}
use Rattle.hk_eval.specs.PlanTable.{table_of}
use Rattle.hk_rules.specs.PlanView.{PlanView}
use Rattle.hk_rules.specs.Recipe.{Recipe, recipe_of}
use Rattle.hk_machine.specs.ChainDeed.{saved_name, chain_deed}

-- the names under which an item saves on its way
abbrev pub saved_names : Recipe → List Bytes
saved_names recipe = filter_map saved_name recipe.steps

unfoldable pub deeds_of : PlanView → Deeds
deeds_of plan =
    record {
      table = table_of plan;
      id = id_at plan;
      deed = λ item. chain_deed (id_at plan item) (recipe_of plan item);
      names = λ item. saved_names (recipe_of plan item);
    }
