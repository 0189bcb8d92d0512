use Rattle.hk_store.proofs.RecipeTexts.{recipe-told, same-recipe}
use Rattle.hk_store.proofs.laws.recipes_are_told.Goals as goal

pub returns-clause-equal : goal.returns-clause-equal
returns-clause-equal c = same-recipe

pub returns-clause-told : goal.returns-clause-told
returns-clause-told c = recipe-told
