use Rattle.std.proofs.Common.{rules, append_assoc}
use Rattle.hk_rules.specs.Recipe.{recipe_of}
use Rattle.hk_store.specs.RecipeText.{recipe_text}
use Rattle.hk_store.proofs.fingerprints.fingerprint.Goals as goal

pub returns : goal.returns
unfolding recipe_of recipe_text
returns c = search (rules, append_assoc)
