use Rattle.std.proofs.Common.{◌∙◌, ap, rules, append_assoc}
use Rattle.sha2.specs.Sha256.{sha256}
use Rattle.hk_rules.specs.Recipe.{recipe_of}
use Rattle.hk_store.specs.RecipeText.{recipe_text}
use Rattle.hk_store.specs.Traits.{sha_digests}
use Rattle.hk_store.proofs.fronts.digest_after.Goals as goal

pub returns : goal.returns
unfolding recipe_of recipe_text sha_digests
returns c = c.finished.ensures _ c.requires.front ∙ ap sha256 (search (rules, append_assoc))
