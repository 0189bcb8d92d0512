-- What the fingerprints of a chain's items begin with, hashed.
use Rattle.std.specs.Prelude.{◌<◌, length}
use Rattle.sha2.specs.Hashers.{Holds256}
use Rattle.hk_rules.specs.PlanView.{PlanView}
use Rattle.hk_rules.specs.Recipe.{recipe_of}
use Rattle.hk_store.specs.RecipeText.{chain_text}
use Rattle.hk_store.specs.declared.fronts.Front.{Front}

-- the hash is that of what stands in front of the fingerprint of an item
abbrev pub IsFront : PlanView → Front → Type 0
IsFront plan front = (front.item < length plan.items) × Holds256 front.hasher (chain_text (recipe_of plan front.item))
