-- What is known of a plan before entries are held against it.
use Rattle.std.specs.Prelude.{◌≡◌, ℕ, ◌<◌, List, length, get_or, []}
use Rattle.hk_base.specs.Bytes.{Bytes}
use Rattle.hk_rules.specs.PlanView.{PlanView}
use Rattle.hk_rules.specs.Recipe.{recipe_of}
use Rattle.hk_eval.specs.PlanTable.{traits_at, pattern_texts}
use Rattle.hk_store.specs.RecipeText.{recipe_text}
use Rattle.hk_store.specs.Traits.{sha_digests}

pub record KnownView : Type 0 where
  pub prints : List Bytes
  pub traits : List Bytes
  pub texts : List Bytes

-- the digests of each item's fingerprint and traits, and each pattern's text
pub record IsKnown (plan : PlanView) (known : KnownView) : Type 0 where
  pub printed : length known.prints ≡ length plan.items
  pub prints : (item : ℕ) → item < length plan.items → get_or known.prints item [] ≡ sha_digests.text (recipe_text (recipe_of plan item))
  pub count : length known.traits ≡ length plan.items
  pub traits : (item : ℕ) → item < length plan.items → get_or known.traits item [] ≡ sha_digests.traits (traits_at plan item)
  pub texts : known.texts ≡ pattern_texts plan
