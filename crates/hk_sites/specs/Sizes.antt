-- The sizes that a plan in memory has.
use Rattle.std.specs.Prelude.{ℕ, ◌<◌, length, IfSome}
use Rattle.std.specs.List.{AllByRecursion}
use Rattle.hk_chain.specs.declared.context.Field.{Field}
use Rattle.hk_chain.specs.declared.context.Field.TheVariants.{List as ListField}
use Rattle.hk_rules.specs.PlanView.{PlanView}
use Rattle.hk_rules.specs.Recipe.{recipe_of}
use Rattle.hk_store.specs.RecipeText.{recipe_text}
use Rattle.hk_store.specs.Told.{Small, Short}

-- the limits of a plan's lists are below 2^64
abbrev pub IsSmallField : Field → Type 0
IsSmallField (ListField key of snapshot order limit context) = IfSome limit Small
IsSmallField _ = Unit {0}

abbrev pub HasLimits : PlanView → Type 0
HasLimits plan = AllByRecursion (λ context. AllByRecursion IsSmallField context.fields) plan.contexts

-- and so are the lengths of its items' fingerprints
abbrev pub HasTexts : PlanView → Type 0
HasTexts plan = (item : ℕ) → item < length plan.items → Short (recipe_text (recipe_of plan item))
