-- What holds of the texts of a plan's patterns holds of those of its recipes.
use Rattle.std.proofs.Common.{ℕ, ◌<◌, List, [], ◌∷◌, map}
use Rattle.std.specs.List.{AllByRecursion}
use Rattle.hk_base.specs.Bytes.{Bytes}
use Rattle.hk_chain.specs.declared.chain.Step.{Step}
use Rattle.hk_chain.specs.declared.chain.Step.TheVariants as steps
use Rattle.hk_chain.specs.declared.context.Field.{Field}
use Rattle.hk_chain.specs.declared.context.Field.TheVariants as fields
use Rattle.hk_rules.specs.Plan.{Lookups}
use Rattle.hk_rules.specs.Recipe.{pattern_text, named_step, named_field, named_context, reached, recipe_in, IsStepAmong, IsFieldAmong, IsRecipe, StepHas, FieldHas, ContextsHave, PatternsHave}

module _ (P : Bytes → Type 0) (plan : Lookups) (patterns : ℕ) (holds : (n : ℕ) → n < patterns → P (pattern_text plan n)) where
  step-has : (among : List ℕ) (step : Step) → IsStepAmong patterns among step → StepHas P (named_step plan step)
  step-has among steps.Body h = tt
  step-has among steps.Str h = tt
  step-has among steps.Copy h = tt
  step-has among steps.TemplateBody h = tt
  step-has among (steps.Make text) h = tt
  step-has among (steps.Load id name) h = tt
  step-has among (steps.Concat n) h = holds n h
  step-has among (steps.Apply id context) h = tt
  step-has among (steps.SelfApply context) h = tt
  step-has among (steps.Save name) h = tt
  step-has among steps.Relativize h = tt

  steps-have : (among : List ℕ) (more : List Step) → AllByRecursion (IsStepAmong patterns among) more → AllByRecursion (StepHas P) (map (named_step plan) more)
  steps-have among [] h = tt
  steps-have among (step ∷ more) h = (step-has among step h.0, steps-have among more h.1)

  field-has : (among : List ℕ) (field : Field) → IsFieldAmong patterns among field → FieldHas P (named_field plan field)
  field-has among fields.Body h = tt
  field-has among fields.Metadata h = tt
  field-has among fields.Url h = tt
  field-has among fields.Path h = tt
  field-has among fields.Title h = tt
  field-has among (fields.Const key text) h = tt
  field-has among (fields.Date key pattern) h = tt
  field-has among (fields.Bool key set) h = tt
  field-has among (fields.Teaser key name) h = tt
  field-has among (fields.List key n snapshot order limit context) h = holds n h.0

  fields-have : (among : List ℕ) (more : List Field) → AllByRecursion (IsFieldAmong patterns among) more → AllByRecursion (FieldHas P) (map (named_field plan) more)
  fields-have among [] h = tt
  fields-have among (field ∷ more) h = (field-has among field h.0, fields-have among more h.1)

  contexts-have : (among numbers : List ℕ) → AllByRecursion (λ c. AllByRecursion (IsFieldAmong patterns among) (plan.context c).fields) numbers → ContextsHave P (map (named_context plan) numbers)
  contexts-have among [] h = tt
  contexts-have among (c ∷ numbers) h = (fields-have among (plan.context c).fields h.0, contexts-have among numbers h.1)

  pub recipe-has : (contexts item : ℕ) → IsRecipe plan contexts patterns item → PatternsHave P (recipe_in plan contexts item)
  recipe-has contexts item known =
      let among = reached plan contexts (plan.chain item) in
      (steps-have among (plan.chain item) known.steps, contexts-have among among known.contexts_of.fields)
