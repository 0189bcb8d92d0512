-- The text of an item's fingerprint tells its recipe, and so its deed.
use Rattle.std.proofs.Common.{ℕ, zero, suc, ◌<◌, ◌≤◌, List, [], ◌∷◌, length, map, get_or, Option, Some, None, refl, ap, ◌∙◌}
use Rattle.std.specs.Prelude.{IfSome}
use Rattle.std.specs.List.{AllByRecursion}
use Rattle.hk_chain.specs.Context.{ContextView}
use Rattle.hk_chain.specs.declared.context.Field.{Field}
use Rattle.hk_chain.specs.declared.context.Field.TheVariants as fields
use Rattle.hk_eval.specs.PlanTable.{table_of}
use Rattle.hk_machine.specs.ChainDeed.{chain_deed}
use Rattle.hk_machine.specs.PlanDeeds.{deeds_of}
use Rattle.hk_rules_file.specs.Linked.{IsCount, IsLinkedField}
use Rattle.hk_rules.proofs.RecipePatterns.{recipe-has}
use Rattle.hk_rules.proofs.Recipes.{plan-recipe}
use Rattle.hk_rules.specs.MadePlan.{IsMadePlan}
use Rattle.hk_rules.specs.Plan.{no_context, id_at, lookups}
use Rattle.hk_rules.specs.PlanView.{PlanView}
use Rattle.hk_rules.specs.Recipe.{named_field, named_context, recipe_of}
use Rattle.hk_reuse.specs.Rebuilt.{TextsTell}
use Rattle.hk_store.proofs.RecipeTexts.{same-recipe}
use Rattle.hk_store.specs.RecipeText.{IsPatternText, IsLimit, FieldFits, ContextFits, RecipeFits}
use Rattle.hk_store.specs.Told.{Small}
use Rattle.hk_sites.proofs.PlanSites.{inside}
use Rattle.hk_sites.specs.PlanSite.{site_of}
use Rattle.hk_sites.specs.Sizes.{IsSmallField, HasLimits, HasTexts}

limit-fits : (limit : Option ℕ) → IfSome limit IsCount → IfSome limit Small → IsLimit limit
limit-fits None h s = tt
limit-fits (Some most) h s = (h.0, s)

module _ (plan : PlanView) (made : IsMadePlan plan) (limits : HasLimits plan) where
  abbrev IsOwn : Field → Type 0
  IsOwn = IsLinkedField (length plan.contexts) (length plan.patterns)

  field-fits : (field : Field) → IsOwn field → IsSmallField field → FieldFits (named_field (lookups plan) field)
  field-fits fields.Body h s = tt
  field-fits fields.Metadata h s = tt
  field-fits fields.Url h s = tt
  field-fits fields.Path h s = tt
  field-fits fields.Title h s = tt
  field-fits (fields.Const key text) h s = tt
  field-fits (fields.Date key pattern) h s = tt
  field-fits (fields.Bool key set) h s = tt
  field-fits (fields.Teaser key name) h s = tt
  field-fits (fields.List key n snapshot order limit context) h s = ((_, refl), limit-fits limit h.2 s)

  fields-fit : (more : List Field) → AllByRecursion IsOwn more → AllByRecursion IsSmallField more → AllByRecursion FieldFits (map (named_field (lookups plan)) more)
  fields-fit [] h s = tt
  fields-fit (field ∷ more) h s = (field-fits field h.0 s.0, fields-fit more h.1 s.1)

  -- a context past the last one has no fields
  context-fits : (contexts : List ContextView) (c : ℕ) → AllByRecursion (λ context. AllByRecursion IsOwn context.fields) contexts → AllByRecursion (λ context. AllByRecursion IsSmallField context.fields) contexts
      → AllByRecursion FieldFits (map (named_field (lookups plan)) (get_or contexts c no_context).fields)
  context-fits [] c h s = tt
  context-fits (context ∷ contexts) zero h s = fields-fit context.fields h.0 s.0
  context-fits (context ∷ contexts) (suc c) h s = context-fits contexts c h.1 s.1

  contexts-fit : (numbers : List ℕ) → AllByRecursion ContextFits (map (named_context (lookups plan)) numbers)
  unfolding lookups
  contexts-fit [] = tt
  contexts-fit (c ∷ numbers) = (context-fits plan.contexts c made.linked.named.within limits, contexts-fit numbers)

  pub recipe-fits : (i : ℕ) → i < length plan.items → RecipeFits (recipe_of plan i)
  unfolding recipe_of
  recipe-fits i lt =
      record {
        steps = (recipe-has IsPatternText (lookups plan) (length plan.patterns) (λ n less. (_, refl)) (length plan.contexts) i (plan-recipe plan made.linked made.headed i lt)).0;
        contexts = contexts-fit _;
      }

pub texts-tell : (old new : PlanView) → IsMadePlan old → IsMadePlan new → HasLimits old → HasLimits new → HasTexts old → TextsTell (site_of old) (site_of new)
unfolding deeds_of table_of
texts-tell old new was now was_limited now_limited short i j lt less ids texts =
    let here = inside old was i lt in
    let there = inside new now j less in
    let same = same-recipe (recipe_of old i) (recipe_of new j) (recipe-fits old was was_limited i here) (recipe-fits new now now_limited j there) (short i here) texts in
    ap (chain_deed (id_at old i)) same ∙ ap (λ id. chain_deed id (recipe_of new j)) ids
