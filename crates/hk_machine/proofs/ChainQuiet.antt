-- The deed of a chain is proper: it asks for no page twice in a group, and saves under its names in order.
use Rattle.std.proofs.Common.{refl, ap, ◌∙◌, ℕ, ◌<◌, List, [], ◌∷◌, map, Option, Some, None}
use Rattle.std.specs.Prelude.{filter_map}
use Rattle.std.specs.List.{AllByRecursion}
use Rattle.hk_base.specs.Bytes.{Bytes}
use Rattle.hk_base.specs.Identifier.{Ident}
use Rattle.hk_chain.specs.declared.page.Page.{Page}
use Rattle.hk_fix.specs.Deed.{Answer, Deed, returns, asking, matching, ◌then◌, IsNumber, IsProper, IsQuiet}
use Rattle.hk_fix.specs.DeedLaws.{quiet-then, proper-then}
use Rattle.hk_fix.specs.Table.{Table}
use Rattle.hk_chain.specs.Names.{final_name}
use Rattle.hk_rules.specs.PatternText.{text_of}
use Rattle.hk_rules.specs.Plan.{Lookups}
use Rattle.hk_eval.specs.PlanTable.{IsTableOf}
use Rattle.hk_rules.specs.Recipe as recipes
use Rattle.hk_rules.specs.Recipe.{NamedStep, Recipe, named_step, recipe_in, IsRecipe, StepHas, ContextsHave}
use Rattle.hk_rules.proofs.RecipePatterns.{recipe-has}
use Rattle.hk_template.specs.Fault.{first_fault}
use Rattle.hk_template.specs.Tree.{Nodes}
use Rattle.hk_template.specs.declared.fault.TemplateFault.{TemplateFault}
use Rattle.hk_eval.specs.Asking.{no_bytes}
use Rattle.hk_eval.specs.NamedAsking.{keys_named, need_text_deed, other_named}
use Rattle.hk_eval.specs.NamedRendering.{tree_deed, template_deed, render_deed}
use Rattle.hk_eval.proofs.NamedQuiet.{AreApart, Any, keys-apart, quiet-text, quiet-ask_text, quiet-tree, quiet-template, quiet-render}
use Rattle.hk_machine.specs.Chain.{relative_page}
use Rattle.hk_machine.specs.ChainDeed.{own_body, own_place, checked_deed, joined_deed_by, joined_deed, text_of_page, rendered_deed, step_deed, steps_deed, chain_deed, saved_name}

module _ (table : Table) (once : (by : Bytes) → AreApart (table.matches by)) (id : Ident) (recipe : Recipe) (have : ContextsHave (IsNumber table) recipe.contexts) where
  quiet-checked : (body : Bytes) (o : Option TemplateFault) → IsQuiet table (Any table once) (checked_deed body o)
  quiet-checked body None = tt
  quiet-checked body (Some fault) = tt

  quiet-joined : (xs : List Answer) (o : Option Ident) → IsQuiet table (Any table once) (joined_deed_by xs o)
  quiet-joined xs None = tt
  quiet-joined xs (Some other) = tt

  quiet-rendered : (context : Bytes) (page : Page) (tree : Nodes) → IsQuiet table (Any table once) (rendered_deed id recipe context page tree)
  quiet-rendered context page tree =
      quiet-then table (Any table once) (Any table once) (render_deed recipe.contexts tree (own_place id recipe context page)) text_of_page
      (quiet-render table once recipe.contexts have tree (own_place id recipe context page)) (λ bytes u. tt)

  quiet-concat : (by : Bytes) → IsNumber table by → IsQuiet table (Any table once) (matching by (λ ids. asking (keys_named final_name ids) (joined_deed ids)))
  quiet-concat by h = (h, (keys-apart table once final_name (table.matches by) (once by), λ xs. quiet-joined xs (other_named (table.matches by) xs)))

  abbrev step_of : NamedStep → Page → Deed Page
  step_of = step_deed id recipe

  abbrev steps_of : List NamedStep → Page → Deed Page
  steps_of = steps_deed id recipe

  abbrev names : List NamedStep → List Bytes
  names more = filter_map saved_name more

  after-quiet : (step : NamedStep) (more : List NamedStep) (page : Page) → IsQuiet table (Any table once) (step_of step page) → ((x : Page) → IsProper table (names more) (steps_of more x)) → IsProper table (names more) (step_of step page then steps_of more)
  after-quiet step more page q h = proper-then table (Any table once) (names more) (step_of step page) (steps_of more) q (λ x u. h x)

  pub steps-proper : (more : List NamedStep) → AllByRecursion (StepHas (IsNumber table)) more → (page : Page) → IsProper table (names more) (steps_of more page)
  steps-proper [] h page = tt
  steps-proper (recipes.body ∷ more) h page = steps-proper more h.1 _
  steps-proper (recipes.string ∷ more) h page = steps-proper more h.1 _
  steps-proper (recipes.copy ∷ more) h page = steps-proper more h.1 _
  steps-proper (recipes.template ∷ more) h page = after-quiet recipes.template more page (quiet-checked (own_body recipe) (first_fault (own_body recipe))) (steps-proper more h.1)
  steps-proper (recipes.make text ∷ more) h page = steps-proper more h.1 _
  steps-proper (recipes.load other name ∷ more) h page = after-quiet (recipes.load other name) more page (quiet-ask_text table once other name) (steps-proper more h.1)
  steps-proper (recipes.concat by ∷ more) h page = after-quiet (recipes.concat by) more page (quiet-concat by h.0) (steps-proper more h.1)
  steps-proper (recipes.apply other context ∷ more) h page =
      after-quiet (recipes.apply other context) more page
      (quiet-then table (Any table once) (Any table once) (need_text_deed id page) (λ text. template_deed other then rendered_deed id recipe context text) (quiet-text table once id page)
      (λ text u. quiet-then table (Any table once) (Any table once) (template_deed other) (rendered_deed id recipe context text) (quiet-template table once other) (λ tree v. quiet-rendered context text tree)))
      (steps-proper more h.1)
  steps-proper (recipes.apply_self context ∷ more) h page =
      after-quiet (recipes.apply_self context) more page
      (quiet-then table (Any table once) (Any table once) (need_text_deed id page) (λ text. tree_deed text.body then rendered_deed id recipe context text) (quiet-text table once id page)
      (λ text u. quiet-then table (Any table once) (Any table once) (tree_deed text.body) (rendered_deed id recipe context text) (quiet-tree table once text.body) (λ tree v. quiet-rendered context text tree)))
      (steps-proper more h.1)
  steps-proper (recipes.save name ∷ more) h page = (refl, steps-proper more h.1 page)
  steps-proper (recipes.relativize ∷ more) h page =
      after-quiet recipes.relativize more page
      (quiet-then table (Any table once) (Any table once) (need_text_deed id page) (λ text. returns (relative_page text recipe.target)) (quiet-text table once id page) (λ text u. tt))
      (steps-proper more h.1)

-- ---- the patterns of a plan's recipes

module _ (plan : Lookups) (items contexts patterns : ℕ) (table : Table) (told : IsTableOf plan items patterns table) where
  numbered : (n : ℕ) → n < patterns → IsNumber table (text_of (plan.pattern n))
  numbered n lt = ap table.pattern (told.number n lt) ∙ told.pattern n lt

  -- the deed of an item's chain
  pub chain-proper : (item : ℕ) → IsRecipe plan contexts patterns item → IsProper table (filter_map saved_name (map (named_step plan) (plan.chain item))) (chain_deed (plan.id item) (recipe_in plan contexts item))
  unfolding chain_deed
  chain-proper item known =
      let have = recipe-has (IsNumber table) plan patterns numbered contexts item known in
      steps-proper table told.apart (plan.id item) (recipe_in plan contexts item) have.1 (map (named_step plan) (plan.chain item)) have.0 no_bytes
