-- What a chain does by numbers is its deed, done under these numbers.
use Rattle.std.proofs.Common.{◌≡◌, refl, sym, ap, ◌∙◌, ℕ, ◌<◌, true, List, [], ◌∷◌, ◌++◌, map, drop, Option, Some, None, option_map}
use Rattle.std.specs.List.{AllByRecursion, flat_map}
use Rattle.std.specs.Option.{option_and_then}
use Rattle.hk_base.specs.Bytes.{Bytes}
use Rattle.hk_base.specs.Identifier.{Ident}
use Rattle.hk_chain.specs.declared.chain.Step.{Step}
use Rattle.hk_chain.specs.declared.chain.Step.TheVariants as steps
use Rattle.hk_chain.specs.declared.page.Page.{Page}
use Rattle.hk_fix.specs.Deed.{Answer, Deed, returns, saving, asking, ◌then◌, answers, save_as, interpret}
use Rattle.hk_fix.specs.DeedLaws.{interpret-then, bind-same}
use Rattle.hk_fix.specs.Table.{Traits, Table}
use Rattle.hk_fix.specs.Task.{gives, ◌▷◌}
use Rattle.hk_chain.specs.Names.{final_name}
use Rattle.hk_rules.specs.Plan.{Lookups}
use Rattle.hk_eval.specs.PlanTable.{IsTableOf}
use Rattle.hk_rules.specs.Recipe.{Recipe, context_name, is_among, named_step, reached, recipe_in, IsRecipe, IsStepAmong}
use Rattle.hk_template.specs.Fault.{first_fault}
use Rattle.hk_template.specs.Tree.{Nodes}
use Rattle.hk_template.specs.declared.fault.TemplateFault.{TemplateFault}
use Rattle.hk_eval.specs.Asking.{text_page, no_bytes, ask_all, need_text, other_kind}
use Rattle.hk_eval.specs.NamedAsking.{keys_named, need_text_deed}
use Rattle.hk_eval.specs.NamedPlaces.{named_place}
use Rattle.hk_eval.specs.NamedRendering.{tree_deed, template_deed, render_deed}
use Rattle.hk_eval.specs.Templates.{tree_task, template_task}
use Rattle.hk_eval.proofs.NamedAsks.{group_traits, need-text-same, ask-text-same, group-same, match-same, other-same}
use Rattle.hk_eval.proofs.NamedRenderings.{tree-same, template-same, render-same}
use Rattle.hk_machine.specs.Applying.{page_with, rendered_task, apply_task, self_task}
use Rattle.hk_machine.specs.Chain.{file_of, body_of, template_by, joined_by, joined_pages, save_task, relative_page, step_task, steps_task, chain_task}
use Rattle.hk_machine.specs.ChainDeed.{own_body, own_place, text_of_page, rendered_deed, checked_deed, joined_deed_by, joined_deed, step_deed, steps_deed, chain_deed}

module _ (plan : Lookups) (items contexts patterns : ℕ) (table : Table) (told : IsTableOf plan items patterns table) (item : ℕ) (here : item < items) (known : IsRecipe plan contexts patterns item) where
  abbrev own : Ident
  own = plan.id item

  abbrev recipe : Recipe
  recipe = recipe_in plan contexts item

  body-own : own_body recipe ≡ body_of plan item
  body-own = ap (λ n. drop n (file_of plan item)) known.body_start

  checked-same : (body : Bytes) (o : Option TemplateFault) → interpret table own (checked_deed body o) ≡ template_by body o
  checked-same body None = refl
  checked-same body (Some fault) = refl

  -- ---- concat

  bodies-same : (xs : List Page) (ts : List Traits) → flat_map (λ (x : Answer). x.page.body) (answers xs ts) ≡ flat_map (λ (page : Page). page.body) xs
  bodies-same [] ts = refl
  bodies-same (x ∷ xs) [] = ap (λ l. x.body ++ l) (bodies-same xs [])
  bodies-same (x ∷ xs) (t ∷ ts) = ap (λ l. x.body ++ l) (bodies-same xs ts)

  joined-by-same : (xs : List Page) (ts : List Traits) (o : Option ℕ) → interpret table own (joined_deed_by (answers xs ts) (option_map plan.id o)) ≡ joined_by plan xs o
  joined-by-same xs ts None = ap (λ bytes. gives (text_page bytes)) (bodies-same xs ts)
  joined-by-same xs ts (Some i) = refl

  joined-same : (is : List ℕ) (ts : List Traits) (xs : List Page) → interpret table own (joined_deed (map plan.id is) (answers xs ts)) ≡ joined_pages plan is xs
  joined-same is ts xs =
      ap (λ o. interpret table own (joined_deed_by (answers xs ts) o)) (other-same plan items patterns table told own is xs ts)
      ∙ joined-by-same xs ts (other_kind is xs)

  concat-same : (n : ℕ) → n < patterns → (page : Page) → interpret table own (step_deed own recipe (named_step plan (steps.Concat n)) page) ≡ step_task plan item (steps.Concat n) page
  concat-same n lt page =
      let is = plan.matches n in
      match-same plan items patterns table told own n lt (λ ids. asking (keys_named final_name ids) (joined_deed ids)) (ask_all plan final_name is ▷ joined_pages plan is)
      (group-same plan items patterns table told own final_name is (told.matched n) (joined_deed (map plan.id is)) (joined_pages plan is) (joined-same is (group_traits plan items patterns table told own final_name is)))

  -- ---- save

  save-by : (page : Page) (o : Option ℕ) → save_as o page (gives page) ≡ save_task page o
  save-by page None = refl
  save-by page (Some p) = refl

  save-same : (name : Bytes) (page : Page) → interpret table own (saving name page (returns page)) ≡ save_task page (plan.pair item name)
  save-same name page =
      ap (λ o. save_as o page (gives page)) (told.pair (record { id = own; name = name }) ∙ ap (option_and_then (λ i. plan.pair i name)) (told.found item here))
      ∙ save-by page (plan.pair item name)

  -- ---- relativize

  relative-same : (page : Page) → interpret table own (need_text_deed own page then (λ text. returns (relative_page text (plan.target_of item)))) ≡ need_text own page ▷ (λ text. gives (relative_page text (plan.target_of item)))
  relative-same page =
      interpret-then table own (need_text_deed own page) (λ text. returns (relative_page text (plan.target_of item)))
      ∙ ap (λ t. t ▷ (λ text. gives (relative_page text (plan.target_of item)))) (need-text-same plan items patterns table told own own page)

  -- ---- renderings of the item's own page

  traits-own : (context : ℕ) (page : Page) → own_place own recipe (context_name plan context) page ≡ named_place plan (record { item = item; page = page; context = context })
  traits-own context page = ap (λ (m : List (Bytes × Bytes)). record { id = own; page = page; traits = record { target = plan.target_of item; meta = m }; context = context_name plan context }) known.meta

  abbrev among : List ℕ
  among = reached plan contexts (plan.chain item)

  rendered-same : (context : ℕ) → is_among among context ≡ true → (page : Page) (tree : Nodes) → interpret table own (rendered_deed own recipe (context_name plan context) page tree) ≡ rendered_task plan item context page tree
  rendered-same context i page tree =
      interpret-then table own (render_deed recipe.contexts tree (own_place own recipe (context_name plan context) page)) text_of_page
      ∙ ap (λ place. interpret table own (render_deed recipe.contexts tree place) ▷ page_with) (traits-own context page)
      ∙ ap (λ t. t ▷ page_with) (render-same plan items patterns table told own among known.contexts_of tree (record { item = item; page = page; context = context }) i)

  pub apply-same : (id : Ident) (context : ℕ) → is_among among context ≡ true → (page : Page) → interpret table own (step_deed own recipe (named_step plan (steps.Apply id context)) page) ≡ apply_task plan item id context page
  apply-same id context i page =
      let next : Page → Nodes → Deed Page = rendered_deed own recipe (context_name plan context) in
      interpret-then table own (need_text_deed own page) (λ text. template_deed id then next text)
      ∙ bind-same (interpret table own (need_text_deed own page)) (need_text own page) (λ text. interpret table own (template_deed id then next text)) (λ text. template_task plan id ▷ rendered_task plan item context text)
      (need-text-same plan items patterns table told own own page)
      (λ text. interpret-then table own (template_deed id) (next text)
      ∙ bind-same (interpret table own (template_deed id)) (template_task plan id) (λ tree. interpret table own (next text tree)) (rendered_task plan item context text)
      (template-same plan items patterns table told own id) (rendered-same context i text))

  pub self-same : (context : ℕ) → is_among among context ≡ true → (page : Page) → interpret table own (step_deed own recipe (named_step plan (steps.SelfApply context)) page) ≡ self_task plan item context page
  self-same context i page =
      let next : Page → Nodes → Deed Page = rendered_deed own recipe (context_name plan context) in
      interpret-then table own (need_text_deed own page) (λ text. tree_deed text.body then next text)
      ∙ bind-same (interpret table own (need_text_deed own page)) (need_text own page) (λ text. interpret table own (tree_deed text.body then next text)) (λ text. tree_task text.body ▷ rendered_task plan item context text)
      (need-text-same plan items patterns table told own own page)
      (λ text. interpret-then table own (tree_deed text.body) (next text)
      ∙ bind-same (interpret table own (tree_deed text.body)) (tree_task text.body) (λ tree. interpret table own (next text tree)) (rendered_task plan item context text)
      (tree-same plan items patterns table told own text.body) (rendered-same context i text))

  -- ---- steps

  pub step-same : (step : Step) → IsStepAmong patterns among step → (page : Page) → interpret table own (step_deed own recipe (named_step plan step) page) ≡ step_task plan item step page
  step-same steps.Body h page = ap (λ bytes. gives (text_page bytes)) body-own
  step-same steps.Str h page = refl
  step-same steps.Copy h page = refl
  step-same steps.TemplateBody h page = ap (λ bytes. interpret table own (checked_deed bytes (first_fault bytes))) body-own ∙ checked-same (body_of plan item) (first_fault (body_of plan item))
  step-same (steps.Make text) h page = refl
  step-same (steps.Load id name) h page = ask-text-same plan items patterns table told own id name
  step-same (steps.Concat n) h page = concat-same n h page
  step-same (steps.Apply id context) h page = apply-same id context h page
  step-same (steps.SelfApply context) h page = self-same context h page
  step-same (steps.Save name) h page = save-same name page
  step-same steps.Relativize h page = relative-same page

  steps-same : (more : List Step) → AllByRecursion (IsStepAmong patterns among) more → (page : Page) → interpret table own (steps_deed own recipe (map (named_step plan) more) page) ≡ steps_task plan item more page
  steps-same [] h page = refl
  steps-same (step ∷ more) h page =
      interpret-then table own (step_deed own recipe (named_step plan step) page) (steps_deed own recipe (map (named_step plan) more))
      ∙ bind-same (interpret table own (step_deed own recipe (named_step plan step) page)) (step_task plan item step page) (λ x. interpret table own (steps_deed own recipe (map (named_step plan) more) x)) (steps_task plan item more) (step-same step h.0 page) (steps-same more h.1)

  pub chain-same : chain_task plan item ≡ interpret table own (chain_deed own recipe)
  unfolding chain_task chain_deed
  chain-same = sym (steps-same (plan.chain item) known.steps no_bytes)
