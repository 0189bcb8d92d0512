-- The chains of a plan keep the laws of a family of compilers.
use Rattle.std.proofs.Common.{◌≡◌, refl, sym, ap, ◌∙◌, subst, arith, ℕ, ◌<◌, List, [], ◌∷◌, Option, Some, None, Ok, true, false, nat_eq, eqb-true, eq-eqb}
use Rattle.std.specs.List.{AllByRecursion, IsDistinct, cons_option}
use Rattle.hk_base.specs.Bytes.{Bytes}
use Rattle.hk_base.specs.Identifier.{Ident}
use Rattle.hk_chain.specs.Layout.{pairs, item_of}
use Rattle.hk_chain.specs.declared.page.Page.{Page}
use Rattle.hk_chain.specs.declared.chain.Step.{Step}
use Rattle.hk_chain.specs.declared.chain.Step.TheVariants.{Body, Str, Copy, TemplateBody, Make, Load, Concat, Apply, SelfApply, Save, Relativize}
use Rattle.hk_template.specs.Fault.{first_fault}
use Rattle.hk_template.specs.Growing.{read_tree}
use Rattle.hk_template.specs.Tree.{Nodes}
use Rattle.hk_template.specs.declared.fault.TemplateFault.{TemplateFault}
use Rattle.hk_chain.specs.Names.{final_name}
use Rattle.hk_rules.specs.Plan.{Lookups}
use Rattle.hk_fix.specs.Task.{Task, gives, ◌▷◌, run}
use Rattle.hk_fix.specs.Run.{IsRun}
use Rattle.hk_fix.specs.Chains.{AllGroups, Saves, AreChains}
use Rattle.hk_fix.specs.ChainLaws.{chains-run}
use Rattle.hk_eval.specs.Asking.{no_bytes, pairs_of, ask_all, ask_text, is_text, need_text, other_kind}
use Rattle.hk_eval.specs.Laws.{groups-bind, quiet-bind, saves-bind, quiet-text, quiet-all, quiet-load, quiet-tree, quiet-template as quiet-template-of, quiet-render, groups-text, groups-load, groups-all, groups-tree, groups-template as groups-template-of, groups-render}
use Rattle.hk_eval.specs.Quiet.{Quiet}
use Rattle.hk_eval.specs.Rendering.{render}
use Rattle.hk_eval.specs.Templates.{tree_task, template_task}
use Rattle.hk_eval.specs.declared.place.Place.{Place}
use Rattle.hk_eval.proofs.Grouping.{with-ok}
use Rattle.hk_machine.specs.Applying.{page_with, rendered_task, apply_task, self_task}
use Rattle.hk_machine.specs.Chain.{body_of, template_by, template_of, joined_by, joined_pages, concat_task, save_task, relative_page, step_task, steps_task, chain_task}
use Rattle.hk_machine.specs.Runnable.{own_pairs, IsRunnable}

-- what saves nothing

pub quiet-template : (body : Bytes) (o : Option TemplateFault) → Quiet (template_by body o)
quiet-template body None = tt
quiet-template body (Some fault) = tt

pub quiet-joined : (plan : Lookups) (pages : List Page) (o : Option ℕ) → Quiet (joined_by plan pages o)
quiet-joined plan pages None = tt
quiet-joined plan pages (Some item) = tt

pub quiet-concat : (plan : Lookups) (items : List ℕ) → Quiet (concat_task plan items)
quiet-concat plan items = quiet-bind (joined_pages plan items) (ask_all plan final_name items) (quiet-all plan final_name items) (λ xs. quiet-joined plan xs (other_kind items xs))

pub quiet-relative : (id : Ident) (page : Page) (target : Option Bytes) → Quiet (need_text id page ▷ (λ text. gives (relative_page text target)))
quiet-relative id page target = quiet-bind (λ text. gives (relative_page text target)) (need_text id page) (quiet-text id page (is_text page.kind)) (λ x. tt)

pub quiet-rendered : (plan : Lookups) (item context : ℕ) (page : Page) (tree : Nodes) → Quiet (rendered_task plan item context page tree)
quiet-rendered plan item context page tree = quiet-bind page_with (render plan tree (record { item = item; page = page; context = context })) (quiet-render plan tree (record { item = item; page = page; context = context })) (λ x. tt)

pub quiet-apply : (plan : Lookups) (item : ℕ) (id : Ident) (context : ℕ) (page : Page) → Quiet (apply_task plan item id context page)
quiet-apply plan item id context page =
    quiet-bind (λ text. template_task plan id ▷ rendered_task plan item context text) (need_text (plan.id item) page) (quiet-text (plan.id item) page (is_text page.kind))
    (λ text. quiet-bind (rendered_task plan item context text) (template_task plan id) (quiet-template-of plan id) (quiet-rendered plan item context text))

pub quiet-self : (plan : Lookups) (item context : ℕ) (page : Page) → Quiet (self_task plan item context page)
quiet-self plan item context page =
    quiet-bind (λ text. tree_task text.body ▷ rendered_task plan item context text) (need_text (plan.id item) page) (quiet-text (plan.id item) page (is_text page.kind))
    (λ text. quiet-bind (rendered_task plan item context text) (tree_task text.body) (quiet-tree (read_tree text.body)) (quiet-rendered plan item context text))

-- the saves of a chain

save-saves : (page : Page) (o : Option ℕ) (rest : List ℕ) (f : Page → Task Page) → ((x : Page) → Saves rest (f x)) → Saves (cons_option o rest) (save_task page o ▷ f)
save-saves page None rest f h = h page
save-saves page (Some p) rest f h = (refl, h page)

pub steps-save : (plan : Lookups) (item : ℕ) (steps : List Step) (page : Page) → Saves (own_pairs plan item steps) (steps_task plan item steps page)
steps-save plan item [] page = tt
steps-save plan item (Body ∷ steps) page = steps-save plan item steps _
steps-save plan item (Str ∷ steps) page = steps-save plan item steps _
steps-save plan item (Copy ∷ steps) page = steps-save plan item steps _
steps-save plan item (TemplateBody ∷ steps) page = saves-bind (steps_task plan item steps) (own_pairs plan item steps) (template_of (body_of plan item)) (quiet-template (body_of plan item) (first_fault (body_of plan item))) (steps-save plan item steps)
steps-save plan item (Make text ∷ steps) page = steps-save plan item steps _
steps-save plan item (Load id name ∷ steps) page = saves-bind (steps_task plan item steps) (own_pairs plan item steps) (ask_text plan id name) (quiet-load plan id name) (steps-save plan item steps)
steps-save plan item (Concat n ∷ steps) page = saves-bind (steps_task plan item steps) (own_pairs plan item steps) (concat_task plan (plan.matches n)) (quiet-concat plan (plan.matches n)) (steps-save plan item steps)
steps-save plan item (Apply id context ∷ steps) page = saves-bind (steps_task plan item steps) (own_pairs plan item steps) (apply_task plan item id context page) (quiet-apply plan item id context page) (steps-save plan item steps)
steps-save plan item (SelfApply context ∷ steps) page = saves-bind (steps_task plan item steps) (own_pairs plan item steps) (self_task plan item context page) (quiet-self plan item context page) (steps-save plan item steps)
steps-save plan item (Save name ∷ steps) page = save-saves page (plan.pair item name) (own_pairs plan item steps) (steps_task plan item steps) (steps-save plan item steps)
steps-save plan item (Relativize ∷ steps) page = saves-bind (steps_task plan item steps) (own_pairs plan item steps) (need_text (plan.id item) page ▷ (λ text. gives (relative_page text (plan.target_of item)))) (quiet-relative (plan.id item) page (plan.target_of item)) (steps-save plan item steps)

-- its groups

module _ (P : List ℕ → Type 0) where
  groups-template : (body : Bytes) (o : Option TemplateFault) → AllGroups P (template_by body o)
  groups-template body None = tt
  groups-template body (Some fault) = tt

  groups-joined : (plan : Lookups) (pages : List Page) (o : Option ℕ) → AllGroups P (joined_by plan pages o)
  groups-joined plan pages None = tt
  groups-joined plan pages (Some item) = tt

  groups-save : (page : Page) (o : Option ℕ) → AllGroups P (save_task page o)
  groups-save page None = tt
  groups-save page (Some p) = tt

  -- what holds of the pair of each ask and of the pairs of each pattern's items holds of each group
  module _ (plan : Lookups) (one : (id : Ident) (name : Bytes) (i p : ℕ) → plan.find id ≡ Some i → plan.pair i name ≡ Some p → P (p ∷ [])) (all : (n : ℕ) (name : Bytes) (ps : List ℕ) → pairs_of plan name (plan.matches n) ≡ Ok ps → P ps) where
    groups-concat : (n : ℕ) → AllGroups P (concat_task plan (plan.matches n))
    groups-concat n = groups-bind (joined_pages plan (plan.matches n)) P (ask_all plan final_name (plan.matches n)) (groups-all P plan one all n final_name) (λ xs. groups-joined plan xs (other_kind (plan.matches n) xs))

    groups-rendered : (item context : ℕ) (page : Page) (tree : Nodes) → AllGroups P (rendered_task plan item context page tree)
    groups-rendered item context page tree =
        let here : Place = record { item = item; page = page; context = context } in
        groups-bind page_with P (render plan tree here) (groups-render P plan one all tree here) (λ x. tt)

    groups-apply : (item : ℕ) (id : Ident) (context : ℕ) (page : Page) → AllGroups P (apply_task plan item id context page)
    groups-apply item id context page =
        groups-bind (λ text. template_task plan id ▷ rendered_task plan item context text) P (need_text (plan.id item) page) (groups-text P (plan.id item) page (is_text page.kind))
        (λ text. groups-bind (rendered_task plan item context text) P (template_task plan id) (groups-template-of P plan one all id) (groups-rendered item context text))

    groups-self : (item context : ℕ) (page : Page) → AllGroups P (self_task plan item context page)
    groups-self item context page =
        groups-bind (λ text. tree_task text.body ▷ rendered_task plan item context text) P (need_text (plan.id item) page) (groups-text P (plan.id item) page (is_text page.kind))
        (λ text. groups-bind (rendered_task plan item context text) P (tree_task text.body) (groups-tree P (read_tree text.body)) (groups-rendered item context text))

    groups-step : (item : ℕ) (step : Step) (page : Page) → AllGroups P (step_task plan item step page)
    groups-step item Body page = tt
    groups-step item Str page = tt
    groups-step item Copy page = tt
    groups-step item TemplateBody page = groups-template (body_of plan item) (first_fault (body_of plan item))
    groups-step item (Make text) page = tt
    groups-step item (Load id name) page = groups-load P plan one all id name
    groups-step item (Concat n) page = groups-concat n
    groups-step item (Apply id context) page = groups-apply item id context page
    groups-step item (SelfApply context) page = groups-self item context page
    groups-step item (Save name) page = groups-save page (plan.pair item name)
    groups-step item Relativize page = groups-bind (λ text. gives (relative_page text (plan.target_of item))) P (need_text (plan.id item) page) (groups-text P (plan.id item) page (is_text page.kind)) (λ x. tt)

    pub groups-steps : (item : ℕ) (steps : List Step) (page : Page) → AllGroups P (steps_task plan item steps page)
    groups-steps item [] page = tt
    groups-steps item (step ∷ steps) page = groups-bind (steps_task plan item steps) P (step_task plan item step page) (groups-step item step page) (groups-steps item steps)

-- the pairs of some items

module _ (plan : Lookups) (items contexts patterns : ℕ) (fit : IsRunnable plan items contexts patterns) where
  pairs-within : (name : Bytes) (is ps : List ℕ) → AllByRecursion (λ i. i < items) is → pairs_of plan name is ≡ Ok ps → AllByRecursion (λ p. p < pairs plan.layout) ps
  pairs-within name [] ps h e = let q : [] ≡ ps = cc in subst (AllByRecursion (λ p. p < pairs plan.layout)) q tt
  pairs-within name (i ∷ is) ps h e =
      let w = with-ok i (plan.pair i name) (pairs_of plan name is) ps e in
      subst (AllByRecursion (λ p. p < pairs plan.layout)) (sym w.4) ((fit.paired i name w.0 h.0 w.2).0, pairs-within name is w.1 h.1 w.3)

  -- the pair of another item is another pair
  pairs-other : (name : Bytes) (i p : ℕ) (is ps : List ℕ) → i < items → plan.pair i name ≡ Some p → AllByRecursion (λ j. j < items) is → AllByRecursion (λ j. nat_eq i j ≡ false) is → pairs_of plan name is ≡ Ok ps → AllByRecursion (λ q. nat_eq p q ≡ false) ps
  pairs-other name i p [] ps lt at h d e = let q : [] ≡ ps = cc in subst (AllByRecursion (λ r. nat_eq p r ≡ false)) q tt
  pairs-other name i p (j ∷ is) ps lt at h d e =
      let w = with-ok j (plan.pair j name) (pairs_of plan name is) ps e in
      subst (AllByRecursion (λ r. nat_eq p r ≡ false)) (sym w.4) (apart w.0 w.2, pairs-other name i p is w.1 lt at h.1 d.1 w.3)
    where
      other : (a b q : ℕ) → nat_eq a b ≡ false → item_of plan.layout p ≡ a → item_of plan.layout q ≡ b → nat_eq p q ≡ false
      other a b q ne l r = elim (nat_eq p q) as (λ t. nat_eq p q ≡ t → t ≡ false) [
        | true ↦ λ t. let s : p ≡ q = eqb-true p q t in let z : a ≡ b = sym l ∙ (ap (item_of plan.layout) s ∙ r) in let y : nat_eq a b ≡ true = eq-eqb a b z in cc
        | false ↦ λ t. refl
      ] refl

      apart : (q : ℕ) → plan.pair j name ≡ Some q → nat_eq p q ≡ false
      apart q f = other i j q d.0 (fit.paired i name p lt at).1 (fit.paired j name q h.0 f).1

  pairs-distinct : (name : Bytes) (is ps : List ℕ) → AllByRecursion (λ i. i < items) is → IsDistinct nat_eq is → pairs_of plan name is ≡ Ok ps → IsDistinct nat_eq ps
  unfolding IsDistinct
  pairs-distinct name [] ps h d e = let q : [] ≡ ps = cc in subst (IsDistinct nat_eq) q tt
  pairs-distinct name (i ∷ is) ps h d e =
      let w = with-ok i (plan.pair i name) (pairs_of plan name is) ps e in
      subst (IsDistinct nat_eq) (sym w.4) (pairs-other name i w.0 is w.1 h.0 w.2 h.1 d.0 w.3, pairs-distinct name is w.1 h.1 d.1 w.3)

  one-distinct : (p : ℕ) → IsDistinct nat_eq (p ∷ [])
  unfolding IsDistinct
  one-distinct p = (tt, tt)

  distinct : (i : ℕ) → i < plan.layout.items → AllGroups (IsDistinct nat_eq) (chain_task plan i)
  unfolding chain_task
  distinct i lt =
      groups-steps (IsDistinct nat_eq) plan (λ id name j p f e. one-distinct p)
      (λ n name ps e. pairs-distinct name (plan.matches n) ps (fit.renders.matched n) (fit.once n) e) i (plan.chain i) no_bytes

  within : (i : ℕ) → i < plan.layout.items → AllGroups (AllByRecursion (λ p. p < pairs plan.layout)) (chain_task plan i)
  unfolding chain_task
  within i lt =
      groups-steps (AllByRecursion (λ p. p < pairs plan.layout)) plan
      (λ id name j p f e. ((fit.paired j name p (fit.renders.found id j f) e).0, tt))
      (λ n name ps e. pairs-within name (plan.matches n) ps (fit.renders.matched n) e) i (plan.chain i) no_bytes

  saving : (i : ℕ) → i < plan.layout.items → Saves (own_pairs plan i (plan.chain i)) (chain_task plan i)
  unfolding chain_task
  saving i lt = steps-save plan i (plan.chain i) no_bytes

  inside : (i : ℕ) → i < plan.layout.items → i < items
  inside i lt = omega (arith, fit.count)

  pub chains-are : AreChains plan.layout (chain_task plan) (λ i. own_pairs plan i (plan.chain i))
  chains-are =
      record {
        distinct = distinct;
        within = within;
        saves = saving;
        in_order = λ i lt. fit.saved i (inside i lt);
      }

  -- so the runs of a plan's chains are those of a family
  pub runs-are : IsRun plan.layout (λ i k. run (chain_task plan i) k)
  runs-are = chains-run plan.layout (chain_task plan) (λ i. own_pairs plan i (plan.chain i)) chains-are
