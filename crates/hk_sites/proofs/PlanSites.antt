-- Plans that rules make are sites.
use Rattle.std.proofs.Common.{◌≡◌, ℕ, ◌<◌, cond, List, [], ◌∷◌, length, map, filter_map, lt-ltb, refl, ap, ◌∙◌, subst, arith}
use Rattle.std.proofs.Math.Path.{fun_ext}
use Rattle.std.proofs.lemmas.List.{length-map}
use Rattle.std.specs.List.{cons_option}
use Rattle.hk_base.specs.Bytes.{Bytes}
use Rattle.hk_chain.proofs.Layouts.{counts-layout}
use Rattle.hk_chain.specs.Layout.{IsShape}
use Rattle.hk_chain.specs.declared.chain.Step.{Step}
use Rattle.hk_chain.specs.declared.chain.Step.TheVariants as steps
use Rattle.hk_eval.proofs.PlanNames.{found-at, plan-is_told}
use Rattle.hk_eval.specs.PlanTable.{table_of, IsTableOf}
use Rattle.hk_fix.specs.Deed.{IsProper}
use Rattle.hk_fix.specs.Table.{Key, Table}
use Rattle.hk_machine.proofs.ChainQuiet.{chain-proper}
use Rattle.hk_machine.proofs.PlanProper.{deeds-proper}
use Rattle.hk_machine.specs.ChainDeed.{saved_name, chain_deed}
use Rattle.hk_machine.specs.Machine.{plan_shape}
use Rattle.hk_machine.specs.PlanDeeds.{deeds_of}
use Rattle.hk_rules.proofs.LinkedPlans.{chains-short}
use Rattle.hk_rules.proofs.PairNumbers.{pair_of-own, pair_name-of, pair_of-final}
use Rattle.hk_rules.proofs.Pairing.{pairs-fit}
use Rattle.hk_rules.proofs.Recipes.{plan-recipe}
use Rattle.hk_rules.specs.MadePlan.{IsMadePlan}
use Rattle.hk_rules.specs.Pairs.{saves, counts, count_of, layout}
use Rattle.hk_chain.specs.Names.{final_name}
use Rattle.hk_rules.specs.Plan.{id_at, chain_at, last_pair, pair_owner, pair_name_of, pattern_at, Lookups, lookups}
use Rattle.hk_rules.specs.PlanView.{PlanView}
use Rattle.hk_rules.specs.Recipe.{named_step, recipe_in, recipe_of}
use Rattle.hk_forms.specs.PatternText.{text_of}
use Rattle.hk_reuse.proofs.Images.{site-items}
use Rattle.hk_reuse.specs.Site as sites
use Rattle.hk_reuse.specs.Site.{Items, AreItems, IsSite, UsesItsOwn, clean_run, shape_of}
use Rattle.hk_store.specs.RecipeText.{recipe_text}
use Rattle.hk_sites.specs.PlanSite.{site_of, items_of}
use Rattle.hk_sites.proofs.OwnPatterns.{with_texts, texts_and, deed-below}

-- ---- names

step-name : (plan : Lookups) (step : Step) (rest : List Bytes) (more : List Step) → rest ≡ saves more → cons_option (saved_name (named_step plan step)) rest ≡ saves (step ∷ more)
step-name plan steps.Body rest more e = e
step-name plan steps.Str rest more e = e
step-name plan steps.Copy rest more e = e
step-name plan steps.TemplateBody rest more e = e
step-name plan (steps.Make text) rest more e = e
step-name plan (steps.Load id name) rest more e = e
step-name plan (steps.Concat n) rest more e = e
step-name plan (steps.Apply id context) rest more e = e
step-name plan (steps.SelfApply context) rest more e = e
step-name plan (steps.Save name) rest more e = ap (λ l. name ∷ l) e
step-name plan steps.Relativize rest more e = e

names-same : (plan : Lookups) (more : List Step) → filter_map saved_name (map (named_step plan) more) ≡ saves more
names-same plan [] = refl
names-same plan (step ∷ more) = step-name plan step (filter_map saved_name (map (named_step plan) more)) more (names-same plan more)

-- what stored entries are held against, in two forms
pub items-same : (plan : PlanView) → sites.items_of (site_of plan) ≡ items_of plan
unfolding deeds_of recipe_of lookups
items-same plan =
    ap (λ (names : ℕ → List Bytes). record { table = table_of plan; patterns = length plan.patterns; id = id_at plan; names = names; text = λ item. recipe_text (recipe_of plan item) })
    (fun_ext (λ item. names-same (lookups plan) (chain_at plan item)))

pub shape-same : (plan : PlanView) → shape_of (site_of plan) ≡ plan_shape plan
unfolding deeds_of table_of lookups
shape-same plan = refl

pub count-same : (plan : PlanView) → (shape_of (site_of plan)).items ≡ length plan.items
unfolding deeds_of table_of
count-same plan = length-map plan.items count_of

-- ---- sites

module _ (plan : PlanView) (made : IsMadePlan plan) where
  pub plan-shape : IsShape (layout plan.items)
  plan-shape =
      (counts-layout (counts plan.items) (omega (arith, length-map plan.items count_of, made.form.few))
      (pairs-fit plan.items made.form.few (chains-short plan made.linked))).shape

  pub inside : (i : ℕ) → i < (layout plan.items).items → i < length plan.items
  inside i lt = omega (arith, lt, length-map plan.items count_of)

  pub is-site : IsSite (site_of plan)
  unfolding deeds_of table_of
  is-site =
      record {
        shape = plan-shape;
        proper = deeds-proper plan made.form made.linked made.headed;
        numbered = λ i lt. found-at plan made.form i (inside i lt);
      }

  pub are-items : AreItems (items_of plan)
  are-items = subst AreItems (items-same plan) (site-items (site_of plan) is-site)

  abbrev key_of : ℕ → Bytes → Key
  key_of i name = record { id = id_at plan i; name = name }

  -- the key of an item's last pair
  pub final-key : (i : ℕ) → i < length plan.items → key_of (pair_owner plan (last_pair plan i)) (pair_name_of plan (last_pair plan i)) ≡ key_of i final_name
  final-key i lt =
      let e = pair_of-final plan i made.linked lt in
      ap (λ j. key_of j (pair_name_of plan (last_pair plan i))) (pair_of-own plan i final_name (last_pair plan i) lt e).1
      ∙ ap (key_of i) (pair_name-of plan i final_name (last_pair plan i) lt e)

  abbrev texts : ℕ → Bytes
  texts n = text_of (pattern_at plan n)

  abbrev past : Bytes → Table
  past other = with_texts (table_of plan) (texts_and texts (length plan.patterns) other)

  -- the plan tells the same with another text past its patterns
  past-told : (other : Bytes) → IsTableOf (lookups plan) (length plan.items) (length plan.patterns) (past other)
  unfolding table_of lookups
  past-told other =
      let told = plan-is_told plan made.form made.linked in
      record {
        find = told.find;
        pair = told.pair;
        found = told.found;
        traits = told.traits;
        number = told.number;
        pattern = λ n lt. ap (λ b. cond b (texts n) other) (lt-ltb n (length plan.patterns) lt);
        matches = told.matches;
        matched = told.matched;
        apart = told.apart;
      }

  pub uses-own : UsesItsOwn (site_of plan)
  unfolding deeds_of table_of recipe_of lookups
  uses-own =
      record {
        finals = λ i lt. final-key i (inside i lt);
        patterns = λ i k lt.
            let known = plan-recipe plan made.linked made.headed i (inside i lt) in
            let proper : (other : Bytes) → IsProper (past other) (filter_map saved_name (map (named_step (lookups plan)) (chain_at plan i))) (chain_deed (id_at plan i) (recipe_in (lookups plan) (length plan.contexts) i)) = (λ other. chain-proper (lookups plan) (length plan.items) (length plan.contexts) (length plan.patterns) (past other) (past-told other) i known) in
            deed-below (table_of plan) (id_at plan i) texts (length plan.patterns) k (filter_map saved_name (map (named_step (lookups plan)) (chain_at plan i))) (chain_deed (id_at plan i) (recipe_in (lookups plan) (length plan.contexts) i)) (proper []) (proper (0 ∷ []));
      }
