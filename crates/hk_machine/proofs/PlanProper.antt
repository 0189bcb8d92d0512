-- The deeds of a plan's items are proper.
use Rattle.std.proofs.Common.{◌≡◌, refl, sym, ap, subst, ◌∙◌, arith, ℕ, ◌<◌, true, List, [], ◌∷◌, length, map, Option, Some, is_some}
use Rattle.std.specs.Prelude.{filter_map}
use Rattle.std.specs.List.{AllByRecursion, cons_option}
use Rattle.std.specs.Option.{option_and_then, unwrap_or}
use Rattle.std.proofs.lemmas.List.{length-map}
use Rattle.hk_base.specs.Bytes.{Bytes}
use Rattle.hk_base.specs.Identifier.{Ident}
use Rattle.hk_chain.specs.Snapshots.{AreSnapshots}
use Rattle.hk_chain.specs.declared.chain.Step.{Step}
use Rattle.hk_chain.specs.declared.chain.Step.TheVariants as steps
use Rattle.hk_fix.specs.Deeds.{AreProper}
use Rattle.hk_rules.specs.LinkedPlan.{IsLinkedPlan, snapshots_of}
use Rattle.hk_rules.specs.Pairs.{saves, layout, count_of}
use Rattle.hk_rules.specs.Plan.{Lookups, no_item, id_at, chain_at, find_in, pair_of, lookups}
use Rattle.hk_eval.specs.PlanTable.{table_of}
use Rattle.hk_rules.specs.MadePlan.{IsHeaded}
use Rattle.hk_rules.specs.PlanView.{PlanView, IsPlan}
use Rattle.hk_rules.specs.Recipe.{named_step, recipe_of}
use Rattle.hk_rules.proofs.ItemNumbers.{find_in-item}
use Rattle.hk_rules.proofs.PairNumbers.{pairs_of-saves, plan-snapshots}
use Rattle.hk_eval.proofs.PlanNames.{found-at, plan-is_table, plan-is_told}
use Rattle.hk_rules.proofs.Recipes.{plan-recipe}
use Rattle.hk_machine.specs.ChainDeed.{saved_name}
use Rattle.hk_machine.specs.PlanDeeds.{deeds_of}
use Rattle.hk_machine.proofs.ChainQuiet.{chain-proper}

-- a chain saves under the same names, by names and by numbers
step-name : (plan : Lookups) (step : Step) (rest : List Bytes) (more : List Step) → rest ≡ saves more → cons_option (saved_name (named_step plan step)) rest ≡ saves (step ∷ more)
step-name plan steps.Body rest more e = e
step-name plan steps.Str rest more e = e
step-name plan steps.Copy rest more e = e
step-name plan steps.TemplateBody rest more e = e
step-name plan (steps.Make text) rest more e = e
step-name plan (steps.Load id name) rest more e = e
step-name plan (steps.Concat n) rest more e = e
step-name plan (steps.Apply id context) rest more e = e
step-name plan (steps.SelfApply context) rest more e = e
step-name plan (steps.Save name) rest more e = ap (λ l. name ∷ l) e
step-name plan steps.Relativize rest more e = e

names-same : (plan : Lookups) (more : List Step) → filter_map saved_name (map (named_step plan) more) ≡ saves more
names-same plan [] = refl
names-same plan (step ∷ more) = step-name plan step (filter_map saved_name (map (named_step plan) more)) more (names-same plan more)

-- what each name has
module _ (f g : Bytes → Option ℕ) (same : (name : Bytes) → f name ≡ g name) where
  all-there : (names : List Bytes) (ps : List ℕ) → map g names ≡ map Some ps → AllByRecursion (λ name. is_some (f name) ≡ true) names
  all-there [] ps e = tt
  all-there (name ∷ names) [] e = cc
  all-there (name ∷ names) (p ∷ ps) e =
      let first : g name ≡ Some p = cc in
      let rest : map g names ≡ map Some ps = cc in
      (ap is_some (same name ∙ first), all-there names ps rest)

  all-pairs : (names : List Bytes) (ps : List ℕ) → map g names ≡ map Some ps → map (λ name. unwrap_or (f name) 0) names ≡ ps
  all-pairs [] [] e = refl
  all-pairs [] (p ∷ ps) e = cc
  all-pairs (name ∷ names) [] e = cc
  all-pairs (name ∷ names) (p ∷ ps) e =
      let first : g name ≡ Some p = cc in
      let rest : map g names ≡ map Some ps = cc in
      rw (same name ∙ first, all-pairs names ps rest) refl

module _ (plan : PlanView) (is : IsPlan plan) (linked : IsLinkedPlan plan) (headed : IsHeaded plan) where
  abbrev named_pair : ℕ → Bytes → Option ℕ
  named_pair i name = option_and_then (λ item. pair_of plan item name) (find_in plan.items (id_at plan i))

  own-pair : (i : ℕ) → i < length plan.items → (name : Bytes) → named_pair i name ≡ pair_of plan i name
  own-pair i lt name = ap (option_and_then (λ item. pair_of plan item name)) (found-at plan is i lt)

  named : (i : ℕ) → filter_map saved_name (map (named_step (lookups plan)) (chain_at plan i)) ≡ saves (chain_at plan i)
  named i = names-same (lookups plan) (chain_at plan i)

  inside : (i : ℕ) → i < (layout plan.items).items → i < length plan.items
  inside i lt = omega (arith, lt, length-map plan.items count_of)

  owned : (i : ℕ) → i < length plan.items → AllByRecursion (λ name. is_some (named_pair i name) ≡ true) (filter_map saved_name (map (named_step (lookups plan)) (chain_at plan i)))
  owned i lt =
      subst (AllByRecursion (λ name. is_some (named_pair i name) ≡ true)) (sym (named i))
      (all-there (named_pair i) (pair_of plan i) (own-pair i lt) (saves (chain_at plan i)) (snapshots_of plan i) (pairs_of-saves plan i linked lt))

  in-order : (i : ℕ) → i < length plan.items → AreSnapshots (layout plan.items) i (map (λ name. unwrap_or (named_pair i name) 0) (filter_map saved_name (map (named_step (lookups plan)) (chain_at plan i))))
  in-order i lt =
      subst (AreSnapshots (layout plan.items) i)
      (sym (ap (map (λ name. unwrap_or (named_pair i name) 0)) (named i) ∙ all-pairs (named_pair i) (pair_of plan i) (own-pair i lt) (saves (chain_at plan i)) (snapshots_of plan i) (pairs_of-saves plan i linked lt)))
      (plan-snapshots plan i lt)

  found : (id : Ident) (i : ℕ) → find_in plan.items id ≡ Some i → (i < (layout plan.items).items) × (id_at plan i ≡ id)
  found id i e = let at = find_in-item plan.items id i e in (omega (arith, at.0, length-map plan.items count_of), at.1 no_item)

  pub deeds-proper : AreProper (deeds_of plan)
  unfolding deeds_of table_of recipe_of lookups
  deeds-proper =
      record {
        table = plan-is_table plan is linked;
        found = found;
        proper = λ i lt. chain-proper (lookups plan) (length plan.items) (length plan.contexts) (length plan.patterns) (table_of plan) (plan-is_told plan is linked) i (plan-recipe plan linked headed i (inside i lt));
        owned = λ i lt. owned i (inside i lt);
        in_order = λ i lt. in-order i (inside i lt);
      }
