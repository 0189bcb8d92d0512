-- A build by the machine's runs is a build by the deeds of a plan's items.
use Rattle.std.proofs.Common.{◌≡◌, ℕ, ◌<◌, length, sym, ap, ◌∙◌, arith}
use Rattle.hk_eval.proofs.PlanNames.{plan-is_told}
use Rattle.hk_eval.specs.PlanTable.{table_of}
use Rattle.hk_fix.specs.Task.{run}
use Rattle.hk_machine.proofs.ChainDeeds.{chain-same}
use Rattle.hk_machine.specs.Machine.{plan_run}
use Rattle.hk_machine.specs.PlanDeeds.{deeds_of}
use Rattle.hk_rules.proofs.Recipes.{plan-recipe}
use Rattle.hk_rules.specs.MadePlan.{IsMadePlan}
use Rattle.hk_rules.specs.Plan.{lookups}
use Rattle.hk_rules.specs.PlanView.{PlanView}
use Rattle.hk_rules.specs.Recipe.{recipe_of}
use Rattle.hk_store.specs.Digests.{Digests}
use Rattle.hk_reuse.proofs.Agreeing.{fix-agree, status-agree, over-left}
use Rattle.hk_reuse.specs.Entries.{no_entries}
use Rattle.hk_reuse.specs.Image.{entries_of, image}
use Rattle.hk_reuse.specs.Over.{SameRuns}
use Rattle.hk_reuse.specs.Site.{built, clean_run, endings, no_seeds, shape_of}
use Rattle.hk_sites.proofs.PlanSites.{is-site, inside, items-same, count-same}
use Rattle.hk_sites.specs.PlanSite.{site_of}
use Rattle.hk_sites.specs.Rebuilding.{pages_by, ends_by, clean_entries}

module _ (plan : PlanView) (made : IsMadePlan plan) where
  pub runs-same : SameRuns (shape_of (site_of plan)) (plan_run plan) (clean_run (site_of plan))
  unfolding deeds_of table_of lookups recipe_of
  runs-same i k lt =
      let less = inside plan made i lt in
      ap (λ t. run t k)
      (chain-same (lookups plan) (length plan.items) (length plan.contexts) (length plan.patterns) (table_of plan) (plan-is_told plan made.form made.linked) i less (plan-recipe plan made.linked made.headed i less))

  pub pages-same : pages_by plan (plan_run plan) ≡ built (site_of plan)
  unfolding deeds_of table_of lookups
  pages-same = fix-agree (shape_of (site_of plan)) (is-site plan made).shape no_seeds (plan_run plan) (clean_run (site_of plan)) runs-same

  pub ends-same : (i : ℕ) → i < length plan.items → ends_by plan (plan_run plan) i ≡ endings (site_of plan) i
  unfolding deeds_of table_of lookups
  ends-same i lt = status-agree (shape_of (site_of plan)) (is-site plan made).shape no_seeds (plan_run plan) (clean_run (site_of plan)) runs-same i (omega (arith, lt, count-same plan))

  -- a clean build leaves the entries of the site's
  pub entries-same : (dig : Digests) → clean_entries dig plan ≡ image dig (site_of plan)
  unfolding deeds_of table_of lookups
  entries-same dig =
      ap (λ items. entries_of dig items (ends_by plan (plan_run plan)) (pages_by plan (plan_run plan))) (sym (items-same plan))
      ∙ over-left dig (site_of plan) no_entries (plan_run plan) (is-site plan made) runs-same
