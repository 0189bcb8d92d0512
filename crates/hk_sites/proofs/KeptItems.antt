-- The items whose stored results a build of a plan goes on with.
use Rattle.std.proofs.Common.{◌≡◌, ℕ, ◌<◌, true, false, cond, List, length, nat_lt, ltb-true, None, refl, sym, ap, ◌∙◌, subst, arith}
use Rattle.std.proofs.Math.Path.{fun_ext}
use Rattle.std.proofs.lemmas.List.{length-map}
use Rattle.hk_chain.specs.declared.page.Page.{Page}
use Rattle.hk_eval.specs.PlanTable.{table_of}
use Rattle.hk_fix.specs.declared.event.Event.{Event}
use Rattle.hk_fix.specs.Fix.{Seeds, IsComplete, is_finished, fix, status}
use Rattle.hk_fix.specs.Pages.{Pages}
use Rattle.hk_fix.specs.Task.{Run}
use Rattle.hk_machine.specs.Machine.{plan_run, plan_shape}
use Rattle.hk_machine.specs.PlanDeeds.{deeds_of}
use Rattle.hk_rules.specs.MadePlan.{IsMadePlan}
use Rattle.hk_rules.specs.Pairs.{count_of}
use Rattle.hk_rules.specs.Plan.{lookups}
use Rattle.hk_rules.specs.PlanView.{PlanView}
use Rattle.hk_store.specs.Digests.{Digests}
use Rattle.hk_reuse.proofs.Agreeing.{over-rebuilt, over-endings, clean-history}
use Rattle.hk_reuse.proofs.Kepts.{finishes}
use Rattle.hk_reuse.proofs.Tests.{and-both}
use Rattle.hk_reuse.proofs.Unchanged.{done-kept}
use Rattle.hk_reuse.specs.Entries.{Entries}
use Rattle.hk_reuse.specs.Histories.{finished_facts, kept_seeds, others}
use Rattle.hk_reuse.specs.Image.{image}
use Rattle.hk_reuse.specs.Kept.{kept_by, kept_among, is_kept, seeds_kept}
use Rattle.hk_reuse.specs.Over.{over}
use Rattle.hk_reuse.specs.Rebuilt.{rebuilt, reendings}
use Rattle.hk_reuse.specs.Site as sites
use Rattle.hk_reuse.specs.Site.{Items, no_seeds}
use Rattle.hk_sites.proofs.CleanBuilds.{sites-apart}
use Rattle.hk_sites.proofs.PlanSites.{is-site, uses-own, items-same, count-same}
use Rattle.hk_sites.proofs.Runs.{runs-same, ends-same, entries-same}
use Rattle.hk_sites.specs.PlanSite.{site_of, items_of}
use Rattle.hk_sites.specs.Rebuilding.{AreApart, pages_by, ends_by, run_over, clean_entries, keeps, seeds_of_kept}

module _ (dig : Digests) (plan : PlanView) (made : IsMadePlan plan) (entries : Entries) where
  abbrev inner : ℕ → Pages → Run Page
  inner = plan_run plan

  pages-over : pages_by plan (run_over dig plan entries) ≡ rebuilt dig (site_of plan) entries
  unfolding deeds_of table_of lookups
  pages-over =
      ap (λ (items : Items). fix (plan_shape plan) (over dig items entries inner) no_seeds) (sym (items-same plan))
      ∙ over-rebuilt dig (site_of plan) (is-site plan made) entries inner (runs-same plan made)

  ends-over : (i : ℕ) → i < length plan.items → ends_by plan (run_over dig plan entries) i ≡ reendings dig (site_of plan) entries i
  unfolding deeds_of table_of lookups
  ends-over i lt =
      ap (λ (items : Items). status (plan_shape plan) (over dig items entries inner) no_seeds i) (sym (items-same plan))
      ∙ over-endings dig (site_of plan) (is-site plan made) entries inner (runs-same plan made) i (omega (arith, lt, count-same plan))

  pub kept-over : (i : ℕ) → keeps dig plan entries i ≡ is_kept dig (site_of plan) entries i
  kept-over i =
      ap (λ k. kept_among dig (items_of plan) k entries i) pages-over
      ∙ ap (λ (items : Items). kept_among dig items (rebuilt dig (site_of plan) entries) entries i) (sym (items-same plan))

  count : (items_of plan).table.layout.items ≡ length plan.items
  unfolding table_of
  count = length-map plan.items count_of

  kept-within : (i : ℕ) → keeps dig plan entries i ≡ true → i < length plan.items
  kept-within i e =
      let w = and-both (nat_lt i (items_of plan).table.layout.items) (kept_by dig (items_of plan) (pages_by plan (run_over dig plan entries)) i (entries ((items_of plan).id i))) e in
      omega (arith, ltb-true i (items_of plan).table.layout.items w.0, count)

  facts-over : (i : ℕ) → cond (keeps dig plan entries i) (finished_facts (ends_by plan (run_over dig plan entries) i)) None ≡ cond (keeps dig plan entries i) (finished_facts (reendings dig (site_of plan) entries i)) None
  facts-over i =
      elim (keeps dig plan entries i) as (λ b. keeps dig plan entries i ≡ b → cond b (finished_facts (ends_by plan (run_over dig plan entries) i)) None ≡ cond b (finished_facts (reendings dig (site_of plan) entries i)) None) [
        | true ↦ λ e. ap finished_facts (ends-over i (kept-within i e))
        | false ↦ λ e. refl
      ] refl

  -- the seeds by the machine's runs and by the deeds
  seeds-over : seeds_of_kept dig plan entries ≡ seeds_kept dig (site_of plan) entries
  unfolding deeds_of table_of lookups
  seeds-over =
      let kept = keeps dig plan entries in
      ap (λ k. kept_seeds (plan_shape plan) kept k (ends_by plan (run_over dig plan entries))) pages-over
      ∙ ap (λ facts. record { pages = (kept_seeds (plan_shape plan) kept (rebuilt dig (site_of plan) entries) (reendings dig (site_of plan) entries)).pages; facts = facts }) (fun_ext facts-over)
      ∙ ap (λ by. kept_seeds (plan_shape plan) by (rebuilt dig (site_of plan) entries) (reendings dig (site_of plan) entries)) (fun_ext kept-over)

module _ (dig : Digests) (old new : PlanView) (apart : AreApart dig old new) where
  abbrev entries : Entries
  entries = clean_entries dig old

  pub kept-finished : (i : ℕ) → keeps dig new entries i ≡ true → is_finished (ends_by new (plan_run new) i) ≡ true
  kept-finished i kept =
      let plans = sites-apart dig old new apart in
      let same : is_kept dig (site_of new) entries i ≡ is_kept dig (site_of new) (image dig (site_of old)) i = ap (λ es. is_kept dig (site_of new) es i) (entries-same old apart.was dig) in
      let both = finishes dig (site_of old) (site_of new) plans.was plans.now plans.apart plans.told i (sym same ∙ (sym (kept-over dig new apart.now entries i) ∙ kept)) in
      ap is_finished (ends-same new apart.now i (omega (arith, both.0, count-same new))) ∙ both.1

  module _ (h : List Event) where
    abbrev IsWhole : (ℕ → Pages → Run Page) → Seeds → List Event → Type 0
    IsWhole = IsComplete (plan_shape new)

    abbrev Statement : Entries → Type 0
    Statement es =
        IsWhole (over dig (sites.items_of (site_of new)) es (plan_run new)) no_seeds h
        → IsWhole (plan_run new) (seeds_kept dig (site_of new) es) (others (plan_shape new) (is_kept dig (site_of new) es) h)

    site-history : Statement (image dig (site_of old))
    unfolding deeds_of table_of lookups
    site-history = clean-history dig (site_of old) (site_of new) (sites-apart dig old new apart) (plan_run new) (runs-same new apart.now) h

    pub plan-history : IsWhole (run_over dig new entries) no_seeds h → IsWhole (plan_run new) (seeds_of_kept dig new entries) (others (plan_shape new) (keeps dig new entries) h)
    plan-history all =
        let moved : Statement entries = subst Statement (sym (entries-same old apart.was dig)) site-history in
        let whole = moved (subst (λ (items : Items). IsWhole (over dig items entries (plan_run new)) no_seeds h) (sym (items-same new)) all) in
        subst (λ seeds. IsWhole (plan_run new) seeds (others (plan_shape new) (keeps dig new entries) h)) (sym (seeds-over dig new apart.now entries))
        (subst (λ kept. IsWhole (plan_run new) (seeds_kept dig (site_of new) entries) (others (plan_shape new) kept h)) (sym (fun_ext (kept-over dig new apart.now entries))) whole)

-- a plan that is built again keeps all that was done
pub unchanged-kept : (dig : Digests) (plan : PlanView) (i : ℕ) → IsMadePlan plan → i < length plan.items → is_finished (ends_by plan (plan_run plan) i) ≡ true → keeps dig plan (clean_entries dig plan) i ≡ true
unchanged-kept dig plan i made lt finished =
    let done = done-kept dig (site_of plan) (is-site plan made) (uses-own plan made) i (omega (arith, lt, count-same plan)) (ap is_finished (sym (ends-same plan made i lt)) ∙ finished) in
    kept-over dig plan made (clean_entries dig plan) i ∙ (ap (λ es. is_kept dig (site_of plan) es i) (entries-same plan made dig) ∙ done)
