-- The runs of a plan's items over entries are lawful, and what they leave is a store.
use Rattle.std.proofs.Common.{◌≡◌, ℕ, zero, suc, ◌<◌, length, replicate, All, is_some, None, Option, refl, sym, ap, ◌∙◌, subst, arith}
use Rattle.std.proofs.Math.Path.{fun_ext}
use Rattle.std.proofs.lemmas.List.{length-map}
use Rattle.std.specs.List.{AllByRecursion}
use Rattle.hk_chain.specs.Facts.{FactsView}
use Rattle.hk_chain.specs.Kept.{none_kept, at_place}
use Rattle.hk_chain.specs.Layout.{Shape, pairs}
use Rattle.hk_chain.specs.declared.page.Page.{Page}
use Rattle.hk_eval.specs.PlanTable.{table_of}
use Rattle.hk_fix.proofs.Traces.{status-facts}
use Rattle.hk_fix.specs.Fix.{IsSetting, finished, seeds_of}
use Rattle.hk_fix.specs.Pages.{Pages, Begins, lacking}
use Rattle.hk_fix.specs.Run.{asks_of, saves_of, patterns_of, snapshot, lacked, Rising, IsRun}
use Rattle.hk_fix.specs.Task.{Run}
use Rattle.hk_machine.specs.Machine.{plan_run, plan_shape}
use Rattle.hk_machine.specs.PlanDeeds.{deeds_of}
use Rattle.hk_rules.specs.MadePlan.{IsMadePlan}
use Rattle.hk_rules.specs.Pairs.{count_of}
use Rattle.hk_rules.specs.Plan.{lookups}
use Rattle.hk_rules.specs.PlanView.{PlanView}
use Rattle.hk_store.specs.Digests.{Digests}
use Rattle.hk_store.specs.Stored.{HeldId, AreHeld, IsStored}
use Rattle.hk_reuse.proofs.Images.{facts-below}
use Rattle.hk_reuse.proofs.Listings.{entries-listed}
use Rattle.hk_reuse.proofs.Over.{over-laws, over-below}
use Rattle.hk_reuse.proofs.Sites.{no-seeds, laws-of}
use Rattle.hk_reuse.proofs.Storables.{list-stored}
use Rattle.hk_reuse.specs.Entries.{Entries, AreFormed, entries_in}
use Rattle.hk_reuse.specs.Image.{entry_list}
use Rattle.hk_reuse.specs.Over.{SameRuns}
use Rattle.hk_reuse.specs.Site.{clean_run, no_seeds, shape_of}
use Rattle.hk_sites.proofs.HeldIds.{id-held, matches-held, list-held}
use Rattle.hk_sites.proofs.PlanSites.{plan-shape, inside, is-site, are-items, uses-own}
use Rattle.hk_sites.proofs.Runs.{runs-same}
use Rattle.hk_sites.proofs.Storables.{are-storable}
use Rattle.hk_sites.specs.PlanSite.{site_of, items_of}
use Rattle.hk_sites.specs.Rebuilding.{HasDigests, pages_by, ends_by, entries_by, run_over}

-- a family that runs as a lawful one is lawful
module _ (lay : Shape) (a b : ℕ → Pages → Run Page) (same : SameRuns lay a b) (laws : IsRun lay b) where
  back : (i : ℕ) (k : Pages) → i < lay.items → b i k ≡ a i k
  back i k lt = sym (same i k lt)

  pub laws-agree : IsRun lay a
  laws-agree =
      record {
        waiting = λ i k lt. subst (λ (r : Run Page). lacking k (asks_of r.log) ≡ lacked r.end) (back i k lt) (laws.waiting i k lt);
        some = λ i k l lt e. laws.some i k l lt (ap (λ (r : Run Page). r.end) (back i k lt) ∙ e);
        once = λ i k l lt e. laws.once i k l lt (ap (λ (r : Run Page). r.end) (back i k lt) ∙ e);
        still = λ i k m l p lt e more has lacks.
            ap (λ (r : Run Page). r.log) (same i m lt)
            ∙ (laws.still i k m l p lt (ap (λ (r : Run Page). r.end) (back i k lt) ∙ e) more has lacks ∙ ap (λ (r : Run Page). r.log) (back i k lt));
        same = λ i k m lt each.
            same i m lt ∙ (laws.same i k m lt (subst (λ (r : Run Page). All (λ p. m p ≡ k p) (asks_of r.log)) (same i k lt) each) ∙ back i k lt);
        grows = λ i k m lt more.
            subst (λ (r : Run Page). Begins r.log (a i m).log) (back i k lt) (subst (λ (r : Run Page). Begins (b i k).log r.log) (back i m lt) (laws.grows i k m lt more));
        own = λ i k p x lt e. laws.own i k p x lt (ap (λ (r : Run Page). snapshot r p) (back i k lt) ∙ e);
        rising = λ i k lt. subst (λ (r : Run Page). Rising (saves_of r.log)) (back i k lt) (laws.rising i k lt);
        all = λ i k p x lt e less of ne.
            ap (λ (r : Run Page). is_some (snapshot r p)) (same i k lt) ∙ laws.all i k p x lt (ap (λ (r : Run Page). r.end) (back i k lt) ∙ e) less of ne;
        within = λ i k lt. subst (λ (r : Run Page). All (λ p. p < pairs lay) (asks_of r.log)) (back i k lt) (laws.within i k lt);
      }

module _ (dig : Digests) (plan : PlanView) (made : IsMadePlan plan) (entries : Entries) where
  abbrev run : ℕ → Pages → Run Page
  run = run_over dig plan entries

  module _ (formed : AreFormed entries) where
    laws : IsRun (plan_shape plan) run
    unfolding deeds_of table_of lookups
    laws =
        over-laws dig (items_of plan) (are-items plan made) entries formed (plan_run plan)
        (laws-agree (shape_of (site_of plan)) (plan_run plan) (clean_run (site_of plan)) (runs-same plan made) (laws-of (site_of plan) (is-site plan made)))

    pub setting : IsSetting (plan_shape plan) run no_seeds
    unfolding lookups
    setting = record { shape = plan-shape plan made; laws = laws; sown = no-seeds (plan_shape plan) }

    below : (i : ℕ) (k : Pages) → i < (plan_shape plan).items → AllByRecursion (λ n. n < length plan.patterns) (patterns_of (run i k).log)
    unfolding deeds_of table_of lookups
    below i k lt =
        over-below dig (items_of plan) entries formed (plan_run plan) i k
        (subst (λ (r : Run Page). AllByRecursion (λ n. n < length plan.patterns) (patterns_of r.log)) (sym (runs-same plan made i k lt)) ((uses-own plan made).patterns i k lt))

    within : (i : ℕ) → i < length plan.items → i < (plan_shape plan).items
    unfolding lookups
    within i lt = omega (arith, lt, length-map plan.items count_of)

    pub used-below : (i : ℕ) (facts : FactsView) → i < length plan.items → ends_by plan run i ≡ finished facts → AllByRecursion (λ n. n < length plan.patterns) facts.patterns
    used-below i facts lt e = facts-below (plan_shape plan) run (length plan.patterns) setting below i facts (within i lt) e

    pub left-stored : IsStored (entry_list dig (items_of plan) (ends_by plan run) (pages_by plan run))
    unfolding table_of lookups
    left-stored =
        list-stored dig (items_of plan) (are-storable plan made) (pages_by plan run) (ends_by plan run)
        (λ i facts lt e. status-facts (plan_shape plan) run no_seeds setting (λ j g less w. cc) i facts lt e)

    pub left-held : HasDigests dig → AllByRecursion (λ item. HeldId item.0) plan.items → AreHeld (entry_list dig (items_of plan) (ends_by plan run) (pages_by plan run))
    unfolding table_of lookups
    left-held sound held =
        list-held dig sound (items_of plan) (are-storable plan made) (pages_by plan run) (λ i lt. id-held plan held i (inside plan made i lt)) (matches-held plan held) (ends_by plan run)
        (λ i facts lt e. status-facts (plan_shape plan) run no_seeds setting (λ j g less w. cc) i facts lt e)

  pub left-listed : entries_in (entry_list dig (items_of plan) (ends_by plan run) (pages_by plan run)) ≡ entries_by dig plan run
  left-listed = entries-listed dig (items_of plan) (are-items plan made) (ends_by plan run) (pages_by plan run)

-- ---- seeds

none-at : {A : Type 0} (n k : ℕ) → at_place {A = A} (replicate n None) k ≡ None
none-at zero k = refl
none-at (suc n) zero = refl
none-at (suc n) (suc k) = none-at n k

pub nothing-kept : (lay : Shape) → seeds_of (none_kept lay) ≡ no_seeds
nothing-kept lay =
    ap (λ (pages : Pages). record { pages = pages; facts = at_place (none_kept lay).facts }) (fun_ext (none-at (pairs lay)))
    ∙ ap (λ (facts : ℕ → Option FactsView). record { pages = no_seeds.pages; facts = facts }) (fun_ext (none-at lay.items))
