-- A build of a plan over the entries that a clean build of another plan left is a clean build.
use Rattle.std.proofs.Common.{◌≡◌, ℕ, ◌<◌, List, [], ◌∷◌, length, refl, sym, ap, ◌∙◌, subst, arith}
use Rattle.hk_chain.specs.declared.page.Page.{Page}
use Rattle.hk_eval.specs.PlanTable.{table_of}
use Rattle.hk_fix.specs.Fix.{fix, status}
use Rattle.hk_fix.specs.Pages.{Pages}
use Rattle.hk_fix.specs.Task.{Run}
use Rattle.hk_machine.specs.Machine.{plan_run, plan_shape}
use Rattle.hk_machine.specs.PlanDeeds.{deeds_of}
use Rattle.hk_rules.specs.MadePlan.{IsMadePlan}
use Rattle.hk_rules.specs.Plan.{lookups}
use Rattle.hk_rules.specs.PlanView.{PlanView}
use Rattle.hk_store.specs.Digests.{Digests}
use Rattle.hk_reuse.proofs.Agreeing.{clean-pages, clean-ends, over-left}
use Rattle.hk_reuse.proofs.Sites.{image-same}
use Rattle.hk_reuse.proofs.Unchanged.{self-apart}
use Rattle.hk_reuse.specs.Entries.{Entries, no_entries}
use Rattle.hk_reuse.specs.Image.{entries_of, image}
use Rattle.hk_reuse.specs.Over.{SameRuns, over}
use Rattle.hk_reuse.specs.Rebuilt.{ArePlansApart}
use Rattle.hk_reuse.specs.Site as sites
use Rattle.hk_reuse.specs.Site.{Items, clean_run, no_seeds, shape_of}
use Rattle.hk_sites.proofs.Fingerprints.{texts-tell}
use Rattle.hk_sites.proofs.PlanSites.{is-site, items-same, count-same}
use Rattle.hk_sites.proofs.Runs.{runs-same, entries-same}
use Rattle.hk_sites.specs.PlanSite.{site_of, items_of}
use Rattle.hk_sites.specs.Rebuilding.{AreApart, AreLinked, IsCleanBuild, pages_by, ends_by, entries_by, run_over, clean_entries, entries_after, last_of}

module _ (dig : Digests) (old new : PlanView) (was : IsMadePlan old) (now : IsMadePlan new) (apart : ArePlansApart dig (site_of old) (site_of new)) where
  abbrev inner : ℕ → Pages → Run Page
  inner = plan_run new

  -- what a build over entries has, held against these items
  abbrev IsClean : Items → Entries → Type 0
  IsClean items entries =
      (fix (plan_shape new) (over dig items entries inner) no_seeds ≡ pages_by new inner)
      × ((i : ℕ) → i < length new.items → status (plan_shape new) (over dig items entries inner) no_seeds i ≡ ends_by new inner i)
      × (entries_of dig items (status (plan_shape new) (over dig items entries inner) no_seeds) (fix (plan_shape new) (over dig items entries inner) no_seeds) ≡ clean_entries dig new)

  same : SameRuns (shape_of (site_of new)) inner (clean_run (site_of new))
  same = runs-same new now

  site-clean : IsClean (sites.items_of (site_of new)) (image dig (site_of old))
  unfolding deeds_of table_of lookups
  site-clean = (
    clean-pages dig (site_of old) (site_of new) apart inner same,
    λ i lt. clean-ends dig (site_of old) (site_of new) apart inner same i (omega (arith, lt, count-same new)),
    over-left dig (site_of new) (image dig (site_of old)) inner apart.now same
        ∙ (image-same dig (site_of old) (site_of new) apart.was apart.now apart.apart apart.told ∙ sym (entries-same new now dig)),
  )

  plan-clean : IsClean (items_of new) (clean_entries dig old)
  plan-clean =
      subst (λ items. IsClean items (clean_entries dig old)) (items-same new)
      (subst (IsClean (sites.items_of (site_of new))) (sym (entries-same old was dig)) site-clean)

  build-clean : IsCleanBuild dig new (clean_entries dig old)
  build-clean = record { pages = plan-clean.0; ends = plan-clean.1; left = plan-clean.2 }

pub sites-apart : (dig : Digests) (old new : PlanView) → AreApart dig old new → ArePlansApart dig (site_of old) (site_of new)
sites-apart dig old new apart =
    record {
      was = is-site old apart.was;
      now = is-site new apart.now;
      apart = apart.apart;
      told = texts-tell old new apart.was apart.now apart.was_limited apart.now_limited apart.short;
    }

pub builds-clean : (dig : Digests) (old new : PlanView) → AreApart dig old new → IsCleanBuild dig new (clean_entries dig old)
builds-clean dig old new apart = build-clean dig old new apart.was apart.now (sites-apart dig old new apart)

-- ---- one build after another

pub same-clean : (dig : Digests) (plan : PlanView) → IsMadePlan plan → IsCleanBuild dig plan (clean_entries dig plan)
same-clean dig plan made = build-clean dig plan plan made made (self-apart dig (site_of plan) (is-site plan made))

later-clean : (dig : Digests) (plan : PlanView) (plans : List PlanView) → AreLinked dig plan plans → entries_after dig (clean_entries dig plan) plans ≡ clean_entries dig (last_of plan plans)
later-clean dig plan [] linked = refl
later-clean dig plan (next ∷ plans) linked =
    ap (λ entries. entries_after dig entries plans) (builds-clean dig plan next linked.0).left ∙ later-clean dig next plans linked.1

pub chain-clean : (dig : Digests) (plan : PlanView) (plans : List PlanView) → AreLinked dig plan plans → entries_after dig no_entries (plan ∷ plans) ≡ clean_entries dig (last_of plan plans)
chain-clean dig plan plans linked =
    let first : entries_by dig plan (run_over dig plan no_entries) ≡ clean_entries dig plan = refl in
    ap (λ entries. entries_after dig entries plans) first ∙ later-clean dig plan plans linked
