-- What a build of a plan gives.
use Rattle.std.specs.Prelude.{◌≡◌}
use Rattle.hk_chain.specs.Kept.{at_place}
use Rattle.hk_fix.specs.Fix.{IsComplete}
use Rattle.hk_fix.specs.Report.{CanReport}
use Rattle.hk_fix.specs.Results.{ResultsView}
use Rattle.hk_machine.specs.Machine.{plan_run, plan_shape}
use Rattle.hk_reuse.specs.Entries.{Entries, entries_in, no_entries}
use Rattle.hk_reuse.specs.Site.{no_seeds}
use Rattle.hk_rules.specs.PlanView.{PlanView}
use Rattle.hk_sites.specs.PlanSite.{site_of as site_by}
use Rattle.hk_sites.specs.Rebuilding.{list_by}
use Rattle.hk_sites.specs.Sizes.{HasTexts}
use Rattle.hk_reuse.specs.Rebuilt.{TellApart}
use Rattle.hk_store.specs.Traits.{sha_digests}
use Rattle.hk_build.specs.Build.{pages, endings, image, run_of}
use Rattle.hk_build.specs.Planned.{IsPlanned}

-- a complete history of the items' runs over entries, the pages that there are then, and how the items end
pub record AreResults (plan : PlanView) (entries : Entries) (r : ResultsView) : Type 0 where
  pub complete : IsComplete (plan_shape plan) (run_of plan entries) no_seeds r.history
  pub pages : at_place r.pages ≡ pages plan entries
  pub endings : r.outcomes ≡ endings plan entries
  pub reported : CanReport (plan_shape plan) r.outcomes

-- two plans whose stores may follow each other: equal digests of what is compared mean equal things
pub record AreApart (old new : PlanView) : Type 0 where
  pub was : IsPlanned old
  pub now : IsPlanned new
  pub short : HasTexts old
  pub apart : TellApart sha_digests (site_by old) (site_by new)

-- the entries that a clean build leaves
abbrev pub left : PlanView → Entries
left plan = entries_in (list_by sha_digests plan (plan_run plan))

-- a build over entries is a clean build
pub record IsClean (plan : PlanView) (entries : Entries) : Type 0 where
  pub pages : pages plan entries ≡ pages plan no_entries
  pub endings : endings plan entries ≡ endings plan no_entries
  pub image : image plan entries ≡ image plan no_entries
