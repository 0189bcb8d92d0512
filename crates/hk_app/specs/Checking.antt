-- What the compilers of a plan come to, from nothing that is kept.
use Rattle.std.specs.Prelude.{◌≡◌}
use Rattle.hk_build.specs.Built.{AreResults}
use Rattle.hk_fix.specs.Results.{ResultsView}
use Rattle.hk_reuse.specs.Entries.{no_entries}
use Rattle.hk_rules.specs.PlanView.{PlanView}
use Rattle.hk_app.specs.declared.checking.Compiled.{Compiled}
use Rattle.hk_app.specs.declared.checking.Compiled.TheVariants.{Stopped, Whole}
use Rattle.hk_app.specs.declared.status.Status.TheVariants.{Report}
use Rattle.hk_app.specs.Promise.{AllEnd, IsNamed}
use Rattle.hk_app.specs.Taking.{nothing}

-- all items are done, with these results
pub record IsWhole (plan : PlanView) (r : ResultsView) : Type 0 where
  pub all : AllEnd plan nothing
  pub results : AreResults plan no_entries r

-- a report where some item failed or waits, and else the results
abbrev pub CompilesTo : PlanView → Compiled → Type 0
CompilesTo plan (Stopped e) = (e.status ≡ Report) × IsNamed e.text plan
CompilesTo plan (Whole results) = IsWhole plan results
