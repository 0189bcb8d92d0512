-- The testing of a plan's links.
use Rattle.std.specs.Prelude.{Bool, true, false}
use Rattle.hk_base.specs.Bytes.{Bytes}
use Rattle.hk_rules.specs.PlanView.{PlanView}
use Rattle.hk_app.specs.declared.ended.Ended.{Ended}
use Rattle.hk_app.specs.declared.status.Status.{Status}
use Rattle.hk_app.specs.declared.status.Status.TheVariants.{Ok as Done, Report, BadLinks}
use Rattle.hk_app.specs.Promise.{HasLinks, IsNamed}

-- the status where each link leads somewhere, or not
abbrev pub status_of : Bool → Status
status_of true = Done
status_of false = BadLinks

-- each link leads somewhere, or an item isn't done, or some link leads nowhere
abbrev pub EndsTested : PlanView → Status → Bytes → Type 0
EndsTested plan Done text = HasLinks true text plan
EndsTested plan Report text = IsNamed text plan
EndsTested plan BadLinks text = HasLinks false text plan
EndsTested plan status text = ⊥

abbrev pub EndsLinks : PlanView → Ended → Type 0
EndsLinks plan e = EndsTested plan e.status e.text
