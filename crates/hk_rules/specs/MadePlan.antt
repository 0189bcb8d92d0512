-- Plans as rules make them.
use Rattle.std.specs.Prelude.{◌≡◌, Ok}
use Rattle.hk_rules.specs.Headers.{header_of}
use Rattle.hk_rules.specs.LinkedPlan.{IsLinkedPlan}
use Rattle.hk_rules.specs.Outcomes.{each}
use Rattle.hk_rules.specs.PlanView.{PlanView, IsPlan}

-- the headers of a plan are those of its items' files
abbrev pub IsHeaded : PlanView → Type 0
IsHeaded plan = each header_of plan.items ≡ Ok plan.headers

-- a plan of its form, linked, and with the headers of its items' files
pub record IsMadePlan (plan : PlanView) : Type 0 where
  pub form : IsPlan plan
  pub linked : IsLinkedPlan plan
  pub headed : IsHeaded plan
