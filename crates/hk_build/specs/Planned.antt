-- Plans of rules that are linked.
use Rattle.std.specs.Prelude.{◌≡◌, List, Ok}
use Rattle.hk_base.specs.Bytes.{Bytes}
use Rattle.hk_rules_file.specs.Linked.{IsLinked}
use Rattle.hk_rules_file.specs.Rules.{RulesView}
use Rattle.hk_rules.specs.PlanView.{PlanView}
use Rattle.hk_rules.specs.Planning.{plan_of}

-- some linked rules make this plan of some files
pub record IsPlanned (plan : PlanView) : Type 0 where
  pub rules : RulesView
  pub files : List (Bytes × Bytes)
  pub linked : IsLinked rules
  pub made : plan_of rules files ≡ Ok plan
