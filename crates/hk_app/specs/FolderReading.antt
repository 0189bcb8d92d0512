-- What a build makes of a folder.
use Rattle.std.specs.Prelude.{Bool, ◌||◌, not, List, [], ◌∷◌, Option, Some, None, Result, Ok, Err, codes, bytes_eq, if◌then◌else◌}
use Rattle.std.specs.List.{filter}
use Rattle.std.specs.FinMap.{entries}
use Rattle.hk_base.specs.Bytes.{Bytes, Files}
use Rattle.hk_build.specs.SitePlan.{site_plan}
use Rattle.hk_build.specs.declared.site_fault.SiteFault.{SiteFault}
use Rattle.hk_rules.specs.RulesFault.{RulesFault}
use Rattle.hk_rules.specs.Rules.{RulesView}
use Rattle.hk_rules.specs.RulesForm.{rules_of}
use Rattle.hk_rules.specs.PlanView.{PlanView}
use Rattle.hk_rules.specs.Resource.{is_ignored}

abbrev pub rules_path : Bytes
rules_path = codes "site.toml"

-- whether a build reads the file at a path
abbrev pub is_read : Bytes → Bool
is_read path = bytes_eq path rules_path || not (is_ignored path)

abbrev pub are_read : List (Bytes × Bytes) → List (Bytes × Bytes)
are_read files = filter (λ e. is_read e.0) files

-- the files that the rules speak of
abbrev pub unignored : List (Bytes × Bytes) → List (Bytes × Bytes)
unignored files = filter (λ e. not (is_ignored e.0)) files

-- what the first entry of a path holds
abbrev pub found_at : Bytes → List (Bytes × Bytes) → Option Bytes
found_at path [] = None
found_at path (e ∷ es) = if bytes_eq e.0 path then Some e.1 else found_at path es

-- what a folder comes to: no rules file, refused rules, no plan of the site, or its plan
pub data Reading : Type 0 where
  absent : Reading
  refused : RulesFault → Reading
  unplanned : SiteFault → Reading
  planned : PlanView → Reading

abbrev pub plan_reading : Result PlanView SiteFault → Reading
plan_reading (Err fault) = unplanned fault
plan_reading (Ok plan) = planned plan

abbrev pub rules_reading : List (Bytes × Bytes) → Result RulesView RulesFault → Reading
rules_reading files (Err fault) = refused fault
rules_reading files (Ok rules) = plan_reading (site_plan rules files)

abbrev pub text_reading : List (Bytes × Bytes) → Option Bytes → Reading
text_reading files None = absent
text_reading files (Some bytes) = rules_reading files (rules_of bytes)

abbrev pub files_reading : List (Bytes × Bytes) → Reading
files_reading files = text_reading (unignored files) (found_at rules_path files)

-- what a build makes of a folder
abbrev pub reading : Files → Reading
reading m = files_reading (entries m)
