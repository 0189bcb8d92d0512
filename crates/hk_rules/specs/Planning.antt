-- The plan that rules make of the files of a folder.
use Rattle.std.specs.Prelude.{List, Bool, not, nat_lt, length, Option, Some, None, option_map, Result, Ok, if◌then◌else◌}
use Rattle.std.specs.List.{find}
use Rattle.hk_base.specs.Bytes.{Bytes}
use Rattle.hk_base.specs.Identifier.{is_path}
use Rattle.hk_chain.specs.Context.{ContextView}
use Rattle.hk_meta.specs.declared.answer.Split.{Split}
use Rattle.hk_pattern.specs.declared.pattern.Pattern.{Pattern}
use Rattle.hk_rules.specs.Clashes.{sites, clash_fault}
use Rattle.hk_rules.specs.Headers.{header_of}
use Rattle.hk_rules.specs.Outcomes.{unless, after, each}
use Rattle.hk_rules.specs.PlanView.{PlanView}
use Rattle.hk_rules_file.specs.Rules.{RulesView}
use Rattle.hk_rules_file.specs.declared.tables.FeedRule.{FeedRule}
use Rattle.hk_rules.specs.Sources.{sources}
use Rattle.hk_rules.specs.Targets.{target_of}
use Rattle.hk_rules.specs.Universe.{Claim, universe}
use Rattle.hk_rules.specs.declared.plan_fault.PlanFault.{PlanFault}
use Rattle.hk_rules.specs.declared.plan_fault.PlanFault.TheVariants.{BadName, TooManyItems}

abbrev pub is_bad_name : Bytes × Bytes → Bool
is_bad_name file = not (is_path file.0)

abbrev pub bad_name : Bytes × Bytes → PlanFault
bad_name file = BadName file.0

-- the first file whose path is no identifier's
abbrev pub name_fault : List (Bytes × Bytes) → Option PlanFault
name_fault files = option_map bad_name (find is_bad_name files)

abbrev pub count_fault : List Claim → Option PlanFault
count_fault items = if nat_lt 65535 (length items) then Some TooManyItems else None

abbrev pub plan_by : List ContextView → List Pattern → List FeedRule → List Claim → List Split → List (Option Bytes) → PlanView
plan_by contexts patterns feeds items headers targets =
    record { items = items; headers = headers; targets = targets; contexts = contexts; patterns = patterns; feeds = feeds }

-- the plan of items with their headers and targets
abbrev pub plan_routed : List ContextView → List Pattern → List FeedRule → List Claim → List Split → List (Option Bytes) → Result PlanView PlanFault
plan_routed contexts patterns feeds items headers targets =
    unless (clash_fault (sites items targets)) (Ok (plan_by contexts patterns feeds items headers targets))

abbrev pub plan_headed : List ContextView → List Pattern → List FeedRule → List Claim → List Split → Result PlanView PlanFault
plan_headed contexts patterns feeds items headers = after (each target_of items) (plan_routed contexts patterns feeds items headers)

abbrev pub plan_counted : List ContextView → List Pattern → List FeedRule → List Claim → Result PlanView PlanFault
plan_counted contexts patterns feeds items = after (each header_of items) (plan_headed contexts patterns feeds items)

-- the plan of items
abbrev pub plan_items : List ContextView → List Pattern → List FeedRule → List Claim → Result PlanView PlanFault
plan_items contexts patterns feeds items = unless (count_fault items) (plan_counted contexts patterns feeds items)

-- the plan that rules make of files, or the first fault
unfoldable pub plan_of : RulesView → List (Bytes × Bytes) → Result PlanView PlanFault
plan_of rules files =
    unless (name_fault files) (plan_items rules.contexts rules.patterns rules.feeds (universe (sources files) rules.rules))
