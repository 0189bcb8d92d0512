-- The plan of a site: that of its rules with a rule for each page of their tables.
use Rattle.std.specs.Prelude.{Bool, not, ◌||◌, ◌==◌, List, length, Option, option_map, Result, Ok, Err, if◌then◌else◌}
use Rattle.hk_base.specs.Bytes.{Bytes}
use Rattle.hk_feed.specs.FeedFaults.{feeds_fault}
use Rattle.hk_rules.specs.Outcomes.{after, unless}
use Rattle.hk_rules.specs.Plan.{lookups}
use Rattle.hk_rules.specs.PlanView.{PlanView}
use Rattle.hk_rules.specs.Planning.{plan_of}
use Rattle.hk_rules.specs.declared.plan_fault.PlanFault.{PlanFault}
use Rattle.hk_rules_file.specs.Rules.{RulesView}
use Rattle.hk_tags.specs.Expanding.{expand}
use Rattle.hk_tags.specs.declared.tag_fault.TagFault.{TagFault}
use Rattle.hk_build.specs.declared.site_fault.SiteFault.TheVariants.{Plan, Tags, Feeds}
-- why a site has no plan
pub use Rattle.hk_build.specs.declared.site_fault.SiteFault.{SiteFault}

abbrev pub of_plan : Result PlanView PlanFault → Result PlanView SiteFault
of_plan (Ok plan) = Ok plan
of_plan (Err fault) = Err (Plan fault)

abbrev pub of_tables : Result RulesView TagFault → Result RulesView SiteFault
of_tables (Ok rules) = Ok rules
of_tables (Err fault) = Err (Tags fault)

-- the plan of rules as they stand
abbrev pub rules_plan : RulesView → List (Bytes × Bytes) → Result PlanView SiteFault
rules_plan rules files = of_plan (plan_of rules files)

-- the rules with one for each page of their tables
abbrev pub expanded : RulesView → PlanView → Result RulesView SiteFault
expanded rules base = of_tables (expand rules base)

-- the plan of rules with one for each page of their tables, by their plan without these
abbrev pub plan_over : RulesView → List (Bytes × Bytes) → PlanView → Result PlanView SiteFault
plan_over rules files base = after (expanded rules base) (λ all. rules_plan all files)

abbrev pub tables_plan : RulesView → List (Bytes × Bytes) → Result PlanView SiteFault
tables_plan rules files = after (rules_plan rules files) (plan_over rules files)

-- whether rules have tables for tags or numbered pages
abbrev pub has_tables : RulesView → Bool
has_tables rules = not (length rules.tags == 0) || not (length rules.pages == 0)

-- the plan of rules with their tables, or as they stand where they have none
abbrev pub expanded_plan : RulesView → List (Bytes × Bytes) → Result PlanView SiteFault
expanded_plan rules files = if has_tables rules then tables_plan rules files else rules_plan rules files

-- why the feeds of a plan can't be made
abbrev pub feeds_refusal : PlanView → Option SiteFault
feeds_refusal plan = option_map Feeds (feeds_fault (lookups plan) plan.feeds)

-- a plan, where its feeds can be made
abbrev pub fed : PlanView → Result PlanView SiteFault
fed plan = unless (feeds_refusal plan) (Ok plan)

-- the plan of a site: that of its rules with a rule for each page of their tables; the first fault counts
unfoldable pub site_plan : RulesView → List (Bytes × Bytes) → Result PlanView SiteFault
site_plan rules files = after (expanded_plan rules files) fed
