-- The form of a rule.
use Rattle.std.specs.Prelude.{ℕ, ◌+◌, Bool, ◌||◌, List, [], ◌∷◌, ◌++◌, Option, Some, None, is_some, option_map, Result, Ok, Err, codes, bytes_eq, if◌then◌else◌}
use Rattle.toml.specs.Data.{Data, Items, no_items, item, Members, no_members, member, get_member, as_array, as_table}
use Rattle.hk_base.specs.Bytes.{Bytes}
use Rattle.hk_base.specs.Identifier.{Ident}
use Rattle.hk_chain.specs.declared.chain.Step.{Step}
use Rattle.hk_pattern.specs.declared.pattern.Pattern.{Pattern}
use Rattle.hk_route.specs.declared.route.Route.{Route}
use Rattle.hk_forms.specs.Members.{listed}
use Rattle.hk_forms.specs.IdForm.{path_of, version_of}
use Rattle.hk_forms.specs.PatternForm.{pattern_of}
use Rattle.hk_forms.specs.RouteForm.{route_of}
use Rattle.hk_steps.specs.StepForm.{chain_by}
use Rattle.hk_rules_file.specs.Linking.{link_steps}
use Rattle.hk_steps.specs.declared.draft.DraftStep.{DraftStep}
use Rattle.hk_rules_file.specs.declared.draft_rule.DraftRule.{DraftRule}
use Rattle.hk_rules_file.specs.declared.rules.Rule.{Rule}
use Rattle.hk_rules_file.specs.declared.rules.RuleSource.{RuleSource}
use Rattle.hk_rules_file.specs.declared.rules.RuleSource.TheVariants.{Match, Create}
use Rattle.hk_rules_file.specs.declared.fault.RulesFault.{RulesFault}
use Rattle.hk_rules_file.specs.declared.fault.RulesFault.TheVariants.{BadRule}

unfoldable pub is_rule_key : Bytes → Bool
is_rule_key k =
    ((bytes_eq k (codes "match") || bytes_eq k (codes "create")) || bytes_eq k (codes "version"))
    || (bytes_eq k (codes "route") || bytes_eq k (codes "compile"))

-- the least key that doesn't pass: a table's keys ascend
abbrev pub first_other : (Bytes → Bool) → Members → Option Bytes
first_other passes no_members = None
first_other passes (member k d ms) = if passes k then first_other passes ms else Some k

-- a part that need not be there: what it is read as, or that it can't be read
abbrev pub optional : {X : Type 0} → (Data → Option X) → Option Data → Option (Option X)
optional read None = Some None
optional read (Some d) = option_map Some (read d)

abbrev pub paths_by : Option Items → Option (List Ident)
paths_by (Some ds) = listed path_of ds
paths_by None = None

-- the paths of a rule that creates its items
abbrev pub paths_of : Data → Option (List Ident)
paths_of d = paths_by (as_array d)

-- the source by `match` and `create`, or the key that is at fault
abbrev pub created_by : Option (Option (List Ident)) → Result RuleSource Bytes
created_by None = Err (codes "create")
created_by (Some None) = Err (codes "match")
created_by (Some (Some ids)) = Ok (Create ids)

abbrev pub matched_by : Pattern → Option (Option (List Ident)) → Result RuleSource Bytes
matched_by pattern None = Err (codes "create")
matched_by pattern (Some None) = Ok (Match pattern)
matched_by pattern (Some (Some ids)) = Err (codes "create")

abbrev pub source_by : Option (Option Pattern) → Option (Option (List Ident)) → Result RuleSource Bytes
source_by None created = Err (codes "match")
source_by (Some None) created = created_by created
source_by (Some (Some pattern)) created = matched_by pattern created

-- the rule without numbers, or the first of its keys that is at fault
abbrev pub with_steps : ℕ → RuleSource → Option Bytes → Option Route → Option (List DraftStep) → Result DraftRule RulesFault
with_steps n source version route (Some steps) = Ok (record { source = source; version = version; route = route; steps = steps })
with_steps n source version route None = Err (BadRule n (codes "compile"))

abbrev pub with_route : ℕ → RuleSource → Option Bytes → Option (Option Route) → Option (List DraftStep) → Result DraftRule RulesFault
with_route n source version (Some route) steps = with_steps n source version route steps
with_route n source version None steps = Err (BadRule n (codes "route"))

abbrev pub with_version : ℕ → RuleSource → Option (Option Bytes) → Option (Option Route) → Option (List DraftStep) → Result DraftRule RulesFault
with_version n source (Some version) route steps = with_route n source version route steps
with_version n source None route steps = Err (BadRule n (codes "version"))

abbrev pub with_source : ℕ → Result RuleSource Bytes → Option (Option Bytes) → Option (Option Route) → Option (List DraftStep) → Result DraftRule RulesFault
with_source n (Ok source) version route steps = with_version n source version route steps
with_source n (Err key) version route steps = Err (BadRule n key)

abbrev pub draft_by : ℕ → Option Bytes → Result RuleSource Bytes → Option (Option Bytes) → Option (Option Route) → Option (List DraftStep) → Result DraftRule RulesFault
draft_by n (Some key) source version route steps = Err (BadRule n key)
draft_by n None source version route steps = with_source n source version route steps

unfoldable pub source_in : Members → Result RuleSource Bytes
source_in ms = source_by (optional pattern_of (get_member (codes "match") ms)) (optional paths_of (get_member (codes "create") ms))

unfoldable pub steps_in : Members → Option (List DraftStep)
steps_in ms = chain_by (is_some (get_member (codes "create") ms)) (get_member (codes "compile") ms)

-- the rule without numbers that a table is
unfoldable pub draft_in : ℕ → Members → Result DraftRule RulesFault
draft_in n ms =
    draft_by n (first_other is_rule_key ms) (source_in ms) (optional version_of (get_member (codes "version") ms)) (optional route_of (get_member (codes "route") ms)) (steps_in ms)

abbrev pub finished : DraftRule → Result (List Step × List Pattern) RulesFault → Result (Rule × List Pattern) RulesFault
finished draft (Ok r) = Ok (record { source = draft.source; version = draft.version; route = draft.route; chain = r.0 }, r.1)
finished draft (Err fault) = Err fault

abbrev pub numbered_rule : ℕ → List Bytes → List Pattern → Result DraftRule RulesFault → Result (Rule × List Pattern) RulesFault
numbered_rule n names pool (Ok draft) = finished draft (link_steps n names draft.steps pool [])
numbered_rule n names pool (Err fault) = Err fault

-- the rule with this number, and the patterns then; what is no table is no rule
abbrev pub rule_by : ℕ → List Bytes → List Pattern → Option Members → Result (Rule × List Pattern) RulesFault
rule_by n names pool (Some ms) = numbered_rule n names pool (draft_in n ms)
rule_by n names pool None = Err (BadRule 0 (codes "rule"))

abbrev pub next_rule : (List Pattern → List Rule → Result (List Rule × List Pattern) RulesFault) → List Rule → Result (Rule × List Pattern) RulesFault → Result (List Rule × List Pattern) RulesFault
next_rule rest done (Ok r) = rest r.1 (done ++ r.0 ∷ [])
next_rule rest done (Err fault) = Err fault

-- the rules from this number on, or the first fault
abbrev pub rules_from : List Bytes → Items → ℕ → List Pattern → List Rule → Result (List Rule × List Pattern) RulesFault
rules_from names no_items n pool done = Ok (done, pool)
rules_from names (item d ds) n pool done = next_rule (rules_from names ds (n + 1)) done (rule_by n names pool (as_table d))
