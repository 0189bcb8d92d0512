-- Steps and fields, with numbers in place of the contexts and the patterns that they name.
use Rattle.std.specs.Prelude.{ℕ, Bool, false, List, [], ◌∷◌, ◌++◌, Option, Some, None, Result, Ok, Err, bytes_eq, if◌then◌else◌}
use Rattle.std.specs.List.{list_any}
use Rattle.hk_base.specs.Bytes.{Bytes}
use Rattle.hk_base.specs.Identifier.{Ident}
use Rattle.hk_chain.specs.declared.chain.Step.{Step}
use Rattle.hk_chain.specs.declared.chain.Step.TheVariants.{Concat, Apply, SelfApply}
use Rattle.hk_chain.specs.declared.context.Order.{Order}
use Rattle.hk_chain.specs.declared.context.Field.{Field}
use Rattle.hk_chain.specs.declared.context.Field.TheVariants.{Body, Metadata, Url, Path, Title, List as ListField}
use Rattle.hk_pattern.specs.declared.pattern.Pattern.{Pattern}
use Rattle.hk_rules_file.specs.Numbering.{place_of, numbered}
use Rattle.hk_rules_file.specs.Saves.{saved}
use Rattle.hk_steps.specs.declared.draft.DraftStep.{DraftStep}
use Rattle.hk_steps.specs.declared.draft.DraftStep.TheVariants.{Ready, Concat as DraftConcat, Apply as DraftApply, SelfApply as DraftSelf}
use Rattle.hk_steps.specs.declared.draft.DraftField.{DraftField}
use Rattle.hk_steps.specs.declared.draft.DraftField.TheVariants.{Default, Whole, Several}
use Rattle.hk_rules_file.specs.declared.fault.RulesFault.{RulesFault}
use Rattle.hk_rules_file.specs.declared.fault.RulesFault.TheVariants.{DoubleSnapshot, UnknownContext}

-- ---- steps

abbrev pub is_named : Bytes → Option Bytes → Bool
is_named name (Some other) = bytes_eq other name
is_named name None = false

-- whether a step saves under a name
abbrev pub saves_as : Bytes → Step → Bool
saves_as name step = is_named name (saved step)

-- what a step is read as, with the patterns then
abbrev pub Linked : Type 0
Linked = Result (Step × List Pattern) RulesFault

-- a step that saves, by whether an earlier one saved under the name
abbrev pub saving : ℕ → List Pattern → Step → Bytes → Bool → Linked
saving n pool step name again = if again then Err (DoubleSnapshot n name) else Ok (step, pool)

abbrev pub ready_by : ℕ → List Pattern → List Step → Step → Option Bytes → Linked
ready_by n pool done step (Some name) = saving n pool step name (list_any (saves_as name) done)
ready_by n pool done step None = Ok (step, pool)

abbrev pub concat_step : ℕ × List Pattern → Step × List Pattern
concat_step r = (Concat r.0, r.1)

abbrev pub apply_step : ℕ → List Pattern → Ident → Bytes → Option ℕ → Linked
apply_step n pool id name (Some context) = Ok (Apply id context, pool)
apply_step n pool id name None = Err (UnknownContext n name)

abbrev pub self_step : ℕ → List Pattern → Bytes → Option ℕ → Linked
self_step n pool name (Some context) = Ok (SelfApply context, pool)
self_step n pool name None = Err (UnknownContext n name)

-- a step of the rule with this number, among these contexts and patterns, after the steps that are done
abbrev pub link_step : ℕ → List Bytes → List Pattern → List Step → DraftStep → Linked
link_step n names pool done (Ready step) = ready_by n pool done step (saved step)
link_step n names pool done (DraftConcat pattern) = Ok (concat_step (numbered pool pattern))
link_step n names pool done (DraftApply id name) = apply_step n pool id name (place_of name names)
link_step n names pool done (DraftSelf name) = self_step n pool name (place_of name names)

abbrev pub next_step : (List Pattern → List Step → Result (List Step × List Pattern) RulesFault) → List Step → Linked → Result (List Step × List Pattern) RulesFault
next_step rest done (Ok r) = rest r.1 (done ++ r.0 ∷ [])
next_step rest done (Err fault) = Err fault

-- the steps in order, or the first fault
abbrev pub link_steps : ℕ → List Bytes → List DraftStep → List Pattern → List Step → Result (List Step × List Pattern) RulesFault
link_steps n names [] pool done = Ok (done, pool)
link_steps n names (draft ∷ drafts) pool done = next_step (link_steps n names drafts) done (link_step n names pool done draft)

-- ---- fields

-- the fields of the context that is built in
abbrev pub default_fields : List Field
default_fields = Body ∷ Metadata ∷ Url ∷ Path ∷ Title ∷ []

abbrev pub list_field : List Field → ℕ × List Pattern → Bytes → Bytes → Order → Option ℕ → Option ℕ → Option (List Field × List Pattern)
list_field done r key snapshot order limit (Some context) = Some (done ++ ListField key r.0 snapshot order limit context ∷ [], r.1)
list_field done r key snapshot order limit None = None

-- the fields that are done with those of one more member, where its context is one of these
abbrev pub link_field : List Bytes → List Pattern → List Field → DraftField → Option (List Field × List Pattern)
link_field names pool done Default = Some (done ++ default_fields, pool)
link_field names pool done (Whole field) = Some (done ++ field ∷ [], pool)
link_field names pool done (Several key of snapshot order limit context) = list_field done (numbered pool of) key snapshot order limit (place_of context names)

abbrev pub next_field : (List Pattern → List Field → Option (List Field × List Pattern)) → Option (List Field × List Pattern) → Option (List Field × List Pattern)
next_field rest (Some r) = rest r.1 r.0
next_field rest None = None

abbrev pub link_fields : List Bytes → List DraftField → List Pattern → List Field → Option (List Field × List Pattern)
link_fields names [] pool done = Some (done, pool)
link_fields names (draft ∷ drafts) pool done = next_field (link_fields names drafts) (link_field names pool done draft)
