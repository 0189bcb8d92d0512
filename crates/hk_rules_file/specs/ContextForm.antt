-- The contexts of a file, with the one that is built in at its place.
use Rattle.std.specs.Prelude.{ℕ, ◌-◌, nat_le, Bool, ◌&&◌, not, List, [], ◌∷◌, ◌++◌, map, Option, Some, None, Result, Ok, bytes_eq, if◌then◌else◌}
use Rattle.std.specs.List.{fold}
use Rattle.std.specs.Ordering.{nat_cmp, is_lt}
use Rattle.std.specs.Cmp.Lexicographic.{slice_cmp}
use Rattle.toml.specs.Data.{Data, Members, no_members, member}
use Rattle.hk_base.specs.Bytes.{Bytes}
use Rattle.hk_chain.specs.Context.{ContextView}
use Rattle.hk_chain.specs.declared.context.Field.{Field}
use Rattle.hk_pattern.specs.declared.pattern.Pattern.{Pattern}
use Rattle.hk_forms.specs.Names.{is_context_name}
use Rattle.hk_steps.specs.StepForm.{default_name}
use Rattle.hk_steps.specs.FieldForm.{context_fields}
use Rattle.hk_rules_file.specs.Numbering.{with_name}
use Rattle.hk_rules_file.specs.Linking.{link_fields, default_fields}
use Rattle.hk_rules_file.specs.TableForm.{required, and_then}
use Rattle.hk_steps.specs.declared.draft.DraftField.{DraftField}
use Rattle.hk_rules_file.specs.declared.fault.RulesFault.{RulesFault}
use Rattle.hk_rules_file.specs.declared.fault.RulesFault.TheVariants.{BadContext}

-- ---- which contexts a file has

-- a context of a file: the one that is built in, or one that is written under a name, where so many more may stand
pub data FileContext : Type 0 where
  built_in : FileContext
  written : Bytes → ℕ → Data → FileContext

abbrev pub name_in : FileContext → Bytes
name_in built_in = default_name
name_in (written name room d) = name

-- how many contexts a file may write
abbrev pub most_contexts : ℕ
most_contexts = 256

-- those that a table writes, in its order, where so many may stand
abbrev pub written_in : ℕ → Members → List FileContext
written_in room no_members = []
written_in room (member name d ms) = written name room d ∷ written_in (room - 1) ms

-- whether a name stands before that of the context that is built in
unfoldable pub is_early : Bytes → Bool
is_early name = is_lt (slice_cmp nat_cmp name default_name)

-- contexts with the one that is built in before the first whose name isn't before its own
abbrev pub with_built_in : List FileContext → List FileContext
with_built_in [] = built_in ∷ []
with_built_in (c ∷ cs) = if is_early (name_in c) then c ∷ with_built_in cs else built_in ∷ c ∷ cs

-- all contexts in order: a table's keys ascend
unfoldable pub listed : Members → List FileContext
listed ms = with_built_in (written_in most_contexts ms)

abbrev pub names_in : List FileContext → List Bytes
names_in cs = map name_in cs

-- their names, each once
abbrev pub names_of : Members → List Bytes
names_of ms = fold with_name [] (names_in (listed ms))

-- ---- what they are read as

-- whether a context of this name may stand where so many more may stand
abbrev pub may_define : ℕ → Bytes → Bool
may_define room name = (nat_le 1 room && is_context_name name) && not (bytes_eq name default_name)

abbrev pub named : Bytes → Option (List Field × List Pattern) → Option (ContextView × List Pattern)
named name (Some r) = Some (record { name = name; fields = r.0 }, r.1)
named name None = None

abbrev pub linked : List Bytes → List Pattern → Bytes → Option (List DraftField) → Option (ContextView × List Pattern)
linked names pool name (Some drafts) = named name (link_fields names drafts pool [])
linked names pool name None = None

-- the context that a value is, and the patterns then
abbrev pub context_of : List Bytes → ℕ → List Pattern → Bytes → Data → Option (ContextView × List Pattern)
context_of names room pool name d = if may_define room name then linked names pool name (context_fields d) else None

abbrev pub default_context : ContextView
default_context = record { name = default_name; fields = default_fields }

-- what a context of the file is read as, and the patterns then
abbrev pub context_in : List Bytes → List Pattern → FileContext → Result (ContextView × List Pattern) RulesFault
context_in names pool built_in = Ok (default_context, pool)
context_in names pool (written name room d) = required (BadContext name) (context_of names room pool name d)

-- the contexts that are done with these, and the patterns that they use, or the first that is bad
abbrev pub contexts_from : List Bytes → List FileContext → List Pattern → List ContextView → Result (List ContextView × List Pattern) RulesFault
contexts_from names [] pool done = Ok (done, pool)
contexts_from names (c ∷ cs) pool done = and_then (context_in names pool c) (λ r. contexts_from names cs r.1 (done ++ r.0 ∷ []))

-- the contexts of a table in the order of their names
abbrev pub contexts_in : List Bytes → Members → Result (List ContextView × List Pattern) RulesFault
contexts_in names ms = contexts_from names (listed ms) [] []
