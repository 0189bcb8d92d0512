-- Rules whose contexts are numbered in the order of their names.
use Rattle.std.specs.Prelude.{ℕ, Bool, List, length, map, filter, unwrap_or}
use Rattle.std.specs.List.{slice_get}
use Rattle.std.specs.Ordering.{nat_cmp, is_lt}
use Rattle.std.specs.Cmp.Lexicographic.{slice_cmp}
use Rattle.hk_base.specs.Bytes.{Bytes}
use Rattle.hk_chain.specs.Context.{ContextView}
use Rattle.hk_chain.specs.declared.chain.Step.{Step}
use Rattle.hk_chain.specs.declared.chain.Step.TheVariants.{Apply, SelfApply}
use Rattle.hk_chain.specs.declared.context.Field.{Field}
use Rattle.hk_chain.specs.declared.context.Field.TheVariants.{List as ListField}
use Rattle.hk_rules_file.specs.Linked.{context_names}
use Rattle.hk_rules_file.specs.declared.rules.Rule.{Rule}
use Rattle.hk_tags.specs.Growing.{GrowingView}
use Rattle.hk_chain.specs.Sorting.{sorted_by}

abbrev pub comes_before : Bytes → Bytes → Bool
comes_before a b = is_lt (slice_cmp nat_cmp a b)

abbrev pub is_named_before : ContextView → ContextView → Bool
is_named_before a b = comes_before a.name b.name

abbrev pub is_before : Bytes → ContextView → Bool
is_before name context = comes_before context.name name

-- the contexts in the order of their names
abbrev pub by_name : List ContextView → List ContextView
by_name contexts = sorted_by is_named_before contexts

-- the number of a name: how many contexts have a name before it
abbrev pub number_of : List ContextView → Bytes → ℕ
number_of contexts name = length (filter (is_before name) contexts)

-- for each context so far its number in the order
abbrev pub numbers_of : List ContextView → List ℕ
numbers_of contexts = map (number_of contexts) (context_names contexts)

-- the number for one so far; that of no context stays
abbrev pub new_number : List ℕ → ℕ → ℕ
new_number numbers number = unwrap_or (slice_get numbers number) number

abbrev pub step_by : List ℕ → Step → Step
step_by numbers (Apply id context) = Apply id (new_number numbers context)
step_by numbers (SelfApply context) = SelfApply (new_number numbers context)
step_by numbers step = step

abbrev pub field_by : List ℕ → Field → Field
field_by numbers (ListField key of snapshot order limit context) = ListField key of snapshot order limit (new_number numbers context)
field_by numbers field = field

abbrev pub rule_by : List ℕ → Rule → Rule
rule_by numbers rule = record { source = rule.source; version = rule.version; route = rule.route; chain = map (step_by numbers) rule.chain }

abbrev pub context_by : List ℕ → ContextView → ContextView
context_by numbers context = record { name = context.name; fields = map (field_by numbers) context.fields }

abbrev pub renumbered : List ℕ → GrowingView → GrowingView
renumbered numbers growing =
    record {
      rules = map (rule_by numbers) growing.rules;
      contexts = map (context_by numbers) (by_name growing.contexts);
      patterns = growing.patterns;
    }

-- the same rules with the contexts in the order of their names; what names them by number follows
unfoldable pub in_name_order : GrowingView → GrowingView
in_name_order growing = renumbered (numbers_of growing.contexts) growing
