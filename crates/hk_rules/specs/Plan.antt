-- What is looked up in a plan.
use Rattle.std.specs.Prelude.{ℕ, Bool, List, [], length, filter, Option, None, option_map}
use Rattle.std.specs.List.{slice_index_or, position_from, range_with_len}
use Rattle.std.specs.Option.{option_and_then}
use Rattle.std.specs.Ordering.{is_eq}
use Rattle.hk_base.specs.Bytes.{Bytes}
use Rattle.hk_base.specs.Identifier.{Ident, ident_cmp}
use Rattle.hk_chain.specs.Context.{ContextView}
use Rattle.hk_chain.specs.Layout.{Shape, item_of, final_of}
use Rattle.hk_chain.specs.declared.chain.Step.{Step}
use Rattle.hk_meta.specs.Metadata.{Pairs}
use Rattle.hk_meta.specs.declared.answer.Split.{Split}
use Rattle.hk_pattern.specs.declared.pattern.Pattern.{Pattern}
use Rattle.hk_pattern.specs.declared.pattern.Pattern.TheVariants.{HasNoVersion}
use Rattle.hk_pattern.specs.Pattern as pattern
use Rattle.hk_rules_file.specs.declared.rules.Rule.{Rule}
use Rattle.hk_rules_file.specs.declared.rules.RuleSource.TheVariants.{Create}
use Rattle.hk_rules.specs.declared.source_file.SourceFile.{SourceFile}
use Rattle.hk_rules.specs.declared.owner.Owner.{Owner}
use Rattle.hk_rules.specs.Pairs.{layout, pair_at, name_before}
use Rattle.hk_rules.specs.PlanView.{PlanView}

-- what stands for an item past the last one
abbrev pub no_ident : Ident
no_ident = record { path = []; version = None }

abbrev pub no_rule : Rule
no_rule = record { source = Create []; version = None; route = None; chain = [] }

abbrev pub no_item : Ident × Owner
no_item = (no_ident, record { rule = no_rule; source = None })

abbrev pub no_header : Split
no_header = record { meta = []; body_start = 0 }

abbrev pub no_context : ContextView
no_context = record { name = []; fields = [] }

abbrev pub item_at : PlanView → ℕ → Ident × Owner
item_at plan item = slice_index_or plan.items item no_item

abbrev pub id_at : PlanView → ℕ → Ident
id_at plan item = (item_at plan item).0

abbrev pub chain_at : PlanView → ℕ → List Step
chain_at plan item = (item_at plan item).1.rule.chain

abbrev pub header_at : PlanView → ℕ → Split
header_at plan item = slice_index_or plan.headers item no_header

abbrev pub target_at : PlanView → ℕ → Option Bytes
target_at plan item = slice_index_or plan.targets item None

abbrev pub text_of : SourceFile → Bytes
text_of source = source.text

abbrev pub companion_of : SourceFile → Option Bytes
companion_of source = source.companion

abbrev pub resource_at : PlanView → ℕ → Option Bytes
resource_at plan item = option_map text_of (item_at plan item).1.source

abbrev pub companion_at : PlanView → ℕ → Option Bytes
companion_at plan item = option_and_then companion_of (item_at plan item).1.source

-- the number of the item with an identifier
abbrev pub find_in : List (Ident × Owner) → Ident → Option ℕ
find_in items id = position_from (λ item. is_eq (ident_cmp id item.0)) 0 items

abbrev pub last_pair : PlanView → ℕ → ℕ
last_pair plan item = final_of (layout plan.items) item

abbrev pub pair_of : PlanView → ℕ → Bytes → Option ℕ
pair_of plan item name = pair_at (last_pair plan item) (chain_at plan item) name

abbrev pub pair_owner : PlanView → ℕ → ℕ
pair_owner plan pair = item_of (layout plan.items) pair

abbrev pub pair_name_of : PlanView → ℕ → Bytes
pair_name_of plan pair = name_before (last_pair plan (pair_owner plan pair)) (chain_at plan (pair_owner plan pair)) pair

abbrev pub pattern_at : PlanView → ℕ → Pattern
pattern_at plan number = slice_index_or plan.patterns number HasNoVersion

abbrev pub context_at : PlanView → ℕ → ContextView
context_at plan number = slice_index_or plan.contexts number no_context

-- whether a pattern matches an item
abbrev pub is_match : List (Ident × Owner) → Pattern → ℕ → Bool
is_match items by item = pattern.matches by (slice_index_or items item no_item).0.path (slice_index_or items item no_item).0.version

-- the numbers of the items that a pattern matches, in order
abbrev pub matches_in : List (Ident × Owner) → Pattern → List ℕ
matches_in items by = filter (is_match items by) (range_with_len 0 (length items))

-- what a plan tells
pub record Lookups : Type 0 where
  pub count : ℕ
  pub layout : Shape
  pub id : ℕ → Ident
  pub find : Ident → Option ℕ
  pub chain : ℕ → List Step
  pub target_of : ℕ → Option Bytes
  pub resource : ℕ → Option Bytes
  pub companion : ℕ → Option Bytes
  pub body_start : ℕ → ℕ
  pub meta : ℕ → Pairs
  pub pair : ℕ → Bytes → Option ℕ
  pub pair_name : ℕ → Bytes
  pub context : ℕ → ContextView
  pub pattern : ℕ → Pattern
  pub matches : ℕ → List ℕ

unfoldable pub lookups : PlanView → Lookups
lookups plan =
    record {
      count = length plan.items;
      layout = layout plan.items;
      id = id_at plan;
      find = find_in plan.items;
      chain = chain_at plan;
      target_of = target_at plan;
      resource = resource_at plan;
      companion = companion_at plan;
      body_start = λ item. (header_at plan item).body_start;
      meta = λ item. (header_at plan item).meta;
      pair = pair_of plan;
      pair_name = pair_name_of plan;
      context = context_at plan;
      pattern = pattern_at plan;
      matches = λ number. matches_in plan.items (pattern_at plan number);
    }
