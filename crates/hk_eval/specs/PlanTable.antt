-- A plan as a table of names.
use Rattle.std.specs.Prelude.{◌≡◌, ℕ, ◌<◌, map, List, Some, option_map, bytes_eq}
use Rattle.std.specs.List.{AllByRecursion, IsDistinct, position_from}
use Rattle.std.specs.Option.{option_and_then, unwrap_or}
use Rattle.std.specs.Ordering.{eq_by_cmp}
use Rattle.hk_base.specs.Bytes.{Bytes}
use Rattle.hk_base.specs.Identifier.{Ident, ident_cmp}
use Rattle.hk_fix.specs.Table.{Key, Traits, no_traits, Table}
use Rattle.hk_rules.specs.Pairs.{layout}
use Rattle.hk_rules.specs.PatternText.{text_of}
use Rattle.hk_rules.specs.Plan.{id_at, header_at, target_at, find_in, pair_of, pair_owner, pair_name_of, matches_in, pattern_at, Lookups}
use Rattle.hk_rules.specs.PlanView.{PlanView}

abbrev pub traits_at : PlanView → ℕ → Traits
traits_at plan item = record { target = target_at plan item; meta = (header_at plan item).meta }

abbrev pub pattern_texts : PlanView → List Bytes
pattern_texts plan = map text_of plan.patterns

-- the first pattern with a text
abbrev pub number_of : PlanView → Bytes → ℕ
number_of plan by = unwrap_or (position_from (λ own. bytes_eq own by) 0 (pattern_texts plan)) 0

unfoldable pub table_of : PlanView → Table
table_of plan =
    record {
      layout = layout plan.items;
      find = find_in plan.items;
      traits = λ id. unwrap_or (option_map (traits_at plan) (find_in plan.items id)) no_traits;
      pair = λ key. option_and_then (λ item. pair_of plan item key.name) (find_in plan.items key.id);
      key = λ pair. record { id = id_at plan (pair_owner plan pair); name = pair_name_of plan pair };
      number = number_of plan;
      pattern = λ n. text_of (pattern_at plan n);
      matches = λ by. map (id_at plan) (matches_in plan.items (pattern_at plan (number_of plan by)));
    }

-- a table tells by names what a plan with so many items and patterns tells by numbers
pub record IsTableOf (plan : Lookups) (items patterns : ℕ) (table : Table) : Type 0 where
  pub find : (id : Ident) → table.find id ≡ plan.find id
  pub pair : (key : Key) → table.pair key ≡ option_and_then (λ item. plan.pair item key.name) (plan.find key.id)
  -- an item is found by its identifier
  pub found : (item : ℕ) → item < items → plan.find (plan.id item) ≡ Some item
  pub traits : (item : ℕ) → item < items → table.traits (plan.id item) ≡ record { target = plan.target_of item; meta = plan.meta item }
  -- and a pattern by its text
  pub number : (n : ℕ) → n < patterns → table.number (text_of (plan.pattern n)) ≡ n
  pub pattern : (n : ℕ) → n < patterns → table.pattern n ≡ text_of (plan.pattern n)
  pub matches : (n : ℕ) → n < patterns → table.matches (text_of (plan.pattern n)) ≡ map plan.id (plan.matches n)
  pub matched : (n : ℕ) → AllByRecursion (λ item. item < items) (plan.matches n)
  -- no two items that are matched have one identifier
  pub apart : (by : Bytes) → IsDistinct (eq_by_cmp ident_cmp) (table.matches by)
