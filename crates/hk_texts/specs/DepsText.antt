-- The text of what each item asked for and which patterns it used. Each line ends with LF.
use Rattle.std.specs.Prelude.{◌≡◌, ℕ, zero, suc, ◌+◌, ◌<◌, List, [], ◌∷◌, ◌++◌, length, codes, All, Option, Some, None}
use Rattle.std.specs.List.{flat_map}
use Rattle.std.specs.Fmt.{decimal}
use Rattle.hk_base.specs.Bytes.{Bytes}
use Rattle.hk_chain.specs.Facts.{FactsView}
use Rattle.hk_fix.specs.Fix.{Ending, finished, faulted, waiting}
use Rattle.hk_fix.specs.Report.{ending_at}
use Rattle.hk_rules.specs.Plan.{Lookups}
use Rattle.hk_texts.specs.Printed.{end_of_line}
use Rattle.hk_texts.specs.ReportText.{item_text, pair_text}

-- the facts of an item that is done
abbrev pub facts_by : Ending → Option FactsView
facts_by (finished facts) = Some facts
facts_by (faulted fault) = None
facts_by (waiting pairs) = None

module _ (plan : Lookups) where
  abbrev pub loads_line : ℕ → Bytes
  loads_line pair = codes "  loads " ++ (pair_text plan pair ++ end_of_line)

  -- a pattern by its place among those of its item, from 1, with the number of items that it matches
  abbrev pub pattern_line : ℕ → ℕ → Bytes
  pattern_line place pattern = codes "  pattern " ++ (decimal place ++ (codes ": " ++ (decimal (length (plan.matches pattern)) ++ codes " matches\n")))

  -- patterns with so many before them
  abbrev pub pattern_lines : ℕ → List ℕ → Bytes
  pattern_lines before [] = []
  pattern_lines before (pattern ∷ patterns) = pattern_line (before + 1) pattern ++ pattern_lines (before + 1) patterns

  abbrev pub facts_lines : FactsView → Bytes
  facts_lines facts = flat_map loads_line facts.asks ++ pattern_lines 0 facts.patterns

  abbrev pub used_lines : Option FactsView → Bytes
  used_lines None = []
  used_lines (Some facts) = facts_lines facts

  -- an item with what it used
  abbrev pub item_lines : List Ending → ℕ → Bytes
  item_lines endings item = item_text plan item ++ (end_of_line ++ used_lines (facts_by (ending_at endings item)))

  -- the first items
  abbrev pub first_lines : List Ending → ℕ → Bytes
  first_lines endings zero = []
  first_lines endings (suc item) = first_lines endings item ++ item_lines endings item

-- all items, in order
abbrev pub deps_text : Lookups → ℕ → List Ending → Bytes
deps_text plan items endings = first_lines plan endings items

-- facts in the numbers of a plan's pairs and patterns
pub record AreWithin (pair_count pattern_count : ℕ) (facts : FactsView) : Type 0 where
  pub asks : All (λ pair. pair < pair_count) facts.asks
  pub patterns : All (λ pattern. pattern < pattern_count) facts.patterns

-- the facts of all items that are done are
abbrev pub CanTell : ℕ → ℕ → ℕ → List Ending → Type 0
CanTell item_count pair_count pattern_count endings =
    (item : ℕ) (facts : FactsView) → item < item_count → facts_by (ending_at endings item) ≡ Some facts → AreWithin pair_count pattern_count facts
