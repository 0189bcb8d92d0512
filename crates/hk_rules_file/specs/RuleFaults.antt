-- The number in a refusal of a rules file is that of the first bad rule, or of the first bad table of its kind.
use Rattle.std.specs.Prelude.{◌≡◌, ℕ, ◌+◌, true, Ok, Err}
use Rattle.toml.specs.Data.{Data, Items, no_items, item, Members}
use Rattle.hk_forms.specs.Members.{count_items}
use Rattle.hk_rules_file.specs.Rules.{RulesView}
use Rattle.hk_rules_file.specs.RulesForm.{Read, are_tables, parts_in}
use Rattle.hk_rules_file.specs.declared.fault.RulesFault.{RulesFault}
use Rattle.hk_rules_file.specs.declared.fault.RulesFault.TheVariants.{TooLong, NotToml, BadRule, TooManyRules, BadContext, DoubleSnapshot, UnknownContext, BadTags, BadPaginate, BadFeed}

abbrev pub joined_items : Items → Items → Items
joined_items no_items more = more
joined_items (item d ds) more = item d (joined_items ds more)

-- what stands before the one of this number is accepted, and with it it is refused so
pub record IsFirstBad (read : Items → Read) (items : Items) (number : ℕ) (fault : RulesFault) : Type 0 where
  pub before : Items
  pub bad : Data
  pub after : Items
  pub same : items ≡ joined_items before (item bad after)
  pub place : number ≡ count_items before + 1
  pub accepted : (rules : RulesView) × (read before ≡ Ok rules)
  pub refused : read (joined_items before (item bad no_items)) ≡ Err fault

-- a fault of a rule is that of the first bad one, whatever comes after the rules; so of the tables for tags after the
-- rules, of those for pages after these, and of the feeds after all
abbrev pub TellsFirst : Members → Items → Items → Items → Items → RulesFault → Type 0
TellsFirst contexts rules tags pages feeds TooLong = Unit {0}
TellsFirst contexts rules tags pages feeds NotToml = Unit {0}
TellsFirst contexts rules tags pages feeds TooManyRules = Unit {0}
TellsFirst contexts rules tags pages feeds (BadContext name) = Unit {0}
TellsFirst contexts rules tags pages feeds (BadRule n word) = IsFirstBad (λ ds. parts_in contexts ds no_items no_items no_items) rules n (BadRule n word)
TellsFirst contexts rules tags pages feeds (DoubleSnapshot n name) = IsFirstBad (λ ds. parts_in contexts ds no_items no_items no_items) rules n (DoubleSnapshot n name)
TellsFirst contexts rules tags pages feeds (UnknownContext n name) = IsFirstBad (λ ds. parts_in contexts ds no_items no_items no_items) rules n (UnknownContext n name)
TellsFirst contexts rules tags pages feeds (BadTags n word) = IsFirstBad (λ ds. parts_in contexts rules ds no_items no_items) tags n (BadTags n word)
TellsFirst contexts rules tags pages feeds (BadPaginate n word) = IsFirstBad (λ ds. parts_in contexts rules tags ds no_items) pages n (BadPaginate n word)
TellsFirst contexts rules tags pages feeds (BadFeed n word) = IsFirstBad (λ ds. parts_in contexts rules tags pages ds) feeds n (BadFeed n word)

-- arrays of tables
pub record AreTables (rules tags pages feeds : Items) : Type 0 where
  pub rules_are : are_tables rules ≡ true
  pub tags_are : are_tables tags ≡ true
  pub pages_are : are_tables pages ≡ true
  pub feeds_are : are_tables feeds ≡ true

abbrev pub NumbersTellRules : Type 0
NumbersTellRules =
    (contexts : Members) (rules tags pages feeds : Items) (fault : RulesFault) → AreTables rules tags pages feeds
    → parts_in contexts rules tags pages feeds ≡ Err fault → TellsFirst contexts rules tags pages feeds fault
