-- The patterns of a rules file are numbered in the order of their first use.
use Rattle.std.specs.Prelude.{◌≡◌, ◌<◌, ℕ, suc, ◌⊎◌, List, [], ◌∷◌, ◌++◌, length, Result, Ok}
use Rattle.std.specs.List.{flat_map}
use Rattle.hk_base.specs.Bytes.{Bytes}
use Rattle.hk_chain.specs.Context.{ContextView}
use Rattle.hk_chain.specs.declared.chain.Step.{Step}
use Rattle.hk_chain.specs.declared.chain.Step.TheVariants.{Concat}
use Rattle.hk_chain.specs.declared.context.Field.{Field}
use Rattle.hk_chain.specs.declared.context.Field.TheVariants.{List as ListField}
use Rattle.hk_rules_file.specs.Rules.{RulesView}
use Rattle.hk_rules_file.specs.declared.fault.RulesFault.{RulesFault}
use Rattle.hk_rules_file.specs.declared.rules.Rule.{Rule}
use Rattle.hk_rules_file.specs.declared.tables.PageRule.{PageRule}
use Rattle.hk_rules_file.specs.declared.tables.TagRule.{TagRule}

-- the numbers of patterns in a step and in a field
abbrev pub in_step : Step → List ℕ
in_step (Concat number) = number ∷ []
in_step _ = []

abbrev pub in_field : Field → List ℕ
in_field (ListField key number snapshot order limit context) = number ∷ []
in_field _ = []

abbrev pub in_context : ContextView → List ℕ
in_context context = flat_map in_field context.fields

abbrev pub in_rule : Rule → List ℕ
in_rule rule = flat_map in_step rule.chain

abbrev pub in_tags : TagRule → List ℕ
in_tags tags = flat_map in_step tags.chain

abbrev pub in_pages : PageRule → List ℕ
in_pages pages = flat_map in_step pages.chain

-- all of them in order: the contexts, the rules, and the chains of the tables
abbrev pub used_numbers : RulesView → List ℕ
used_numbers rules =
    flat_map in_context rules.contexts ++ (flat_map in_rule rules.rules ++ (flat_map in_tags rules.tags ++ flat_map in_pages rules.pages))

-- where so many numbers were used before, each is one of these or the next, and so many were used in the end
abbrev pub AreByFirstUse : ℕ → List ℕ → ℕ → Type 0
AreByFirstUse before [] all = before ≡ all
AreByFirstUse before (number ∷ numbers) all =
    ((number < before) × AreByFirstUse before numbers all) ⊎ ((number ≡ before) × AreByFirstUse (suc before) numbers all)

-- each pattern is used, and none before one of a lesser number
abbrev pub NumbersByFirstUse : (Bytes → Result RulesView RulesFault) → Type 0
NumbersByFirstUse read = (bytes : Bytes) (rules : RulesView) → read bytes ≡ Ok rules → AreByFirstUse 0 (used_numbers rules) (length rules.patterns)
