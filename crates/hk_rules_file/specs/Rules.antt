-- Rules as plain data.
use Rattle.std.specs.Prelude.{List}
use Rattle.hk_chain.specs.Context.{ContextView}
use Rattle.hk_pattern.specs.declared.pattern.Pattern.{Pattern}
use Rattle.hk_rules_file.specs.declared.rules.Rule.{Rule}
use Rattle.hk_rules_file.specs.declared.tables.FeedRule.{FeedRule}
use Rattle.hk_rules_file.specs.declared.tables.PageRule.{PageRule}
use Rattle.hk_rules_file.specs.declared.tables.TagRule.{TagRule}

pub record RulesView : Type 0 where
  pub rules : List Rule
  pub contexts : List ContextView
  pub patterns : List Pattern
  pub tags : List TagRule
  pub pages : List PageRule
  pub feeds : List FeedRule
