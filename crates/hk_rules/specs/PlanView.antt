-- The plan as plain data.
use Rattle.std.specs.Prelude.{◌≡◌, ◌≤◌, List, Option, length}
use Rattle.std.specs.Map.{keys_of}
use Rattle.std.specs.List.Sorted.{IsStrictlySortedBy}
use Rattle.hk_base.specs.Bytes.{Bytes}
use Rattle.hk_base.specs.Identifier.{Ident, ident_cmp}
use Rattle.hk_chain.specs.Context.{ContextView}
use Rattle.hk_meta.specs.declared.answer.Split.{Split}
use Rattle.hk_pattern.specs.declared.pattern.Pattern.{Pattern}
use Rattle.hk_rules.specs.declared.owner.Owner.{Owner}
use Rattle.hk_rules_file.specs.declared.tables.FeedRule.{FeedRule}

-- the items in identifier order, and beside them their headers and their targets; the feeds are made of their pages
pub record PlanView : Type 0 where
  pub items : List (Ident × Owner)
  pub headers : List Split
  pub targets : List (Option Bytes)
  pub contexts : List ContextView
  pub patterns : List Pattern
  pub feeds : List FeedRule

-- the identifiers ascend, and each item has a header and a place for its target
pub record IsPlan (plan : PlanView) : Type 0 where
  pub sorted : IsStrictlySortedBy ident_cmp (keys_of plan.items)
  pub few : length plan.items ≤ 65535
  pub headed : length plan.headers ≡ length plan.items
  pub routed : length plan.targets ≡ length plan.items
