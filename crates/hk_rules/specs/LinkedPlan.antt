-- Plans whose numbers are in range, and whose names differ.
use Rattle.std.specs.Prelude.{ℕ, ◌-◌, List, length}
use Rattle.std.specs.List.{AllByRecursion, range_with_len}
use Rattle.hk_chain.specs.Context.{ContextView}
use Rattle.hk_pattern.specs.declared.pattern.Pattern.{Pattern}
use Rattle.hk_rules_file.specs.Linked.{IsLinkedChain, AreLinked}
use Rattle.hk_rules.specs.Pairs.{saves}
use Rattle.hk_rules.specs.Plan.{chain_at, last_pair}
use Rattle.hk_rules.specs.PlanView.{PlanView}
use Rattle.hk_rules.specs.Universe.{Claim}

-- each item's chain is linked to these contexts and patterns, and so are the contexts
pub record AreLinkedItems (contexts : List ContextView) (patterns : List Pattern) (items : List Claim) : Type 0 where
  pub chains : AllByRecursion (λ item. IsLinkedChain (length contexts) (length patterns) item.1.rule.chain) items
  pub named : AreLinked contexts patterns

-- the numbers in each item's chain and in the contexts are in range, and names differ
pub record IsLinkedPlan (plan : PlanView) : Type 0 where
  pub chains : AllByRecursion (λ item. IsLinkedChain (length plan.contexts) (length plan.patterns) item.1.rule.chain) plan.items
  pub named : AreLinked plan.contexts plan.patterns

-- how many pages an item saves on its way
abbrev pub save_count : PlanView → ℕ → ℕ
save_count plan item = length (saves (chain_at plan item))

-- the pairs under which an item saves them, in order
abbrev pub snapshots_of : PlanView → ℕ → List ℕ
snapshots_of plan item = range_with_len (last_pair plan item - save_count plan item) (save_count plan item)
