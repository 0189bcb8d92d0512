use Rattle.std.proofs.Common.{◌≡◌, ℕ, ◌-◌, length}
use Rattle.hk_rules.specs.Plan.{lookups}
use Rattle.hk_rules.specs.Recipe.{reached_by}
use Rattle.hk_store.proofs.reached.reached.Given as goal

-- they are reached by so many rounds
abbrev pub invariant-loop-numbers : goal.invariant-loop-numbers
invariant-loop-numbers l = (times : ℕ) × (l.numbers.items ≡ reached_by (lookups l.plan) (length l.plan.contexts) l.steps times)

abbrev pub decreases-loop-numbers : goal.decreases-loop-numbers
decreases-loop-numbers l = length l.plan.contexts - length l.numbers.items
