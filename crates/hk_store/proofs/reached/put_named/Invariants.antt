use Rattle.std.proofs.Common.{◌≡◌, drop}
use Rattle.std.specs.List.{flat_map}
use Rattle.hk_rules.specs.Recipe.{step_contexts}
use Rattle.hk_store.specs.Reached.{puts}
use Rattle.hk_store.proofs.reached.put_named.Given as goal

-- the rest gives all
abbrev pub invariant-loop-step : goal.invariant-loop-step
invariant-loop-step l = puts l.numbers.items (flat_map step_contexts (drop l.step-index l.steps)) ≡ puts l.fn.numbers.items (flat_map step_contexts l.steps)
