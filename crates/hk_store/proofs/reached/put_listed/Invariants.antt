use Rattle.std.proofs.Common.{◌≡◌, drop}
use Rattle.std.specs.List.{flat_map}
use Rattle.hk_rules.specs.Plan.{lookups}
use Rattle.hk_rules.specs.Recipe.{list_contexts}
use Rattle.hk_store.specs.Reached.{puts}
use Rattle.hk_store.proofs.reached.put_listed.Given as goal

-- the rest gives all
abbrev pub invariant-loop-number : goal.invariant-loop-number
invariant-loop-number l = puts l.numbers.items (flat_map (list_contexts (lookups l.plan)) (drop l.number-index l.named)) ≡ puts l.fn.numbers.items (flat_map (list_contexts (lookups l.plan)) l.named)
