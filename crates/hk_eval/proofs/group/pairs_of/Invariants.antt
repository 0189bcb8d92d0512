use Rattle.std.proofs.Common.{◌≡◌, drop}
use Rattle.hk_rules.specs.Plan.{lookups}
use Rattle.hk_eval.specs.Asking.{pairs_of}
use Rattle.hk_eval.specs.Groups.{after_pairs}
use Rattle.hk_eval.proofs.group.pairs_of.Given as goal

abbrev pub invariant-loop-item : goal.invariant-loop-item
invariant-loop-item l = pairs_of (lookups l.fn.plan) l.name l.items ≡ after_pairs l.pairs.items (pairs_of (lookups l.fn.plan) l.name (drop l.item-index l.items))
