use Rattle.std.proofs.Common.{◌≡◌, take}
use Rattle.hk_rules.specs.Pairs.{counts}
use Rattle.hk_rules.proofs.pairs.counts_of.Given as goal

abbrev pub invariant-loop-item : goal.invariant-loop-item
invariant-loop-item l = l.counts.items ≡ counts (take l.item-index l.items)
