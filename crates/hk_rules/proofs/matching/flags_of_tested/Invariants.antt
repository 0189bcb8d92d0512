use Rattle.std.proofs.Common.{◌≡◌, map, take}
use Rattle.hk_rules.specs.Flags.{is_chosen}
use Rattle.hk_rules.proofs.matching.flags_of_tested.Given as goal

abbrev pub invariant-loop-item : goal.invariant-loop-item
invariant-loop-item l = l.flags.items ≡ map (is_chosen l.pattern) (take l.item-index l.items)
