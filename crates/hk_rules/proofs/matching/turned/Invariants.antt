use Rattle.std.proofs.Common.{◌≡◌, map, take, not}
use Rattle.hk_rules.proofs.matching.turned.Given as goal

abbrev pub invariant-loop-flag : goal.invariant-loop-flag
invariant-loop-flag l = l.turned.items ≡ map not (take l.flag-index l.flags)
