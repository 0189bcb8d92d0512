use Rattle.std.proofs.Common.{◌≡◌, take}
use Rattle.hk_tags.proofs.expanding.pool_of.Given as goal

abbrev pub invariant-loop-pattern : goal.invariant-loop-pattern
invariant-loop-pattern l = l.pool ≡ take l.pattern-index l.patterns
