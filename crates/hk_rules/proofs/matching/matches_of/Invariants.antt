use Rattle.std.proofs.Common.{◌≡◌, map, take}
use Rattle.hk_rules.specs.Plan.{matches_in}
use Rattle.hk_rules.proofs.matching.matches_of.Given as goal

abbrev pub invariant-loop-pattern : goal.invariant-loop-pattern
invariant-loop-pattern l = l.matches.items ≡ map (matches_in l.items) (take l.pattern-index l.patterns)
