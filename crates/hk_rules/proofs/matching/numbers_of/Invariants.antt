use Rattle.std.proofs.Common.{◌≡◌, Bool, filter, get_or}
use Rattle.std.specs.List.{range_with_len}
use Rattle.hk_rules.proofs.matching.numbers_of.Given as goal

abbrev pub invariant-loop-index : goal.invariant-loop-index
invariant-loop-index l = (d : Bool) → l.numbers.items ≡ filter (λ index. get_or l.flags index d) (range_with_len 0 l.index)
