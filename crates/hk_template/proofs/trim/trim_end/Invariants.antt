-- What is left trims to the same.
use Rattle.std.proofs.Common.{◌≡◌, length}
use Rattle.hk_template.specs.Tree.{trim_end}
use Rattle.hk_template.proofs.trim.trim_end.Given as goal

abbrev pub invariant-loop-last : goal.invariant-loop-last
invariant-loop-last l = trim_end l.rest ≡ trim_end l.bytes

abbrev pub decreases-loop-last : goal.decreases-loop-last
decreases-loop-last l = length l.rest
