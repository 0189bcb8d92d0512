use Rattle.std.proofs.Common.{◌≡◌, ◌++◌, length}
use Rattle.hk_route.specs.Rewriting.{replaced_after}
use Rattle.hk_route.proofs.rewriting.replaced.Given as goal

abbrev pub invariant-loop-rest : goal.invariant-loop-rest
invariant-loop-rest l = l.bytes.items ++ replaced_after l.old l.new 0 l.rest ≡ replaced_after l.old l.new 0 l.path

abbrev pub decreases-loop-rest : goal.decreases-loop-rest
decreases-loop-rest l = length l.rest
