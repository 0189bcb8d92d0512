use Rattle.std.proofs.Common.{◌≡◌, map}
use Rattle.hk_sched.specs.Places.{standing}
use Rattle.hk_sched.proofs.Firsts.{StoodFrom}
use Rattle.hk_sched.proofs.opening.stand_fresh.Given as goal

abbrev pub invariant-loop-left : goal.invariant-loop-left
invariant-loop-left g l = record {
  pairs : l.stacks.pairs ≡ l.initial.stacks.pairs;
  stood : StoodFrom (map standing l.places) l.left l.stacks.stack_of;
}

abbrev pub decreases-loop-left : goal.decreases-loop-left
decreases-loop-left g l = l.left
