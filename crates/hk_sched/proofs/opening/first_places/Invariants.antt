use Rattle.std.proofs.Common.{◌≡◌, map}
use Rattle.hk_sched.specs.Standings.{first_standing}
use Rattle.hk_sched.specs.Places.{standing}
use Rattle.hk_sched.proofs.opening.first_places.Given as goal

abbrev pub invariant-loop-kept : goal.invariant-loop-kept
invariant-loop-kept g l = map standing l.places.items ≡ map first_standing l.yielded
