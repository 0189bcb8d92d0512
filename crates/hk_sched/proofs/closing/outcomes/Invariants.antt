use Rattle.std.proofs.Common.{◌≡◌, ◌+◌, map, length, true, All}
use Rattle.std.specs.Vec.{vec_capacity}
use Rattle.hk_chain.specs.Kept.{at_place}
use Rattle.hk_fix.specs.Outcomes.{outcome_view}
use Rattle.hk_sched.specs.Standings.{ending_at, is_settled}
use Rattle.hk_sched.specs.Places.{standing}
use Rattle.hk_sched.proofs.closing.outcomes.Given as goal

abbrev pub invariant-loop-place : goal.invariant-loop-place
invariant-loop-place g l = record {
  done : map outcome_view l.outcomes.items ≡ map (ending_at g.M.Compiler.meaning (at_place l.known)) (map standing l.yielded);
  left : length l.outcomes.items + length l.place-iterator.rest.items ≡ length l.fn.places.items;
  settled : All (λ p. is_settled (standing p) ≡ true) l.place-iterator.rest.items;
  room : vec_capacity l.outcomes ≡ vec_capacity l.fn.room;
}
