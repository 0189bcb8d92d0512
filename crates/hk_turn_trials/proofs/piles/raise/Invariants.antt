use Rattle.std.proofs.Common.{Some}
use Rattle.hk_lock.specs.View.{IsSeatFor}
use Rattle.hk_turn_trials.proofs.piles.raise.Given as goal

abbrev pub invariant-loop : goal.invariant-loop
invariant-loop g l = IsSeatFor l.lock (Some l.most) l.seat
