use Rattle.std.proofs.Common.{◌≡◌, All, length}
use Rattle.hk_lock.specs.View.{IsIdle, IsFirstSeat}
use Rattle.hk_turn_trials.proofs.piles.join_all.Given as goal

abbrev pub invariant-loop-raised : goal.invariant-loop-raised
invariant-loop-raised l = IsFirstSeat l.lock (length l.back.items) l.first × All (λ r. (r.seat.lock ≡ l.lock) × IsIdle r.seat.view) l.back.items

abbrev pub decreases-loop-raised : goal.decreases-loop-raised
decreases-loop-raised l = goal.left-loop-raised l
