use Rattle.std.proofs.Common.{◌≡◌, length, All}
use Rattle.hk_lock.specs.View.{IsSeatFor, IsFirstSeat}
use Rattle.hk_workers.proofs.pool.gather.Given as goal

abbrev pub invariant-loop-end : goal.invariant-loop-end
invariant-loop-end g l =
    IsFirstSeat l.desk.lock (length l.ends.items) l.seat × (l.seat.view.key ≡ l.initial.seat.view.key) × All (λ e. IsSeatFor l.desk.lock l.initial.seat.view.key e.seat) l.ends.items

abbrev pub decreases-loop-end : goal.decreases-loop-end
decreases-loop-end g l = goal.left-loop-end g l
