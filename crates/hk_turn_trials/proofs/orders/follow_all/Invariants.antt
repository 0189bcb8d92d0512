use Rattle.std.proofs.Common.{◌≡◌, Some, All, length}
use Rattle.hk_lock.specs.View.{IsSeatFor, IsFirstSeat}
use Rattle.hk_turn_trials.proofs.orders.follow_all.Given as goal

abbrev pub invariant-loop-step : goal.invariant-loop-step
invariant-loop-step g l =
    IsFirstSeat l.lock (length l.seats.items) l.first × (l.first.view.key ≡ Some l.most) × All (IsSeatFor l.lock (Some l.most)) l.seats.items
