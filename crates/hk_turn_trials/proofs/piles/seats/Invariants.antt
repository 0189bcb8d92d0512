use Rattle.std.proofs.Common.{◌≡◌, ◌≤◌, ◌-◌, Some, All, length, vec_capacity}
use Rattle.hk_lock.specs.View.{IsSeatFor, IsFirstSeat}
use Rattle.hk_turn_trials.proofs.piles.seats.Given as goal

abbrev pub invariant-loop-all : goal.invariant-loop-all
invariant-loop-all l =
    IsFirstSeat l.lock (length l.all.items) l.first × (l.first.view.key ≡ Some l.most)
    × All (IsSeatFor l.lock (Some l.most)) l.all.items × (length l.all.items ≤ l.count) × (l.count ≤ vec_capacity l.all)

abbrev pub decreases-loop-all : goal.decreases-loop-all
decreases-loop-all l = l.count - length l.all.items
