use Rattle.std.proofs.Common.{◌≡◌, ◌≤◌, ◌+◌, length, All, Some, vec_capacity}
use Rattle.hk_lock.specs.View.{IsSeatFor, IsFirstSeat}
use Rattle.hk_workers.proofs.stealing.gather_owners.Given as goal

abbrev pub invariant-loop-end : goal.invariant-loop-end
invariant-loop-end g l =
    IsFirstSeat l.lock (length l.ends.items) l.seat × (l.seat.view.key ≡ Some l.about.value) × All (λ e. IsSeatFor l.lock (Some l.about.value) e.seat × (e.own.key ≡ Some l.about.value)) l.ends.items × All (λ o. o.key ≡ Some l.about.value) l.owners.items
    × (length l.owners.items + length l.ends.items ≤ vec_capacity l.owners)

abbrev pub decreases-loop-end : goal.decreases-loop-end
decreases-loop-end g l = length l.ends.items
