use Rattle.std.proofs.Common.{◌≡◌, ◌≤◌, ◌+◌, length, All, Some, vec_capacity}
use Rattle.hk_lock.specs.View.{IsSeatFor, IsFirstSeat}
use Rattle.hk_workers.proofs.hiring.seat_all.Given as goal

abbrev pub invariant-loop-own : goal.invariant-loop-own
invariant-loop-own g l =
    IsFirstSeat l.lock (length l.jobs.items) l.seat × (l.seat.view.key ≡ Some l.about.value) × All (λ o. o.key ≡ Some l.about.value) l.owners.items × (length l.lists.items ≡ length l.owners.items)
    × All (λ v. All (λ t. t.key ≡ Some l.about.value) v.items) l.lists.items × All (λ j. IsSeatFor l.lock (Some l.about.value) j.seat × (j.own.key ≡ Some l.about.value) × All (λ t. t.key ≡ Some l.about.value) j.others.items) l.jobs.items
    × (length l.jobs.items + length l.owners.items ≤ vec_capacity l.jobs)

abbrev pub decreases-loop-own : goal.decreases-loop-own
decreases-loop-own g l = length l.owners.items
