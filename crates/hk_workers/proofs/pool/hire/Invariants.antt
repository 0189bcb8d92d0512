use Rattle.std.proofs.Common.{◌≡◌, ◌≤◌, ◌-◌, length, All, vec_capacity}
use Rattle.hk_lock.specs.View.{IsSeatFor, IsFirstSeat}
use Rattle.hk_ready.specs.View.{IsPassFor}
use Rattle.hk_workers.proofs.pool.hire.Given as goal

abbrev pub invariant-loop-alloc : goal.invariant-loop-alloc
invariant-loop-alloc g l =
    IsFirstSeat l.desk.lock (length l.jobs.items) l.seat × (l.seat.view.key ≡ l.initial.seat.view.key) × IsPassFor l.desk.ready.id l.initial.seat.view.key l.pass
    × All (λ j. IsSeatFor l.desk.lock l.initial.seat.view.key j.seat × IsPassFor l.desk.ready.id l.initial.seat.view.key j.pass) l.jobs.items × (length l.jobs.items ≤ l.workers) × (l.workers ≤ vec_capacity l.jobs)

abbrev pub decreases-loop-alloc : goal.decreases-loop-alloc
decreases-loop-alloc g l = l.workers - length l.jobs.items
