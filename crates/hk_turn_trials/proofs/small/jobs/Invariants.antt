use Rattle.std.proofs.Common.{◌≤◌, ◌-◌, Some, All, length, vec_capacity}
use Rattle.hk_ready.specs.View.{IsPassFor}
use Rattle.hk_turn_trials.proofs.small.jobs.Given as goal

abbrev pub invariant-loop-alloc : goal.invariant-loop-alloc
invariant-loop-alloc l =
    IsPassFor l.queue.id (Some l.bound) l.first
    × All (λ j. IsPassFor l.queue.id (Some l.bound) j.pass) l.all.items × (length l.all.items ≤ l.count) × (l.count ≤ vec_capacity l.all)

abbrev pub decreases-loop-alloc : goal.decreases-loop-alloc
decreases-loop-alloc l = l.count - length l.all.items
