use Rattle.std.proofs.Common.{◌≡◌, ◌≤◌, ◌-◌, length, All, Some, vec_capacity}
use Rattle.hk_workers.proofs.hiring.decks.Given as goal

abbrev pub invariant-loop-alloc : goal.invariant-loop-alloc
invariant-loop-alloc g l =
    All (λ o. o.key ≡ Some l.about.value) l.owners.items × (length l.owners.items ≤ l.workers) × (l.workers ≤ vec_capacity l.owners)

abbrev pub decreases-loop-alloc : goal.decreases-loop-alloc
decreases-loop-alloc g l = l.workers - length l.owners.items
