use Rattle.std.proofs.Common.{◌≡◌, ◌≤◌, ◌-◌, length, All, Some, vec_capacity}
use Rattle.hk_workers.proofs.hiring.all_thieves.Given as goal

abbrev pub invariant-loop-alloc : goal.invariant-loop-alloc
invariant-loop-alloc g l =
    (l.owners.items ≡ l.initial.owners.items) × All (λ v. All (λ t. t.key ≡ Some l.about.value) v.items) l.lists.items × (length l.lists.items ≤ length l.owners.items) × (length l.owners.items ≤ vec_capacity l.lists)

abbrev pub decreases-loop-alloc : goal.decreases-loop-alloc
decreases-loop-alloc g l = length l.owners.items - length l.lists.items
