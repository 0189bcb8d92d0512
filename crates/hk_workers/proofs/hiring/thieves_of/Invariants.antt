use Rattle.std.proofs.Common.{◌≡◌, ◌<◌, ◌≤◌, ◌+◌, ◌-◌, length, All, Some, vec_capacity}
use Rattle.hk_workers.proofs.hiring.thieves_of.Given as goal

abbrev pub invariant-loop-step : goal.invariant-loop-step
invariant-loop-step g l = (l.owners.items ≡ l.initial.owners.items) × All (λ t. t.key ≡ Some l.about.value) l.thieves.items × (l.me < length l.owners.items)
    × (length l.thieves.items + (length l.owners.items - l.step) ≤ vec_capacity l.thieves)

abbrev pub decreases-loop-step : goal.decreases-loop-step
decreases-loop-step g l = length l.owners.items - l.step
