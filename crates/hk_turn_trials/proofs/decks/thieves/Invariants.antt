use Rattle.std.proofs.Common.{◌≤◌, ◌-◌, ◌+◌, length, vec_capacity}
use Rattle.hk_turn_trials.proofs.decks.thieves.Given as goal

abbrev pub invariant-loop-alloc : goal.invariant-loop-alloc
invariant-loop-alloc l =
    (l.number ≤ l.first.spare + length l.all.items) × (length l.all.items ≤ l.number) × (l.number ≤ vec_capacity l.all)

abbrev pub decreases-loop-alloc : goal.decreases-loop-alloc
decreases-loop-alloc l = l.number - length l.all.items
