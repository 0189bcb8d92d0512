use Rattle.std.proofs.Common.{◌≡◌, ◌≤◌, ◌-◌, length, All, vec_capacity}
use Rattle.crossbeam_deque.specs.Handles.{SameWorker, worker_deque, worker_view, worker_index}
use Rattle.hk_steal.specs.View.{IsEnd}
use Rattle.hk_steal.proofs.owner.spares.Given as goal

abbrev pub invariant-loop-spare : goal.invariant-loop-spare
invariant-loop-spare g l =
    SameWorker l.initial.bench l.bench × (worker_view l.bench ≡ worker_view l.initial.bench) × (worker_index l.bench ≡ worker_index l.initial.bench)
    × All (IsEnd (worker_deque l.initial.bench) (worker_view l.initial.bench).key) l.spare.items × (length l.spare.items ≤ 63) × (63 ≤ vec_capacity l.spare)

abbrev pub decreases-loop-spare : goal.decreases-loop-spare
decreases-loop-spare g l = 63 - length l.spare.items
