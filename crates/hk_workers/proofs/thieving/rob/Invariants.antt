use Rattle.std.proofs.Common.{◌≡◌, ◌≤◌, ◌-◌, length}
use Rattle.hk_workers.proofs.thieving.rob.Given as goal

abbrev pub invariant-loop-at : goal.invariant-loop-at
invariant-loop-at g l = (l.others.items ≡ l.initial.others.items) × (l.at ≤ length l.others.items)

abbrev pub decreases-loop-at : goal.decreases-loop-at
decreases-loop-at g l = length l.others.items - l.at
