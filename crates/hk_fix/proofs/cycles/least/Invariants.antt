use Rattle.std.proofs.Common.{ℕ, ◌<◌, ◌≤◌, Contains, get_or}
use Rattle.hk_fix.proofs.cycles.least.Given as goal

abbrev pub invariant-loop-item : goal.invariant-loop-item
invariant-loop-item l = record { member : Contains l.around l.first; below : (k : ℕ) → k < l.item-index → l.first ≤ get_or l.around k 0 }
