use Rattle.std.proofs.Common.{length, ◌-◌, ◌≤◌, drop}
use Rattle.hk_pattern.specs.Walk.{Keeps}
use Rattle.hk_pattern.proofs.walk.equal_count.Given as goal

abbrev pub invariant-loop-count : goal.invariant-loop-count
invariant-loop-count l = record {
  pieces_left : l.count ≤ length l.pieces;
  path_left : l.count ≤ length l.path;
  keeps : Keeps l.pieces l.path (drop l.count l.pieces) (drop l.count l.path);
}

abbrev pub decreases-loop-count : goal.decreases-loop-count
decreases-loop-count l = length l.pieces - l.count
