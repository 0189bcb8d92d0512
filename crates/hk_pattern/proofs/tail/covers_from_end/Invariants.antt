use Rattle.std.proofs.Common.{◌≡◌, ◌≤◌, length}
use Rattle.hk_pattern.specs.Glob.{covers}
use Rattle.hk_pattern.proofs.tail.covers_from_end.Given as goal

abbrev pub invariant-loop-byte : goal.invariant-loop-byte
invariant-loop-byte l = record {
  same : covers l.pieces l.path ≡ covers l.initial.pieces l.initial.path;
  fewer : length l.pieces ≤ length l.initial.pieces;
}

abbrev pub decreases-loop-byte : goal.decreases-loop-byte
decreases-loop-byte l = length l.pieces
