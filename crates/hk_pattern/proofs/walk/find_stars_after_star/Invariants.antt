use Rattle.std.proofs.Common.{◌∷◌, ◌≤◌, length, ◌+◌}
use Rattle.hk_pattern.specs.declared.piece.Piece.TheVariants.{Star}
use Rattle.hk_pattern.specs.Walk.{Keeps}
use Rattle.hk_pattern.proofs.walk.find_stars_after_star.Given as goal

abbrev pub invariant-loop-after : goal.invariant-loop-after
invariant-loop-after l = record {
  keeps : Keeps (Star ∷ l.initial.pieces) l.initial.path (Star ∷ l.pieces) l.path;
  fewer : length l.pieces ≤ length l.initial.pieces;
  shorter : length l.path ≤ length l.initial.path;
}

abbrev pub decreases-loop-after : goal.decreases-loop-after
decreases-loop-after l = length l.pieces + length l.path
