use Rattle.std.proofs.Common.{◌≡◌, ◌∷◌, length, ◌+◌}
use Rattle.hk_pattern.specs.declared.piece.Piece.TheVariants.{Stars}
use Rattle.hk_pattern.specs.Glob.{covers}
use Rattle.hk_pattern.proofs.walk.covers_after_stars.Given as goal

abbrev pub invariant-loop-after : goal.invariant-loop-after
invariant-loop-after l = covers (Stars ∷ l.pieces) l.path ≡ covers (Stars ∷ l.initial.pieces) l.initial.path

abbrev pub decreases-loop-after : goal.decreases-loop-after
decreases-loop-after l = length l.pieces + length l.path
