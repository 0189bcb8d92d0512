use Rattle.std.proofs.Common.{◌≡◌, ◌++◌, length}
use Rattle.hk_pattern.specs.Glob.{pieces}
use Rattle.hk_pattern.proofs.piece.read_pieces.Given as goal

abbrev pub invariant-loop-piece : goal.invariant-loop-piece
invariant-loop-piece l = l.pieces.items ++ pieces l.rest ≡ pieces l.text

abbrev pub decreases-loop-piece : goal.decreases-loop-piece
decreases-loop-piece l = length l.rest
