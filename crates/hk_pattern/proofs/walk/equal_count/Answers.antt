-- One more byte is equal.
use Rattle.std.proofs.Common.{sym, ◌∙◌, arith}
use Rattle.hk_pattern.proofs.Walking.{keeps-next}
use Rattle.hk_pattern.proofs.walk.equal_count.Goals as goal

pub loop-count-preserved : goal.loop-count-preserved
loop-count-preserved c = record {
  pieces_left = omega arith;
  path_left = omega arith;
  keeps = keeps-next c.args.pieces.now c.args.path.now c.loop-count.count _ c.loop-count.invariant.keeps c.loop-count-test.true c.if-count-path.true (sym c.is_byte.ensures ∙ c.if-is_byte.true);
}
