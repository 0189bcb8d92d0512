-- The last piece and the last byte.
use Rattle.std.proofs.Common.{sym, ◌∙◌, arith}
use Rattle.hk_pattern.proofs.Tails.{last-same, last-differs, last-missing}
use Rattle.hk_pattern.proofs.tail.covers_from_end.Goals as goal

pub returns-in-None : goal.returns-in-None
returns-in-None c =
    sym (last-missing c.loop-byte.pieces.now c.loop-byte.path.now c.in-Some-Byte-default.before.now _ _ c.in-Some-Byte-default.ensures.cases.0 c.in-Some-Byte-default.field-0-0-is c.in-None.ensures.cases)
    ∙ c.loop-byte.invariant.same

pub returns-then-last-byte : goal.returns-then-last-byte
returns-then-last-byte c =
    sym (last-differs c.loop-byte.pieces.now c.loop-byte.path.now c.in-Some-Byte-default.before.now c.in-Some.front.now _ _ _ c.in-Some-Byte-default.ensures.cases.0 c.in-Some-Byte-default.field-0-0-is c.in-Some.ensures.cases.0 c.if-last-byte.true)
    ∙ c.loop-byte.invariant.same

pub loop-byte-preserved : goal.loop-byte-preserved
loop-byte-preserved c = record {
  same = last-same c.loop-byte.pieces.now c.loop-byte.path.now c.in-Some-Byte-default.before.now c.in-Some.front.now _ _ _ c.in-Some-Byte-default.ensures.cases.0 c.in-Some-Byte-default.field-0-0-is c.in-Some.ensures.cases.0 c.if-last-byte.false
      ∙ c.loop-byte.invariant.same;
  fewer = omega (arith, c.in-Some-Byte-default.ensures.cases.1);
}
