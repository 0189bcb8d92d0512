use Rattle.std.proofs.Common.{◌≡◌, true, drop}
use Rattle.hk_meta.specs.Scalar as spec
use Rattle.hk_meta.proofs.scalar.before_comment.Given as goal

abbrev pub invariant-loop-i : goal.invariant-loop-i
invariant-loop-i l = spec.comment_from 0 true l.text ≡ spec.comment_from l.i l.free (drop l.i l.text)
