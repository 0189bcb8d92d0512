use Rattle.std.proofs.Common.{◌≡◌, ◌-◌, length}
use Rattle.hk_meta.specs.Scalar as spec
use Rattle.hk_meta.proofs.scalar.read_bracketed.Given as goal

abbrev pub invariant-loop-member : goal.invariant-loop-member
invariant-loop-member l = spec.bracketed l.text ≡ spec.members_from (length l.text - l._member) l.joined l.rest
