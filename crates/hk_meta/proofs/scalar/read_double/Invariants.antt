use Rattle.std.proofs.Common.{◌≡◌, [], false, drop}
use Rattle.hk_meta.specs.Scalar as spec
use Rattle.hk_meta.proofs.scalar.read_double.Given as goal

abbrev pub invariant-loop-i : goal.invariant-loop-i
invariant-loop-i l = spec.double_from [] false l.text ≡ spec.double_from l.value.items l.begun (drop l.i l.text)
