use Rattle.std.proofs.Common.{◌≡◌, drop, false}
use Rattle.hk_meta.specs.DatePattern as spec
use Rattle.hk_meta.proofs.date_pattern.has_forms.Given as goal

abbrev pub invariant-loop-byte : goal.invariant-loop-byte
invariant-loop-byte l = spec.forms_from false l.pattern ≡ spec.forms_from l.begun (drop l.byte-index l.pattern)
