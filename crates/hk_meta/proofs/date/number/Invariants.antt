use Rattle.std.proofs.Common.{◌≡◌, ◌≤◌, ◌<◌, drop}
use Rattle.hk_meta.specs.Date as spec
use Rattle.hk_meta.proofs.date.number.Given as goal

abbrev pub invariant-loop-byte : goal.invariant-loop-byte
invariant-loop-byte l =
    (spec.number_from 0 l.digits ≡ spec.number_from l.value (drop l.byte-index l.digits))
    × (l.byte-index ≤ 0 → l.value < 1)
    × (l.byte-index ≤ 1 → l.value < 10)
    × (l.byte-index ≤ 2 → l.value < 100)
    × (l.byte-index ≤ 3 → l.value < 1000)
    × (l.byte-index ≤ 4 → l.value < 10000)
