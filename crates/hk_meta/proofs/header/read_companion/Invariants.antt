use Rattle.std.proofs.Common.{◌≡◌, ◌+◌, ◌≤◌, None, length}
use Rattle.hk_meta.specs.Header as spec
use Rattle.hk_meta.proofs.Reading.{read_on, companion_lines}
use Rattle.hk_meta.proofs.header.read_companion.Given as goal

abbrev pub invariant-loop-rest : goal.invariant-loop-rest
invariant-loop-rest l =
    (l.number + length l.rest ≤ length l.file)
    × (spec.read_lines 1 (companion_lines l.file) ≡ read_on (l.number + 1) None l.reader (companion_lines l.rest))

abbrev pub decreases-loop-rest : goal.decreases-loop-rest
decreases-loop-rest l = length l.rest
