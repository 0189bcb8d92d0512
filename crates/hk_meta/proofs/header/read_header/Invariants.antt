use Rattle.std.proofs.Common.{◌≡◌, ◌+◌, ◌-◌, ◌≤◌, length}
use Rattle.hk_meta.specs.Header as spec
use Rattle.hk_meta.specs.Lines.{all_lines}
use Rattle.hk_meta.proofs.Reading.{outcome}
use Rattle.hk_meta.proofs.header.read_header.Given as goal

abbrev pub invariant-loop-rest : goal.invariant-loop-rest
invariant-loop-rest l =
    (l.number + length l.rest ≤ length l.file)
    × (spec.after_fence (length l.file - length l.lines) (spec.before_fence (all_lines l.lines))
    ≡ outcome (length l.file - length l.rest) (l.number + 1) l.refused l.reader (spec.before_fence (all_lines l.rest)))

abbrev pub decreases-loop-rest : goal.decreases-loop-rest
decreases-loop-rest l = length l.rest
