use Rattle.std.proofs.Common.{◌≡◌, ◌≤◌, ◌+◌, ◌-◌, length, drop}
use Rattle.hk_meta.specs.Line as spec
use Rattle.hk_meta.proofs.line.key_len.Given as goal

abbrev pub invariant-loop-len : goal.invariant-loop-len
invariant-loop-len l =
    (l.len ≤ length l.line)
    × (spec.key_len l.line ≡ l.len + spec.key_len (drop l.len l.line))

abbrev pub decreases-loop-len : goal.decreases-loop-len
decreases-loop-len l = length l.line - l.len
