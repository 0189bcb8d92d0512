use Rattle.std.proofs.Common.{◌≡◌, ◌≤◌, ◌+◌, ◌-◌, length, drop}
use Rattle.hk_meta.specs.Scalar as spec
use Rattle.hk_meta.proofs.scalar.member_len.Given as goal

abbrev pub invariant-loop-len : goal.invariant-loop-len
invariant-loop-len l =
    (l.len ≤ length l.text)
    × (spec.member_len l.text ≡ l.len + spec.member_len (drop l.len l.text))

abbrev pub decreases-loop-len : goal.decreases-loop-len
decreases-loop-len l = length l.text - l.len
