use Rattle.std.proofs.Common.{arith}
use Rattle.hk_store.proofs.Numerals.{read-step, not-below}
use Rattle.hk_store.proofs.scan.value_of.Goals as goal

pub returns-in_default : goal.returns-in_default
returns-in_default c =
    omega (arith, not-below _ _ c.in_default.ensures, read-step c.args.line.now c.loop-byte.byte-index c.loop-byte.value c.loop-byte-test.true, c.loop-byte.invariant.rest)

pub returns-in_default-checked_add : goal.returns-in_default-checked_add
returns-in_default-checked_add c =
    let more = c.in-Some.ensures.1 in
    omega (arith, more, c.saturating_sub-digit.ensures, not-below _ _ c.in_default-checked_add.ensures, read-step c.args.line.now c.loop-byte.byte-index c.loop-byte.value c.loop-byte-test.true, c.loop-byte.invariant.rest)
