use Rattle.std.proofs.Common.{◌≡◌, take}
use Rattle.hk_store.proofs.chains.are_same_steps.Given as goal

abbrev pub invariant-loop-i : goal.invariant-loop-i
invariant-loop-i l = take l.i l.one ≡ take l.i l.other
