use Rattle.std.proofs.Common.{◌≡◌, take}
use Rattle.hk_eval.proofs.notes.patterns_in.Given as goal

abbrev pub invariant-loop-number : goal.invariant-loop-number
invariant-loop-number l = l.patterns.items ≡ take l.number-index l.numbers
