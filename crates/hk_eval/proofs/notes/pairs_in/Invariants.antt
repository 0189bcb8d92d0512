use Rattle.std.proofs.Common.{◌≡◌, take}
use Rattle.hk_eval.proofs.notes.pairs_in.Given as goal

abbrev pub invariant-loop-number : goal.invariant-loop-number
invariant-loop-number l = l.pairs.items ≡ take l.number-index l.numbers
