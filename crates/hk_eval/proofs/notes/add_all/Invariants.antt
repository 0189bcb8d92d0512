use Rattle.std.proofs.Common.{◌≡◌, ◌++◌, take}
use Rattle.hk_fix.specs.Facts.{firsts}
use Rattle.hk_eval.proofs.notes.add_all.Given as goal

abbrev pub invariant-loop-pair : goal.invariant-loop-pair
invariant-loop-pair l = (l.fresh.items ≡ firsts l.initial.seen (take l.pair-index l.pairs)) × (l.seen ≡ l.initial.seen ++ firsts l.initial.seen (take l.pair-index l.pairs))
