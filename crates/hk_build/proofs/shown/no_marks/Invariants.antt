use Rattle.std.proofs.Common.{◌≡◌, false, replicate}
use Rattle.hk_build.proofs.shown.no_marks.Given as goal

abbrev pub invariant-loop : goal.invariant-loop
invariant-loop l = l.marks.items ≡ replicate l.counter false
