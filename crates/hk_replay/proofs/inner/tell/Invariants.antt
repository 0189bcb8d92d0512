use Rattle.std.proofs.Common.{◌≡◌, take}
use Rattle.hk_replay.specs.Going.{tell_all}
use Rattle.hk_eval.specs.Told.{told_pages}
use Rattle.hk_replay.proofs.inner.tell.Given as goal

abbrev pub invariant-loop-pair : goal.invariant-loop-pair
invariant-loop-pair g l = g.M.Compiler.meaning l.inner ≡ tell_all (told_pages l.told) (g.M.Compiler.meaning l.initial.inner) (take l.pair-index (g.M.Compiler.meaning l.initial.inner).awaits)
