use Rattle.std.proofs.Common.{◌+◌, ◌-◌, length}
use Rattle.hk_fix.specs.Pages.{lacking}
use Rattle.hk_fix.specs.Run.{asks_of}
use Rattle.hk_replay.specs.Going.{Between, known_run, all_saves}
use Rattle.std.specs.BTreeSet.{contains}
use Rattle.std.specs.Ordering.{nat_cmp}
use Rattle.hk_eval.specs.Told.{told_pages}
use Rattle.hk_replay.proofs.inner.go_inner.Given as goal

abbrev pub invariant-loop-pair : goal.invariant-loop-pair
invariant-loop-pair g l = Between g.M.Compiler.run (told_pages l.told) (contains nat_cmp l.kept) (g.M.Compiler.meaning l.initial.inner) (g.M.Compiler.meaning l.inner)

abbrev pub decreases-loop-pair : goal.decreases-loop-pair
decreases-loop-pair g l = (length (all_saves g.M.Compiler.run (told_pages l.told) (g.M.Compiler.meaning l.initial.inner)) - (g.M.Compiler.meaning l.inner).given) + length (lacking (g.M.Compiler.meaning l.inner).told (asks_of (known_run g.M.Compiler.run (told_pages l.told) (g.M.Compiler.meaning l.initial.inner)).log))
