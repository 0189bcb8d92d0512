use Rattle.std.proofs.Common.{length}
use Rattle.hk_chain.specs.Kept.{at_place}
use Rattle.hk_sched.specs.Standings.{SomeTold}
use Rattle.hk_sched.proofs.roster.answer_all.Given as goal

abbrev pub invariant-loop-open : goal.invariant-loop-open
invariant-loop-open g l = SomeTold (at_place l.known) (g.M.Compiler.meaning l.initial.machine) (g.M.Compiler.meaning l.machine)

abbrev pub decreases-loop-open : goal.decreases-loop-open
decreases-loop-open g l = length (g.M.Compiler.meaning l.machine).awaits
