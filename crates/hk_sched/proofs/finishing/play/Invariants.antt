use Rattle.hk_chain.specs.Layout.{pairs}
use Rattle.hk_sched.specs.Lawful.{Key, IsKey, IsLawful, MayPoll}
use Rattle.hk_sched.proofs.Fuels.{fuel_at}
use Rattle.hk_sched.proofs.Playing.{Playing}
use Rattle.hk_sched.proofs.finishing.play.Given as goal

abbrev pub invariant-loop-machine : goal.invariant-loop-machine
invariant-loop-machine g l = (key : Key g.row.M-Common.Denot) (is : IsKey g.M.Compiler.run g.M.Compiler.shape key) → IsLawful g.M.Compiler.run g.M.Compiler.meaning key l.initial.board → MayPoll g.M.Compiler.run key (g.M.Compiler.meaning l.initial.machine)
    → Playing g.M.Compiler.meaning g.M.Compiler.shape g.M.Compiler.run key is l.initial.board (g.M.Compiler.meaning l.initial.machine) l.board (g.M.Compiler.meaning l.machine)

abbrev pub decreases-loop-machine : goal.decreases-loop-machine
decreases-loop-machine g l = fuel_at (pairs (g.M.Compiler.shape (g.M.Compiler.meaning l.machine).common)) (g.M.Compiler.meaning l.machine).told (g.M.Compiler.meaning l.machine).given
