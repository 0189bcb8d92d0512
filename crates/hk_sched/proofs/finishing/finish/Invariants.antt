use Rattle.hk_sched.specs.Lawful.{Key, IsKey, IsLawful}
use Rattle.hk_sched.specs.Progress.{potential}
use Rattle.hk_sched.proofs.finishing.finish.Given as goal

abbrev pub invariant-loop-board : goal.invariant-loop-board
invariant-loop-board g l = (key : Key g.row.K-M-Common.Denot) → IsKey g.K.M.Compiler.run g.K.M.Compiler.shape key → IsLawful g.K.M.Compiler.run g.K.M.Compiler.meaning key l.initial.board → IsLawful g.K.M.Compiler.run g.K.M.Compiler.meaning key l.board

abbrev pub decreases-loop-board : goal.decreases-loop-board
decreases-loop-board g l = potential g.K.M.Compiler.meaning l.board
