use Rattle.hk_sched.proofs.Laws.{board-laws}
use Rattle.hk_sched.proofs.keeping.lawful_board.Goals as goal

pub returns : goal.returns
returns g c = λ key is. board-laws g.M.Compiler.meaning g.M.Compiler.shape g.M.Compiler.run key is
