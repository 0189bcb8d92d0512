use Rattle.hk_sched.proofs.Laws.{poll-laws}
use Rattle.hk_sched.proofs.keeping.lawful_polls.Goals as goal

pub returns : goal.returns
returns g c = λ key is. poll-laws g.M.Compiler.meaning g.M.Compiler.shape g.M.Compiler.run key is
