use Rattle.hk_workers.proofs.Steps.{polls-play}
use Rattle.hk_workers.proofs.step.poll.Goals as goal

pub returns : goal.returns
returns g c = polls-play g.M.Compiler.run g.M.Compiler.shape g.M.Compiler.meaning _ _ _ _ c.poll.ensures c.requires
