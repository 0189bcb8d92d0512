use Rattle.hk_ready.proofs.Queueing.{pops, learns}
use Rattle.hk_ready.proofs.queue.Queue.pop.Goals as goal

pub pop_as-requires-clause-rule : goal.pop_as-requires-clause-rule
pop_as-requires-clause-rule g c = (pops g.T.Lawful.is_lawful _ _ c.pass.invariant.1, learns g.T.Lawful.is_lawful _ _ c.pass.invariant.1)
