use Rattle.std.proofs.Common.{rules}
use Rattle.hk_ready.proofs.Queueing.{pushes, learns}
use Rattle.hk_ready.proofs.queue.Queue.push.Goals as goal

pub push_as-requires-clause-rule : goal.push_as-requires-clause-rule
push_as-requires-clause-rule g c = (pushes g.T.Lawful.is_lawful _ _ _ _ (search rules) c.pass.invariant.1, learns g.T.Lawful.is_lawful _ _ c.pass.invariant.1)
