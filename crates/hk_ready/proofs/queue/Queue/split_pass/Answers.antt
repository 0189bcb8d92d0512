use Rattle.hk_ready.proofs.Queueing.{splits}
use Rattle.hk_ready.proofs.queue.Queue.split_pass.Goals as goal

pub another-ticket-requires-clause-rule : goal.another-ticket-requires-clause-rule
another-ticket-requires-clause-rule g c = splits g.T.Lawful.is_lawful _ _ c.pass.invariant.1
