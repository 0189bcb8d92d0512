use Rattle.hk_ready.proofs.Queueing.{names_at}
use Rattle.hk_ready.proofs.queue.name.Goals as goal

pub another-spent-requires-clause-rule : goal.another-spent-requires-clause-rule
another-spent-requires-clause-rule g c = names_at g.T.Lawful.is_lawful _ c.args.key.now.value _ _ _ c.requires.queue.1 (c.requires.left _) (c.requires.right _)
