use Rattle.std.proofs.Common.{ap}
use Rattle.hk_steal.proofs.Decking.{takes, finds, told}
use Rattle.hk_steal.proofs.owner.Owner.pop.Goals as goal

pub pop_as-requires-clause-fifo : goal.pop_as-requires-clause-fifo
pop_as-requires-clause-fifo g c = λ _. takes g.T.Lawful.is_lawful _ _

pub pop_as-requires-clause-empty : goal.pop_as-requires-clause-empty
pop_as-requires-clause-empty g c = finds g.T.Lawful.is_lawful _ _

pub returns-clause-popped : goal.returns-clause-popped
returns-clause-popped g c = told g.T.Lawful.is_lawful _ _ _ _ (ap (λ z. z.key) c.self.view_is) c.pop_as.ensures.rule
