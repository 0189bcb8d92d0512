use Rattle.std.proofs.Common.{rules}
use Rattle.hk_steal.proofs.Decking.{takes, finds_few}
use Rattle.hk_steal.proofs.thief.taken.Goals as goal

pub steal_as-requires-clause-takes : goal.steal_as-requires-clause-takes
steal_as-requires-clause-takes g c = takes g.T.Lawful.is_lawful _ _

pub steal_as-requires-clause-empty : goal.steal_as-requires-clause-empty
steal_as-requires-clause-empty g c = finds_few g.T.Lawful.is_lawful _ _ _ (search rules)
