use Rattle.std.proofs.Common.{rules}
use Rattle.hk_steal.proofs.Decking.{pushes}
use Rattle.hk_steal.proofs.owner.Owner.push.Goals as goal

pub push_as-requires-clause-pushes : goal.push_as-requires-clause-pushes
push_as-requires-clause-pushes g c = pushes g.T.Lawful.is_lawful _ _ _ (search rules)
