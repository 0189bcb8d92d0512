use Rattle.std.proofs.Common.{rules}
use Rattle.hk_steal.proofs.Decking.{splits}
use Rattle.hk_steal.proofs.owner.Owner.thief.Goals as goal

pub another-pass-requires : goal.another-pass-requires
another-pass-requires g c = splits g.T.Lawful.is_lawful _ _ (search rules)
