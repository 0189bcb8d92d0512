use Rattle.hk_steal.proofs.Decking.{names_at}
use Rattle.hk_steal.proofs.owner.name.Goals as goal

pub another-requires : goal.another-requires
another-requires g c = names_at g.T.Lawful.is_lawful _ c.args.key.now.value _ _ _ c.requires.unnamed (c.requires.left _) (c.requires.right _)
