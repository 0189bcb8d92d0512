use Rattle.std.proofs.Common.{rules}
use Rattle.hk_lock.proofs.Turning.{opens}
use Rattle.hk_lock.proofs.turn_lock.TurnLock.under.Goals as goal

pub new-requires : goal.new-requires
new-requires g c = opens g.B.Lawful.is_lawful _ c.args.board _ _ (search rules) (search rules) (search rules)
