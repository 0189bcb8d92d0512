use Rattle.std.proofs.Common.{rules}
use Rattle.hk_lock.proofs.Turning.{returns}
use Rattle.hk_lock.proofs.turn_lock.TurnLock.join.Goals as goal

pub join_seat-requires : goal.join_seat-requires
join_seat-requires g c = (search rules, search rules, search rules, search rules, returns g.B.Lawful.is_lawful _ _ _ _ _ (search rules) (search rules) (search rules) (search rules))
