use Rattle.std.proofs.Common.{rules}
use Rattle.hk_lock.proofs.Turning.{releases_laid}
use Rattle.hk_lock.proofs.turn_lock.TurnLock.give_back.Goals as goal

pub swap-requires : goal.swap-requires
swap-requires g c = (search rules, search rules, releases_laid g.B.Lawful.is_lawful _ _ _ _ c.seat.inside.place.me c.args.board c.exchange-slot.ensures.3 c.seat.invariant (search rules) (search rules))
