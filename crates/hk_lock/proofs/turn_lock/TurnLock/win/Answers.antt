use Rattle.std.proofs.Common.{rules}
use Rattle.hk_lock.proofs.Turning.{tries}
use Rattle.hk_lock.proofs.turn_lock.TurnLock.win.Goals as goal

pub compare_exchange-requires : goal.compare_exchange-requires
compare_exchange-requires g c = (search rules, search rules, tries g.B.Lawful.is_lawful _ _ _ _ (search rules) (search rules))
