use Rattle.std.proofs.Common.{rules}
use Rattle.hk_lock.proofs.Turning.{lends}
use Rattle.hk_lock.proofs.turn_lock.TurnLock.split.Goals as goal

pub split_seat-place-requires : goal.split_seat-place-requires
split_seat-place-requires g c = (search rules, search rules, lends g.B.Lawful.is_lawful _ _ _ (search rules) (search rules))
