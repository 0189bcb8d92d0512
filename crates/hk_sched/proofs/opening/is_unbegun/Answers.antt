use Rattle.std.proofs.Common.{refl}
use Rattle.hk_sched.proofs.Firsts.{not-first}
use Rattle.hk_sched.proofs.opening.is_unbegun.Goals as goal

pub returns-in-Unbegun : goal.returns-in-Unbegun
returns-in-Unbegun g c = rw c.in-Unbegun.is refl

pub returns-in_default : goal.returns-in_default
returns-in_default g c = not-first c.args.place.now c.in_default.not-Unbegun
