use Rattle.std.proofs.Common.{refl}
use Rattle.std.proofs.lemmas.List.{map-set}
use Rattle.hk_sched.proofs.place.take_place.Goals as goal

pub returns-clause-places : goal.returns-clause-places
returns-clause-places g c = rw (map-set, c.replace.ensures.after) refl
