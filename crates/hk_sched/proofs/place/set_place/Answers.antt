use Rattle.std.proofs.lemmas.List.{map-set}
use Rattle.hk_sched.proofs.place.set_place.Goals as goal

pub returns-clause-places : goal.returns-clause-places
returns-clause-places g c = map-set _ _ _ _
