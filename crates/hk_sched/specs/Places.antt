-- What a place of a board means.
use Rattle.hk_fix.specs.Outcomes.{outcome_view}
use Rattle.hk_sched.specs.declared.place.Place.{Place}
use Rattle.hk_sched.specs.declared.place.Place.TheVariants.{Unbegun, Again, Out, Held, Over}
use Rattle.hk_sched.specs.Standings.{Standing, unbegun, again, out, held, over}

abbrev pub standing : {X : Type 0} → Place X → Standing X
standing Unbegun = unbegun
standing Again = again
standing Out = out
standing (Held x) = held x
standing (Over e) = over (outcome_view e)
