use Rattle.hk_eval.specs.Told.{told_pages}
use Rattle.hk_eval.proofs.Placings.{PlacedTo}
use Rattle.hk_eval.proofs.list.places_of.Given as goal

abbrev pub invariant-loop-i : goal.invariant-loop-i
invariant-loop-i l = PlacedTo (told_pages l.told) l.context l.items l.pairs l.places.items l.i
