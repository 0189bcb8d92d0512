use Rattle.hk_fix.specs.Walks.{Searched}
use Rattle.hk_fix.proofs.cycles.places.Given as goal

abbrev pub invariant-loop-start : goal.invariant-loop-start
invariant-loop-start l = Searched l.leads l.walks.items l.places.items l.start
