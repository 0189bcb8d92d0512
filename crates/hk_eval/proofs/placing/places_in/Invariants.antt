use Rattle.std.proofs.Common.{◌≡◌, ◌++◌, map}
use Rattle.std.specs.Vec.Iter.{into_iter_items}
use Rattle.hk_eval.specs.Lists.{place_in}
use Rattle.hk_eval.proofs.placing.places_in.Given as goal

abbrev pub invariant-loop-d : goal.invariant-loop-d
invariant-loop-d l = l.places.items ++ map place_in (into_iter_items l.d-iterator) ≡ map place_in l.fn.dated.items
