use Rattle.std.proofs.Common.{◌≡◌, ◌++◌, map}
use Rattle.std.specs.Vec.Iter.{into_iter_items}
use Rattle.hk_tags.specs.Dates.{item_in}
use Rattle.hk_tags.proofs.dates.items_in.Given as goal

abbrev pub invariant-loop-d : goal.invariant-loop-d
invariant-loop-d l = l.items.items ++ map item_in (into_iter_items l.d-iterator) ≡ map item_in l.fn.dated.items
