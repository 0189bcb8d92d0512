use Rattle.std.proofs.Common.{◌≡◌}
use Rattle.std.specs.Vec.Iter.{into_iter_items}
use Rattle.std.specs.FinMap.{empty}
use Rattle.hk_outside.specs.Held.{files_of, set_all}
use Rattle.hk_outside.proofs.held.Held.new.Given as goal

-- what is left, put on what is there, is all of it
abbrev pub invariant-loop-path : goal.invariant-loop-path
invariant-loop-path l = set_all (into_iter_items l.path-iterator) (files_of l.map.entries) ≡ set_all l.fn.files.items empty
