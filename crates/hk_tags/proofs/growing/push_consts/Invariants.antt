use Rattle.std.proofs.Common.{◌≡◌, ◌++◌, map}
use Rattle.std.specs.Vec.Iter.{into_iter_items}
use Rattle.hk_tags.specs.Growing.{const_field}
use Rattle.hk_tags.proofs.growing.push_consts.Given as goal

abbrev pub invariant-loop-key : goal.invariant-loop-key
invariant-loop-key l = l.fields.items ++ map const_field (into_iter_items l.key-iterator) ≡ l.initial.fields.items ++ map const_field l.fn.own.items
