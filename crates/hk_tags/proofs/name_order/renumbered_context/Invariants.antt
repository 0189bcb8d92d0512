use Rattle.std.proofs.Common.{◌≡◌, ◌++◌, map}
use Rattle.std.specs.Vec.Iter.{into_iter_items}
use Rattle.hk_tags.specs.NameOrder.{field_by}
use Rattle.hk_tags.proofs.name_order.renumbered_context.Given as goal

abbrev pub invariant-loop-field : goal.invariant-loop-field
invariant-loop-field l = l.renumbered.items ++ map (field_by l.numbers) (into_iter_items l.field-iterator) ≡ map (field_by l.numbers) l.fn.context.fields
