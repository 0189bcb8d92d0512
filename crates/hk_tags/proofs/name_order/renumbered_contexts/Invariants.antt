use Rattle.std.proofs.Common.{◌≡◌, ◌++◌, map}
use Rattle.std.specs.Vec.Iter.{into_iter_items}
use Rattle.hk_tags.specs.NameOrder.{context_by}
use Rattle.hk_tags.proofs.name_order.renumbered_contexts.Given as goal

abbrev pub invariant-loop-context : goal.invariant-loop-context
invariant-loop-context l = l.renumbered.items ++ map (context_by l.numbers) (into_iter_items l.context-iterator) ≡ map (context_by l.numbers) l.fn.contexts.items
