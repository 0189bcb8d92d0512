use Rattle.std.proofs.Common.{◌≡◌, ◌++◌, map}
use Rattle.std.specs.Vec.Iter.{into_iter_items}
use Rattle.hk_tags.specs.NameOrder.{step_by}
use Rattle.hk_tags.proofs.name_order.renumbered_chain.Given as goal

abbrev pub invariant-loop-step : goal.invariant-loop-step
invariant-loop-step l = l.steps.items ++ map (step_by l.numbers) (into_iter_items l.step-iterator) ≡ map (step_by l.numbers) l.fn.chain
