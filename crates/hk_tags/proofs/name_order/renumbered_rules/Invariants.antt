use Rattle.std.proofs.Common.{◌≡◌, ◌++◌, map}
use Rattle.std.specs.Vec.Iter.{into_iter_items}
use Rattle.hk_tags.specs.NameOrder.{rule_by}
use Rattle.hk_tags.proofs.name_order.renumbered_rules.Given as goal

abbrev pub invariant-loop-rule : goal.invariant-loop-rule
invariant-loop-rule l = l.renumbered.items ++ map (rule_by l.numbers) (into_iter_items l.rule-iterator) ≡ map (rule_by l.numbers) l.fn.rules.items
