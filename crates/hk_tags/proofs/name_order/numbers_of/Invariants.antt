use Rattle.std.proofs.Common.{◌≡◌, map, take}
use Rattle.hk_tags.specs.NameOrder.{number_of}
use Rattle.hk_tags.proofs.name_order.numbers_of.Given as goal

abbrev pub invariant-loop-name : goal.invariant-loop-name
invariant-loop-name l = l.numbers.items ≡ map (number_of l.contexts) (take l.name-index l.names)
