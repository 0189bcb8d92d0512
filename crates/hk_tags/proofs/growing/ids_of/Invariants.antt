use Rattle.std.proofs.Common.{◌≡◌, map, take}
use Rattle.hk_rules.specs.Plan.{lookups}
use Rattle.hk_tags.proofs.growing.ids_of.Given as goal

abbrev pub invariant-loop-item : goal.invariant-loop-item
invariant-loop-item l = l.ids ≡ map (lookups l.base).id (take l.item-index l.items)
