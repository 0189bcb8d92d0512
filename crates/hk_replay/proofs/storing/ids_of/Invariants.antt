use Rattle.std.proofs.Common.{◌≡◌, take, map}
use Rattle.hk_rules.specs.Plan.{id_at}
use Rattle.hk_replay.proofs.storing.ids_of.Given as goal

abbrev pub invariant-loop-item : goal.invariant-loop-item
invariant-loop-item l = l.ids.items ≡ map (id_at l.plan) (take l.item-index l.items)
