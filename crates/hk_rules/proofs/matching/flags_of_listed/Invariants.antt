use Rattle.std.proofs.Common.{◌≡◌, map, take}
use Rattle.std.specs.List.{list_any}
use Rattle.hk_rules.specs.Flags.{is_item}
use Rattle.hk_rules.proofs.matching.flags_of_listed.Given as goal

abbrev pub invariant-loop-id : goal.invariant-loop-id
invariant-loop-id l = l.flags.items ≡ map (λ item. list_any (λ id. is_item id item) (take l.id-index l.ids)) l.items
