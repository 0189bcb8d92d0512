use Rattle.std.proofs.Common.{◌≡◌, map, take}
use Rattle.std.specs.List.{list_all, list_any}
use Rattle.hk_rules.specs.Flags.{is_chosen}
use Rattle.hk_rules.proofs.matching.+flagging.Given as goal

abbrev pub invariant-flags_of_all-loop-pattern : goal.invariant-flags_of_all-loop-pattern
invariant-flags_of_all-loop-pattern l = l.flags.items ≡ map (λ item. list_all (λ p. is_chosen p item) (take l.pattern-index l.patterns)) l.items

abbrev pub invariant-flags_of_any-loop-pattern : goal.invariant-flags_of_any-loop-pattern
invariant-flags_of_any-loop-pattern l = l.flags.items ≡ map (λ item. list_any (λ p. is_chosen p item) (take l.pattern-index l.patterns)) l.items
