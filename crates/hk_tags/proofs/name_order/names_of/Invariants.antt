use Rattle.std.proofs.Common.{◌≡◌, take}
use Rattle.hk_rules_file.specs.Linked.{context_names}
use Rattle.hk_tags.proofs.name_order.names_of.Given as goal

abbrev pub invariant-loop-context : goal.invariant-loop-context
invariant-loop-context l = l.names.items ≡ context_names (take l.context-index l.contexts)
