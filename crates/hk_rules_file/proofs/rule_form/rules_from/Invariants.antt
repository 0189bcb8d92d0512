use Rattle.std.proofs.Common.{◌≡◌, ◌+◌, [], drop}
use Rattle.toml.specs.View.{items_view}
use Rattle.hk_rules_file.specs.RuleForm.{rules_from}
use Rattle.hk_rules_file.proofs.rule_form.rules_from.Given as goal

-- the rest, from the rules so far, gives what all gives
abbrev pub invariant-loop-index : goal.invariant-loop-index
invariant-loop-index l = rules_from l.names (items_view (drop l.index l.items)) (l.index + 1) l.pool l.rules ≡ rules_from l.names (items_view l.items) 1 l.fn.pool []
