use Rattle.std.proofs.Common.{◌≡◌}
use Rattle.toml.specs.View.{members_view}
use Rattle.hk_rules_file.specs.RuleForm.{first_other}
use Rattle.hk_rules_file.specs.TableForm.{is_table_key}
use Rattle.hk_rules_file.proofs.table_form.other_key.Given as goal

abbrev pub invariant-loop-key : goal.invariant-loop-key
invariant-loop-key l =
    (goal.iterator-loop-key).can_next l.key-iterator × (goal.iterator-loop-key).is_finite l.key-iterator
    × (first_other (is_table_key l.kind) (members_view l.key-iterator) ≡ first_other (is_table_key l.kind) (members_view l.table.entries))
