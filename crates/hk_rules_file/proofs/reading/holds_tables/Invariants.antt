use Rattle.std.proofs.Common.{◌≡◌}
use Rattle.toml.specs.View.{members_view}
use Rattle.hk_rules_file.specs.RulesForm.{hold_tables}
use Rattle.hk_rules_file.proofs.reading.holds_tables.Given as goal

abbrev pub invariant-loop-key : goal.invariant-loop-key
invariant-loop-key l =
    (goal.iterator-loop-key).can_next l._key-iterator × (goal.iterator-loop-key).is_finite l._key-iterator
    × (hold_tables (members_view l._key-iterator) ≡ hold_tables (members_view l.table.entries))
