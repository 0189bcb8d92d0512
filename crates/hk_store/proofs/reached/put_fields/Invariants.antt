use Rattle.std.proofs.Common.{◌≡◌, drop}
use Rattle.std.specs.List.{flat_map}
use Rattle.hk_rules.specs.Recipe.{field_contexts}
use Rattle.hk_store.specs.Reached.{puts}
use Rattle.hk_store.proofs.reached.put_fields.Given as goal

-- the rest gives all
abbrev pub invariant-loop-field : goal.invariant-loop-field
invariant-loop-field l = puts l.numbers.items (flat_map field_contexts (drop l.field-index l.fields)) ≡ puts l.fn.numbers.items (flat_map field_contexts l.fields)
