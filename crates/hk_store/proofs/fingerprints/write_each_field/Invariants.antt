use Rattle.std.proofs.Common.{◌≡◌, ◌++◌, map, drop}
use Rattle.std.specs.List.{flat_map}
use Rattle.hk_rules.specs.Plan.{lookups}
use Rattle.hk_rules.specs.Recipe.{named_field}
use Rattle.hk_store.specs.RecipeText.{field_text}
use Rattle.hk_store.proofs.fingerprints.write_each_field.Given as goal

-- the text so far and that of the rest are all
abbrev pub invariant-loop-field : goal.invariant-loop-field
invariant-loop-field l = l.out.items ++ flat_map field_text (map (named_field (lookups l.plan)) (drop l.field-index l.fields)) ≡ l.fn.out.items ++ flat_map field_text (map (named_field (lookups l.plan)) l.fields)
