use Rattle.std.proofs.Common.{◌≡◌, drop}
use Rattle.toml.specs.View.{items_view}
use Rattle.hk_forms.specs.Members.{each}
use Rattle.hk_steps.specs.FieldForm.{field_of}
use Rattle.hk_forms.proofs.Tables.{prepend}
use Rattle.hk_steps.proofs.field_form.each_field.Given as goal

-- the fields so far and those of the rest are all
abbrev pub invariant-loop-item : goal.invariant-loop-item
invariant-loop-item l = prepend l.fields (each field_of (items_view (drop l.item-index l.items))) ≡ each field_of (items_view l.items)
