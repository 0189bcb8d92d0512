use Rattle.std.proofs.Common.{◌≡◌, drop}
use Rattle.hk_forms.specs.Members.{fits}
use Rattle.hk_steps.specs.FieldForm.{width}
use Rattle.hk_steps.proofs.field_form.widths_fit.Given as goal

abbrev pub invariant-loop-field : goal.invariant-loop-field
invariant-loop-field l = fits width l.room (drop l.field-index l.fields) ≡ fits width 64 l.fields
