-- Steps of a chain and fields of a context, by whether their number fits.
use Rattle.std.proofs.Common.{◌≡◌, ◌∙◌, List, Bool, None, cond, length, ap, sym}
use Rattle.toml.specs.declared.value.Value.{Value}
use Rattle.toml.specs.View.{items_view}
use Rattle.hk_forms.specs.Members.{each}
use Rattle.hk_forms.proofs.Tables.{count_items-view}
use Rattle.hk_steps.specs.StepForm.{fits_chain, few_saves, step_of, steps_in}
use Rattle.hk_steps.specs.FieldForm.{fits_context, not_wide, field_of, fields_in}

pub steps_in-fit : (created : Bool) (vs : List Value) (fit : Bool) → fit ≡ fits_chain (length vs) → cond fit (few_saves (each (step_of created) (items_view vs))) None ≡ steps_in created (items_view vs)
steps_in-fit created vs fit m = ap (λ b. cond b (few_saves (each (step_of created) (items_view vs))) None) (m ∙ ap fits_chain (sym (count_items-view vs)))

pub fields_in-fit : (vs : List Value) (fit : Bool) → fit ≡ fits_context (length vs) → cond fit (not_wide (each field_of (items_view vs))) None ≡ fields_in (items_view vs)
fields_in-fit vs fit m = ap (λ b. cond b (not_wide (each field_of (items_view vs))) None) (m ∙ ap fits_context (sym (count_items-view vs)))
