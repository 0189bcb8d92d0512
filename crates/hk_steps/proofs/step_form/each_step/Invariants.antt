use Rattle.std.proofs.Common.{◌≡◌, drop}
use Rattle.toml.specs.View.{items_view}
use Rattle.hk_forms.specs.Members.{each}
use Rattle.hk_steps.specs.StepForm.{step_of}
use Rattle.hk_forms.proofs.Tables.{prepend}
use Rattle.hk_steps.proofs.step_form.each_step.Given as goal

-- the steps so far and those of the rest are all
abbrev pub invariant-loop-item : goal.invariant-loop-item
invariant-loop-item l = prepend l.steps (each (step_of l.created) (items_view (drop l.item-index l.items))) ≡ each (step_of l.created) (items_view l.items)
