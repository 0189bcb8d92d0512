use Rattle.std.proofs.Common.{◌≡◌, drop}
use Rattle.hk_forms.specs.Members.{fits}
use Rattle.hk_steps.specs.StepForm.{saves_of}
use Rattle.hk_steps.proofs.step_form.saves_fit.Given as goal

abbrev pub invariant-loop-step : goal.invariant-loop-step
invariant-loop-step l = fits saves_of l.room (drop l.step-index l.steps) ≡ fits saves_of 16 l.steps
