use Rattle.std.proofs.Common.{◌∙◌, ap, sym, true, false}
use Rattle.hk_steps.specs.StepForm.{few_saves}
use Rattle.hk_steps.proofs.Fits.{steps_in-fit}
use Rattle.hk_steps.proofs.step_form.steps_in.Goals as goal

pub returns-then-fits_chain : goal.returns-then-fits_chain
returns-then-fits_chain c =
    c.few_saves.ensures ∙ ap few_saves c.in_ok-each_step.ensures ∙ steps_in-fit c.args.created c.args.items.now true (sym c.if-fits_chain.true ∙ c.fits_chain.ensures)

pub returns : goal.returns
returns c = steps_in-fit c.args.created c.args.items.now false (sym c.if-fits_chain.false ∙ c.fits_chain.ensures)
