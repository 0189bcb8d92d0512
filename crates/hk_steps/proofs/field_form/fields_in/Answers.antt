use Rattle.std.proofs.Common.{◌∙◌, ap, sym, true, false}
use Rattle.hk_steps.specs.FieldForm.{not_wide}
use Rattle.hk_steps.proofs.Fits.{fields_in-fit}
use Rattle.hk_steps.proofs.field_form.fields_in.Goals as goal

pub returns-then-fits_context : goal.returns-then-fits_context
returns-then-fits_context c =
    c.not_wide.ensures ∙ ap not_wide c.in_ok-each_field.ensures ∙ fields_in-fit c.args.items.now true (sym c.if-fits_context.true ∙ c.fits_context.ensures)

pub returns : goal.returns
returns c = fields_in-fit c.args.items.now false (sym c.if-fits_context.false ∙ c.fits_context.ensures)
