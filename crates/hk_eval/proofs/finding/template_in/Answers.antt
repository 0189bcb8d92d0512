use Rattle.std.proofs.Common.{◌≡◌, sym, ◌∙◌, Some}
use Rattle.hk_chain.specs.declared.fault.Fault.TheVariants.{NoSnapshot}
use Rattle.hk_fix.specs.Pages.{Pages}
use Rattle.hk_chain.specs.Names.{final_name}
use Rattle.hk_eval.specs.Replies.{found_end}
use Rattle.hk_eval.specs.Told.{told_pages}
use Rattle.hk_eval.proofs.Comings.{template-made}
use Rattle.hk_eval.proofs.finding.template_in.Goals as goal

pub returns-clause-comes : goal.returns-clause-comes
returns-clause-comes c =
    let k : Pages = told_pages c.args.told.now in
    let at : k c.args.pair ≡ Some c.in-Some.page.now = sym c.in-Some.ensures in
    template-made k c.args.id.now (NoSnapshot c.args.id.now final_name) c.args.pair c.args.notes.now c.in-Some.page.now c.template_of.new.notes (found_end c.in_ok-found.found) at (c.in_ok-found.ensures.comes k) (c.template_of.ensures.same ∙ c.in_ok-note_group.ensures)
