use Rattle.std.proofs.Common.{◌∙◌, ap}
use Rattle.hk_links.specs.Report.{is_target}
use Rattle.hk_links.proofs.report.leads.Goals as goal

pub returns : goal.returns
returns c = c.is_target.ensures ∙ ap (is_target c.args.targets.now) (c.as_slice.ensures ∙ c.in_ok-path.ensures)
