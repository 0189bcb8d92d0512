use Rattle.std.proofs.Common.{◌∙◌}
use Rattle.hk_texts.proofs.ReportNumbers.{plan-report-within}
use Rattle.hk_texts.proofs.report.report_text.Goals as goal

pub write_report-requires : goal.write_report-requires
write_report-requires c = plan-report-within c.args.plan.now c.args.outcomes.now c.args.report.now c.get.result.now c.items-items.ensures.valid (c.get.ensures ∙ c.layout.ensures) c.requires.ended c.requires.report
