-- What the report of a build's results says.
use Rattle.std.proofs.Common.{◌≡◌, ap, ◌∙◌, sym, true, false, List}
use Rattle.hk_base.specs.Bytes.{Bytes}
use Rattle.hk_chain.specs.Layout.{Shape}
use Rattle.hk_fix.specs.Fix.{Ending}
use Rattle.hk_fix.specs.Report.{ReportView, report_of}
use Rattle.hk_fix.specs.Results.{ResultsView}
use Rattle.hk_machine.specs.Machine.{plan_shape}
use Rattle.hk_reuse.specs.Entries.{Entries}
use Rattle.hk_rules.specs.Plan.{lookups}
use Rattle.hk_rules.specs.PlanView.{PlanView}
use Rattle.hk_texts.specs.ReportText.{report_text}
use Rattle.hk_build.specs.Build.{endings, is_empty, report}
use Rattle.hk_build.specs.Built.{AreResults}
use Rattle.hk_build.specs.Reported.{IsReported}
use Rattle.std.specs.Prelude.{None, Some}

module _ (plan : PlanView) (r : ResultsView) (lay : Shape) (lay-is : lay ≡ plan_shape plan) (left : ReportView) (left-is : left ≡ report_of lay r.outcomes) (entries : Entries) (h : AreResults plan entries r) where
  the-report : left ≡ report plan entries
  the-report = left-is ∙ (λ i. report_of (lay-is i) (h.endings i))

  -- nothing is left to report
  pub all-done : is_empty left ≡ true → IsReported plan entries None
  all-done e = sym (ap is_empty the-report) ∙ e

  -- something is
  pub some-left : is_empty left ≡ false → (ends : List Ending) → ends ≡ r.outcomes → (text : Bytes) → text ≡ report_text (lookups plan) ends left → IsReported plan entries (Some text)
  some-left e ends ends-is text is = (sym (ap is_empty the-report) ∙ e, is ∙ (λ i. report_text (lookups plan) ((ends-is ∙ h.endings) i) (the-report i)))
