-- What is reported of a build's results.
use Rattle.std.specs.Prelude.{◌≡◌, true, false, Option, Some, None}
use Rattle.hk_base.specs.Bytes.{Bytes}
use Rattle.hk_fix.specs.Results.{ResultsView}
use Rattle.hk_reuse.specs.Entries.{Entries}
use Rattle.hk_rules.specs.Plan.{lookups}
use Rattle.hk_rules.specs.PlanView.{PlanView}
use Rattle.hk_texts.specs.ReportText.{report_text}
use Rattle.hk_build.specs.Build.{endings, is_empty, report}
use Rattle.hk_build.specs.Built.{AreResults}

-- results of a build over some entries
abbrev pub HasEntries : PlanView → ResultsView → Type 0
HasEntries plan r = (entries : Entries) × AreResults plan entries r

-- nothing, exactly where each item is done, and else the text of the report
abbrev pub IsReported : PlanView → Entries → Option Bytes → Type 0
IsReported plan entries None = is_empty (report plan entries) ≡ true
IsReported plan entries (Some text) = (is_empty (report plan entries) ≡ false) × (text ≡ report_text (lookups plan) (endings plan entries) (report plan entries))
