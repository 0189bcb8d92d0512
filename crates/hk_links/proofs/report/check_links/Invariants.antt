use Rattle.std.proofs.Common.{◌≡◌, take}
use Rattle.hk_links.specs.Report.{site_links, report_on}
use Rattle.hk_links.proofs.report.check_links.Given as goal

abbrev pub invariant-loop-number : goal.invariant-loop-number
invariant-loop-number l =
    l.report ≡ report_on l.targets (site_links 0 (take l.number l.targets) (take l.number l.pages))
