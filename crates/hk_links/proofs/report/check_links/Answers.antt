use Rattle.std.proofs.Common.{◌<◌, All, arith, length, subst, sym}
use Rattle.hk_chain.specs.declared.page.Page.{Page}
use Rattle.hk_links.specs.declared.broken.Broken.{Broken}
use Rattle.hk_links.specs.Report.{Adds, Report, page_links, target_at}
use Rattle.hk_links.proofs.ReportLemmas.{report_within, site_turn, site_whole}
use Rattle.hk_links.proofs.report.check_links.Goals as goal

pub loop-number-preserved : goal.loop-number-preserved
loop-number-preserved c =
    let targets = c.args.targets.now in
    let number = c.loop-number.number in
    site_turn targets c.args.pages.now number c.index-pages-number.result c.loop-number.report c.check_page.new.report (omega (arith, c.requires.paired, c.loop-number-test.true)) c.loop-number-test.true c.index-pages-number.is c.loop-number.invariant
    (subst (λ (page : Page). Adds targets (page_links number (target_at targets number) page) c.loop-number.report c.check_page.new.report) c.get.ensures c.in_ok-check_page.ensures)

pub returns-clause-within : goal.returns-clause-within
returns-clause-within c =
    let targets = c.args.targets.now in
    subst (λ (report : Report). All (λ (broken : Broken). broken.page < length targets) report.broken)
    (sym (site_whole targets c.args.pages.now c.loop-number.number c.loop-number.report c.loop-number-test.false (omega (arith, c.requires.paired, c.loop-number-test.false)) c.loop-number.invariant))
    (report_within targets c.args.pages.now)
