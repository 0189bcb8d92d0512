use Rattle.std.proofs.Common.{◌≡◌, sym, ap, ◌∙◌, subst, List, map, IfOk}
use Rattle.hk_fix.specs.Fix.{Ending}
use Rattle.hk_fix.specs.Outcomes.{outcome_view}
use Rattle.hk_fix.specs.Report.{CanReport, report_of}
use Rattle.hk_fix.proofs.Empties.{empty-of}
use Rattle.hk_fix.proofs.Reports.{firsts-in}
use Rattle.hk_fix.proofs.ending.report.Goals as goal

pub report_on-requires-clause-firsts : goal.report_on-requires-clause-firsts
report_on-requires-clause-firsts c =
    let same : map outcome_view c.deref.result.now ≡ c.args.results.now.outcomes = ap (map outcome_view) c.deref.ensures.value ∙ ap (λ r. r.outcomes) c.results.view_is in
    firsts-in c.args.layout.now c.deref.result.now (subst (CanReport c.args.layout.now) (sym same) c.requires)

pub returns-clause-empty : goal.returns-clause-empty
returns-clause-empty c =
    let same : map outcome_view c.deref.result.now ≡ c.args.results.now.outcomes = ap (map outcome_view) c.deref.ensures.value ∙ ap (λ r. r.outcomes) c.results.view_is in
    empty-of c.args.layout.now c.args.results.now.outcomes c.report_on.result
    (subst (λ (l : List Ending). IfOk c.report_on.result (λ r. r ≡ report_of c.args.layout.now l)) same c.report_on.ensures)
