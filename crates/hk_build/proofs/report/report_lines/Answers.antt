use Rattle.std.proofs.Common.{◌≡◌, ap, sym, ◌∙◌, subst, map}
use Rattle.hk_fix.specs.Outcomes.{outcome_view}
use Rattle.hk_fix.specs.Report.{CanReport, report_of}
use Rattle.hk_rules.specs.Pairs.{layout}
use Rattle.hk_build.proofs.Judging.{all-done, some-left}
use Rattle.hk_build.proofs.Numbers.{shape-is}
use Rattle.hk_build.proofs.report.report_lines.Goals as goal

pub returns-then-is_empty : goal.returns-then-is_empty
returns-then-is_empty c = λ entries h. all-done c.args.plan.now c.args.results.now c.get.result.now (c.get.ensures ∙ c.layout.ensures) c.in_ok-left.left c.in_ok-left.ensures.value entries h (sym c.if-is_empty.ensures)

pub report_text-requires-clause-ended : goal.report_text-requires-clause-ended
report_text-requires-clause-ended c =
    let ends : map outcome_view c.deref.result.now ≡ c.args.results.now.outcomes = ap (map outcome_view) c.deref.ensures.value ∙ ap (λ r. r.outcomes) c.results.view_is in
    subst (λ es. CanReport (layout c.args.plan.now.items) es) (sym ends) (subst (λ lay. CanReport lay c.args.results.now.outcomes) (shape-is c.args.plan.now) c.requires.1.reported)

pub report_text-requires-clause-report : goal.report_text-requires-clause-report
report_text-requires-clause-report c =
    let ends : map outcome_view c.deref.result.now ≡ c.args.results.now.outcomes = ap (map outcome_view) c.deref.ensures.value ∙ ap (λ r. r.outcomes) c.results.view_is in
    c.in_ok-left.ensures.value ∙ (λ i. report_of ((c.get.ensures ∙ c.layout.ensures ∙ shape-is c.args.plan.now) i) (sym ends i))

pub returns : goal.returns
returns c =
    let ends : map outcome_view c.deref.result.now ≡ c.args.results.now.outcomes = ap (map outcome_view) c.deref.ensures.value ∙ ap (λ r. r.outcomes) c.results.view_is in
    λ entries h. some-left c.args.plan.now c.args.results.now c.get.result.now (c.get.ensures ∙ c.layout.ensures) c.in_ok-left.left c.in_ok-left.ensures.value entries h (sym c.if-is_empty.ensures) (map outcome_view c.deref.result.now) ends c.in_ok-text.text c.in_ok-text.ensures
