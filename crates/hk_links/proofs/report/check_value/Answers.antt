use Rattle.std.proofs.Common.{rules, tests, ◌≡◌, ◌∙◌, true, false, ap, sym}
use Rattle.hk_links.specs.Path.{resolved}
use Rattle.hk_links.specs.Report.{is_target}
use Rattle.hk_links.specs.Value.{is_internal}
use Rattle.hk_links.proofs.ReportLemmas.{adds_broken, adds_whole}
use Rattle.hk_links.proofs.report.check_value.Goals as goal

pub returns-then-found : goal.returns-then-found
returns-then-found c =
    let inner : is_internal c.args.value ≡ true = search (rules, tests) in
    let same = ap (λ value. is_target c.args.targets.now (resolved c.args.target.now value)) (sym c.as_slice-2.ensures) in
    adds_whole c.args.targets.now c.args.number c.args.target.now c.args.value _ _ inner (same ∙ sym c.in_ok-found.ensures ∙ c.if-found.true) c.count.ensures

pub returns : goal.returns
returns c =
    let inner : is_internal c.args.value ≡ true = search (rules, tests) in
    let same = ap (λ value. is_target c.args.targets.now (resolved c.args.target.now value)) (sym c.as_slice-2.ensures) in
    adds_broken c.args.targets.now c.args.number c.args.target.now c.args.value _ _ _ inner (same ∙ sym c.in_ok-found.ensures ∙ c.if-found.false) c.count.ensures c.in_ok-keep.ensures
