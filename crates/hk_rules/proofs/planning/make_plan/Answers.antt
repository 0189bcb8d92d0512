use Rattle.std.proofs.Common.{sym, ap, ◌∙◌, subst, Err}
use Rattle.std.proofs.lemmas.Result.{err_from_is_err_and}
use Rattle.hk_base.specs.Answers.{Answers}
use Rattle.hk_rules.specs.Outcomes.{Passes}
use Rattle.hk_rules.specs.Planning.{name_fault, plan_of}
use Rattle.hk_rules.specs.Sources.{sources}
use Rattle.hk_rules.specs.Universe.{universe, Enough}
use Rattle.hk_rules_file.specs.Linked.{IsLinked}
use Rattle.hk_rules.proofs.LinkedPlans.{enough-linked}
use Rattle.hk_rules.proofs.Planned.{plan_of-stop, plan_of-on}
use Rattle.hk_rules.proofs.planning.make_plan.Goals as goal

pub returns-in_err-check_names : goal.returns-in_err-check_names
returns-in_err-check_names c =
    let p = err_from_is_err_and c.from_residual.result c.from_residual.ensures.1 in
    let stop = subst (λ fs. Passes {T = Unit {0}} (name_fault fs) (Err c.in_err-check_names.field-0.0)) c.deref.ensures.value c.in_err-check_names.ensures in
    rw (p.1, p.2) (plan_of-stop (Unit {0}) c.args.rules c.args.files.items c.in_err-check_names.field-0.0 stop)

pub plan_items-requires-clause-linked : goal.plan_items-requires-clause-linked
plan_items-requires-clause-linked c = λ few.
    let whole = c.deref-2.ensures.value ∙ c.in_ok-sources.ensures in
    let are = subst (λ s. Enough c.in_ok-items.items.items (universe s c.rules.inside.rules.items)) whole c.in_ok-items.ensures.items in
    enough-linked _ (sources c.args.files.items) c.in_ok-items.items.items (subst IsLinked (sym c.rules.view_is) c.requires) are few

pub returns : goal.returns
returns c =
    let free = ap name_fault (sym c.deref.ensures.value) ∙ c.in_ok-check_names.ensures in
    let whole = c.deref-2.ensures.value ∙ c.in_ok-sources.ensures in
    let are = subst (λ s. Enough c.in_ok-items.items.items (universe s c.rules.inside.rules.items)) whole c.in_ok-items.ensures.items in
    subst (λ rs. Answers (plan_of rs c.args.files.items) c.plan_items.result) c.rules.view_is
    (plan_of-on _ c.args.files.items c.in_ok-items.items.items c.plan_items.result free are c.plan_items.ensures)
