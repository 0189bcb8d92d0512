use Rattle.std.proofs.Common.{◌≡◌, ◌∙◌, ap, sym, subst, map, List}
use Rattle.hk_build.specs.Built.{AreResults}
use Rattle.hk_build.specs.Planned.{IsPlanned}
use Rattle.hk_fix.specs.Fix.{Ending}
use Rattle.hk_fix.specs.Outcomes.{outcome_view}
use Rattle.hk_reuse.specs.Entries.{no_entries}
use Rattle.hk_app.specs.Checking.{CompilesTo}
use Rattle.hk_app.specs.Promise.{deps_lines}
use Rattle.hk_app.proofs.Checkings.{stopped-check, tells, told-deps, whole-check}
use Rattle.hk_app.proofs.checking.tell_deps.Goals as goal

pub returns-in-Stopped : goal.returns-in-Stopped
returns-in-Stopped c = stopped-check deps_lines c.args.plan c.in_ok-plan.plan c.in_ok-ended.field-0 c.in-Stopped.ended c.in_ok-plan.ensures c.in-Stopped.is c.in_ok-ended.ensures

pub deps_text-requires : goal.deps_text-requires
deps_text-requires c =
    let plan = c.in_ok-plan.plan in
    let planned : IsPlanned plan = subst IsPlanned (sym c.in_ok-plan.ensures) c.requires in
    let results : AreResults plan no_entries c.in-Whole.results = (subst (CompilesTo plan) c.in-Whole.is c.in_ok-ended.ensures).results in
    let ends : map outcome_view c.deref.result.now ≡ c.in-Whole.results.outcomes = ap (map outcome_view) c.deref.ensures.value ∙ ap (λ r. r.outcomes) c.results.view_is in
    tells plan c.get.result.now planned c.get.ensures c.in-Whole.results results (map outcome_view c.deref.result.now) ends

pub returns : goal.returns
returns c =
    let plan = c.in_ok-plan.plan in
    let results : AreResults plan no_entries c.in-Whole.results = (subst (CompilesTo plan) c.in-Whole.is c.in_ok-ended.ensures).results in
    let ends : map outcome_view c.deref.result.now ≡ c.in-Whole.results.outcomes = ap (map outcome_view) c.deref.ensures.value ∙ ap (λ r. r.outcomes) c.results.view_is in
    whole-check deps_lines c.args.plan plan c.get.result.now c.in_ok-ended.field-0 c.in-Whole.results c.shown.result c.in_ok-deps_text-in-Whole.field-0
    c.in_ok-plan.ensures c.get.ensures c.in-Whole.is c.in_ok-ended.ensures
    (told-deps plan c.get.result.now c.get.ensures c.in-Whole.results results (map outcome_view c.deref.result.now) ends c.in_ok-deps_text-in-Whole.field-0 c.in_ok-deps_text-in-Whole.ensures) c.shown.ensures
