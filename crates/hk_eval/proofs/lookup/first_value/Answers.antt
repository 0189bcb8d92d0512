use Rattle.std.proofs.Common.{◌≡◌, ap, ◌∙◌, subst, List, ◌≤◌, length, drop_of_length-le}
use Rattle.hk_chain.specs.Context.{ContextView}
use Rattle.hk_chain.specs.declared.context.Field.{Field}
use Rattle.hk_fix.specs.Pages.{Pages}
use Rattle.hk_fix.specs.Task.{Task, done, run}
use Rattle.hk_rules.specs.Plan.{Lookups, lookups}
use Rattle.hk_eval.specs.Fields.{value_task}
use Rattle.hk_eval.specs.Replies.{RunsOn, look_end}
use Rattle.hk_eval.specs.Told.{told_pages}
use Rattle.hk_eval.specs.Value.{Value, absent}
use Rattle.hk_eval.specs.declared.look.Look.{Look}
use Rattle.hk_eval.proofs.Looks.{Looked, looked-found-at, looked-more-at, looked-all, first-fields}
use Rattle.hk_eval.proofs.lookup.first_value.Goals as goal

pub returns-in_default : goal.returns-in_default
returns-in_default c =
    let plan : Lookups = lookups c.args.plan.now in
    let k : Pages = told_pages c.args.told.now in
    let fs : List Field = c.deref-field-items.result.now in
    let own : fs ≡ (plan.context c.args.here.now.context).fields = c.deref-field-items.ensures.value ∙ ap (λ (v : ContextView). v.fields) (c.behind-plan.view_is ∙ c.context.ensures) in
    subst (λ (t : Task Value). RunsOn c.args.asked.now.items c.value.new.asked.items (run t k) (look_end c.in_ok-found.found)) (first-fields plan c.args.here.now c.args.key.now fs own)
    (looked-found-at plan k c.args.here.now c.args.key.now fs c.args.asked.now.items c.loop-field.asked.items c.value.new.asked.items c.loop-field.field-index c.field-item.result c.in_ok-found.found c.loop-field-test.true c.field-item.is c.in_default.not-Absent c.loop-field.invariant c.in_ok-found.ensures)

pub loop-field-preserved : goal.loop-field-preserved
loop-field-preserved c =
    let plan : Lookups = lookups c.args.plan.now in
    let k : Pages = told_pages c.args.told.now in
    let none : RunsOn c.loop-field.asked.items c.value.new.asked.items (run (value_task plan c.args.here.now c.args.key.now c.field-item.result) k) (done absent) =
    subst (λ (v : Look). RunsOn c.loop-field.asked.items c.value.new.asked.items (run (value_task plan c.args.here.now c.args.key.now c.field-item.result) k) (look_end v)) c.in-Absent.is c.in_ok-found.ensures in
    looked-more-at plan k c.args.here.now c.args.key.now c.deref-field-items.result.now c.args.asked.now.items c.loop-field.asked.items c.value.new.asked.items c.loop-field.field-index c.field-item.result c.loop-field-test.true c.field-item.is c.loop-field.invariant none

pub returns : goal.returns
returns c =
    let plan : Lookups = lookups c.args.plan.now in
    let k : Pages = told_pages c.args.told.now in
    let fs : List Field = c.deref-field-items.result.now in
    let own : fs ≡ (plan.context c.args.here.now.context).fields = c.deref-field-items.ensures.value ∙ ap (λ (v : ContextView). v.fields) (c.behind-plan.view_is ∙ c.context.ensures) in
    let over : length fs ≤ c.loop-field.field-index = c.loop-field-test.false in
    subst (λ (t : Task Value). RunsOn c.args.asked.now.items c.loop-field.asked.items (run t k) (done absent)) (first-fields plan c.args.here.now c.args.key.now fs own)
    (looked-all plan k c.args.here.now c.args.key.now fs c.args.asked.now.items c.loop-field.asked.items
    (subst (Looked plan k c.args.here.now c.args.key.now fs c.args.asked.now.items c.loop-field.asked.items) (drop_of_length-le fs over) c.loop-field.invariant))
