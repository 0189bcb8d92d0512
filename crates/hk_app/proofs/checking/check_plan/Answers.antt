use Rattle.std.proofs.Common.{◌∙◌, ap}
use Rattle.hk_texts.specs.Printed.{items_line}
use Rattle.hk_app.specs.Promise.{count_line}
use Rattle.hk_app.proofs.Checkings.{stopped-check, whole-check}
use Rattle.hk_app.proofs.checking.check_plan.Goals as goal

pub returns-in-Stopped : goal.returns-in-Stopped
returns-in-Stopped c = stopped-check count_line c.args.plan c.in_ok-plan.plan c.in_ok-ended.field-0 c.in-Stopped.ended c.in_ok-plan.ensures c.in-Stopped.is c.in_ok-ended.ensures

pub returns : goal.returns
returns c =
    whole-check count_line c.args.plan c.in_ok-plan.plan c.get.result.now c.in_ok-ended.field-0 c.in-Whole.field-0 c.shown.result c.in_ok-items_line-in-Whole.field-0
    c.in_ok-plan.ensures c.get.ensures c.in-Whole.is c.in_ok-ended.ensures (c.in_ok-items_line-in-Whole.ensures ∙ ap items_line c.count.ensures.items) c.shown.ensures
