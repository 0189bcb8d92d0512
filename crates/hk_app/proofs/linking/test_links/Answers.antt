use Rattle.hk_app.proofs.Linkings.{stopped-links, whole-links}
use Rattle.hk_app.proofs.linking.test_links.Goals as goal

pub returns-in-Stopped : goal.returns-in-Stopped
returns-in-Stopped c = stopped-links c.args.plan c.in_ok-plan.plan c.in_ok-ended.field-0 c.in-Stopped.ended c.in_ok-plan.ensures c.in-Stopped.is c.in_ok-ended.ensures

pub returns : goal.returns
returns c =
    whole-links c.args.plan c.in_ok-plan.plan c.get.result.now c.in_ok-ended.field-0 c.in-Whole.results c.in_ok-link_lines-in-Whole.field-0 c.tested.result c.in_ok-plan.ensures c.get.ensures c.in-Whole.is c.in_ok-ended.ensures
    c.in_ok-link_lines-in-Whole.ensures c.tested.ensures.status c.tested.ensures.text
