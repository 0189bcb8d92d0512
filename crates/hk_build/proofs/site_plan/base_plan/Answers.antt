use Rattle.hk_build.proofs.SitePlans.{base-answers, untabled-linked}
use Rattle.hk_build.proofs.site_plan.base_plan.Goals as goal

pub plan_of_rules-requires : goal.plan_of_rules-requires
plan_of_rules-requires c = untabled-linked c.args.rules.now c.in_ok-untabled.untabled c.in_ok-untabled.ensures c.requires

pub returns : goal.returns
returns c =
    base-answers c.args.rules.now c.in_ok-untabled.untabled c.args.files.now c.in_ok-copies.copies.items c.plan_of_rules.result
    c.in_ok-untabled.ensures c.in_ok-copies.ensures c.plan_of_rules.ensures.value
