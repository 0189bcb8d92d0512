use Rattle.hk_app.proofs.Generatings.{over-nothing}
use Rattle.hk_app.proofs.Stocks.{none-stored}
use Rattle.hk_app.proofs.generating.generate.Goals as goal

pub build_one-requires-clause-stored : goal.build_one-requires-clause-stored
build_one-requires-clause-stored c = none-stored c.nothing_stored.result c.nothing_stored.ensures

pub tell_generated-requires : goal.tell_generated-requires
tell_generated-requires c =
    over-nothing c.in_ok-plan-in-Planned.plan c.get.result.now c.nothing_stored.result c.in_ok-build-in-Planned.build c.get.ensures c.nothing_stored.ensures c.in_ok-build-in-Planned.ensures
