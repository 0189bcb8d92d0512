use Rattle.hk_app.proofs.Generatings.{over-nothing}
use Rattle.hk_app.proofs.Stocks.{none-stored}
use Rattle.hk_app.proofs.pool.generate.Goals as goal

pub build_in_pool-requires-clause-stored : goal.build_in_pool-requires-clause-stored
build_in_pool-requires-clause-stored g c κs within = none-stored c.nothing_stored-nothing.result c.nothing_stored-nothing.ensures

pub tell_generated-requires : goal.tell_generated-requires
tell_generated-requires g c =
    over-nothing c.in_ok-plan-in-Planned.plan c.get.result.now c.nothing_stored-nothing.result c.in_ok-build-in-Planned.build c.get.ensures c.nothing_stored-nothing.ensures c.in_ok-build-in-Planned.ensures
