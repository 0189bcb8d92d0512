use Rattle.hk_tags.proofs.Pooling.{pool-turn}
use Rattle.hk_tags.proofs.expanding.pool_of.Goals as goal

pub loop-pattern-preserved : goal.loop-pattern-preserved
loop-pattern-preserved c = pool-turn c.args.patterns.now c.loop-pattern.pool _ c.loop-pattern.pattern-index c.pattern-item.result c.requires c.loop-pattern-test.true c.pattern-item.is c.loop-pattern.invariant c.in_ok-pool.ensures
