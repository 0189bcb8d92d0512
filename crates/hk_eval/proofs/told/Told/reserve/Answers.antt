use Rattle.std.proofs.Common.{arith}
use Rattle.hk_eval.proofs.Telling.{list-turn}
use Rattle.hk_eval.proofs.told.Told.reserve.Goals as goal

pub loop-pair-preserved : goal.loop-pair-preserved
loop-pair-preserved c = list-turn c.args.self.now c.loop-pair.self c.list.new.self c.args.pairs.now c.loop-pair.pair-index c.pair-item.result (omega arith) c.pair-item.is c.loop-pair.invariant c.list.ensures.pages c.in_ok-list.ensures.listed c.list.ensures.kept
