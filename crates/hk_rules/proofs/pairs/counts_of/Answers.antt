use Rattle.std.proofs.Common.{sym, subst}
use Rattle.hk_rules.specs.Pairs.{IsShort}
use Rattle.hk_rules.proofs.PairNumbers.{all-at}
use Rattle.hk_rules.proofs.Pairing.{counts-turn}
use Rattle.hk_rules.proofs.pairs.counts_of.Goals as goal

pub counted-requires : goal.counted-requires
counted-requires c = subst IsShort (sym c.item-item.is) (all-at IsShort c.args.items.now c.loop-item.item-index c.item-item.result c.requires c.loop-item-test.true)

pub loop-item-preserved : goal.loop-item-preserved
loop-item-preserved c = counts-turn c.args.items.now c.loop-item.item-index c.item-item.result _ _ _ c.loop-item-test.true c.item-item.is c.counted.ensures c.loop-item.invariant c.in_ok-push.ensures.items
