use Rattle.std.proofs.Common.{arith, rules}
use Rattle.hk_store.proofs.SameSteps.{all-same, take-same, so-true}
use Rattle.hk_store.proofs.chains.are_same_steps.Goals as goal

pub returns : goal.returns
returns c = all-same c.args.one.now c.args.other.now c.loop-i.i (omega arith) (omega arith) c.loop-i.invariant

pub loop-i-preserved : goal.loop-i-preserved
loop-i-preserved c =
    take-same c.args.one.now c.args.other.now c.loop-i.i c.index-one-i.result c.index-other-i.result c.loop-i-test.true (omega arith) c.index-one-i.is c.index-other-i.is
    (so-true c.is_same_step.result _ (search rules) c.is_same_step.ensures) c.loop-i.invariant
