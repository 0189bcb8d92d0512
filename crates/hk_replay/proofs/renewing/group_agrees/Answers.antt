use Rattle.std.proofs.Common.{sym, ◌∙◌, arith}
use Rattle.hk_chain.specs.Kept.{at_place}
use Rattle.hk_replay.proofs.Renewed.{agree-past, agree-end}
use Rattle.hk_replay.proofs.renewing.group_agrees.Goals as goal

pub returns-then-i-digests : goal.returns-then-i-digests
returns-then-i-digests c = sym (c.loop-i.invariant.0 ∙ agree-past (at_place c.args.pages.now) c.args.pairs.now c.args.digests.now c.loop-i.i 0 (omega arith) (omega arith))

pub returns : goal.returns
returns c = agree-end (at_place c.args.pages.now) c.args.pairs.now c.args.digests.now c.loop-i.i (omega arith) (omega arith) c.loop-i.invariant.1 ∙ sym c.loop-i.invariant.0
