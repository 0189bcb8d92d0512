use Rattle.std.proofs.Common.{sym, ◌∙◌, arith}
use Rattle.hk_eval.specs.Told.{told_pages}
use Rattle.hk_replay.proofs.Passing.{too-many, all-read, told-at}
use Rattle.hk_replay.proofs.look.are_same.Goals as goal

pub returns-then-i-digests : goal.returns-then-i-digests
returns-then-i-digests c = sym (c.loop-i.invariant.0 ∙ too-many (told_pages c.args.told.now) c.args.pairs.now c.args.digests.now c.loop-i.i 0 (omega arith) (omega arith))

pub returns : goal.returns
returns c = all-read (told_pages c.args.told.now) c.args.pairs.now c.args.digests.now c.loop-i.i (omega arith) (omega arith) c.loop-i.invariant.1 ∙ sym c.loop-i.invariant.0

pub has_digest-requires : goal.has_digest-requires
has_digest-requires c = told-at (told_pages c.args.told.now) c.args.pairs.now c.loop-i.i c.index-pairs-i.result c.requires (omega arith) c.index-pairs-i.is
