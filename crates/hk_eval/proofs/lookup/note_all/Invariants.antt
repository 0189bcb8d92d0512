use Rattle.std.proofs.Common.{◌≡◌, take}
use Rattle.hk_eval.specs.Noted.{noted}
use Rattle.hk_eval.specs.Replies.{singles}
use Rattle.hk_eval.proofs.lookup.note_all.Given as goal

abbrev pub invariant-loop-pair : goal.invariant-loop-pair
invariant-loop-pair l = l.notes ≡ noted l.fn.notes (singles (take l.pair-index l.pairs))
