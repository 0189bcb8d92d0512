use Rattle.std.proofs.Common.{◌≡◌}
use Rattle.hk_chain.specs.Kept.{at_place}
use Rattle.hk_replay.specs.Renewing.{others_below}
use Rattle.hk_replay.proofs.renewing.others_of.Given as goal

abbrev pub invariant-loop-number : goal.invariant-loop-number
invariant-loop-number l = l.others.items ≡ others_below (at_place l.pages) l.records l.number
