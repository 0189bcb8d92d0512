use Rattle.std.proofs.Common.{◌≡◌, take, map}
use Rattle.hk_replay.proofs.numbering.digests_of.Given as goal

abbrev pub invariant-loop-ask : goal.invariant-loop-ask
invariant-loop-ask l = l.digests.items ≡ map (λ a. a.page) (take l.ask-index l.asks)
