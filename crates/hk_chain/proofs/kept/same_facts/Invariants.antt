use Rattle.std.proofs.Common.{◌≡◌, take}
use Rattle.hk_chain.proofs.kept.same_facts.Given as goal

abbrev pub invariant-loop-known : goal.invariant-loop-known
invariant-loop-known l = l.same.items ≡ take l.known-index l.facts
