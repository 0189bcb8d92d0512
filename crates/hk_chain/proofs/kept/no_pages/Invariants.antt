use Rattle.std.proofs.Common.{◌≡◌, None, replicate}
use Rattle.hk_chain.proofs.kept.no_pages.Given as goal

abbrev pub invariant-loop : goal.invariant-loop
invariant-loop l = l.pages.items ≡ replicate l.counter None
