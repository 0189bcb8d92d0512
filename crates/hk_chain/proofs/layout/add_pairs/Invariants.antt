use Rattle.std.proofs.Common.{◌≡◌, ◌++◌, replicate}
use Rattle.hk_chain.proofs.layout.add_pairs.Given as goal

abbrev pub invariant-loop : goal.invariant-loop
invariant-loop l = l.pair_item.items ≡ l.fn.pair_item.items ++ replicate l.counter l.item
