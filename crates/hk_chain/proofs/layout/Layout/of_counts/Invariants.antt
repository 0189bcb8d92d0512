use Rattle.std.proofs.Common.{◌≡◌, ◌++◌, length, drop}
use Rattle.hk_chain.specs.Counts.{pair_items, last_pairs}
use Rattle.hk_chain.proofs.layout.Layout.of_counts.Given as goal

abbrev pub invariant-loop-i : goal.invariant-loop-i
invariant-loop-i l =
    record {
      pairs : l.pair_item.items ++ pair_items l.i (drop l.i l.counts) ≡ pair_items 0 l.counts;
      lasts : l.final_pair.items ++ last_pairs (length l.pair_item.items) (drop l.i l.counts) ≡ last_pairs 0 l.counts;
    }
