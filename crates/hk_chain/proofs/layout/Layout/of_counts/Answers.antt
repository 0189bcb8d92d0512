use Rattle.std.proofs.Common.{◌≡◌, ap, arith, List, ℕ, [], ◌++◌, ◌+◌, length, replicate, drop, get_or}
use Rattle.hk_chain.specs.Counts.{pair_items, last_pairs}
use Rattle.hk_chain.proofs.Layouts.{pairs-step, front-fits, nothing-left, whole, counts-layout}
use Rattle.hk_chain.proofs.layout.Layout.of_counts.Goals as goal

pub overflow_cast-len : goal.overflow_cast-len
overflow_cast-len c =
    let counts = c.args.counts.now in
    let i = c.loop-i.i in
    let done : List ℕ = c.loop-i.pair_item.items in
    let fits = front-fits (done ++ replicate (get_or counts i 0 + 1) i) (pair_items (i + 1) (drop (i + 1) counts)) (pair_items 0 counts) (pairs-step counts i done c.loop-i-test.true c.loop-i.invariant.pairs) in
    omega (arith, fits, ap length c.in_ok-add_pairs.ensures, c.len.ensures, c.add_pairs.new.pair_item.ok, c.requires.pairs)

pub invariant_of-result : goal.invariant_of-result
invariant_of-result c =
    let counts = c.args.counts.now in
    let i = c.loop-i.i in
    let none : drop i counts ≡ [] = nothing-left counts i c.loop-i-test.false in
    let pairs : c.loop-i.pair_item.items ≡ pair_items 0 counts = whole c.loop-i.pair_item.items (pair_items i (drop i counts)) (pair_items 0 counts) (ap (pair_items i) none) c.loop-i.invariant.pairs in
    let lasts : c.loop-i.final_pair.items ≡ last_pairs 0 counts = whole c.loop-i.final_pair.items (last_pairs (length c.loop-i.pair_item.items) (drop i counts)) (last_pairs 0 counts) (ap (last_pairs (length c.loop-i.pair_item.items)) none) c.loop-i.invariant.lasts in
    rw (pairs, lasts) (counts-layout counts c.requires.items c.requires.pairs)
