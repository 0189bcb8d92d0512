use Rattle.std.proofs.Common.{◌≤◌, arith, sym}
use Rattle.hk_html.proofs.RootLemmas.{root_at-more}
use Rattle.hk_html.proofs.root.root_at.Goals as goal

pub loop-preserved : goal.loop-preserved
loop-preserved c =
    let some : 1 ≤ c.loop.counter = omega arith in
    rw (c.in_ok-extend_from_slice-2.ensures.items, c.loop.invariant) (sym (root_at-more c.loop.counter some))
