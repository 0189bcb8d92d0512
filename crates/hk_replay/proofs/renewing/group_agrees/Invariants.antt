use Rattle.std.proofs.Common.{◌≡◌, ◌≤◌, drop, length}
use Rattle.hk_chain.specs.Kept.{at_place}
use Rattle.hk_fix.specs.Pages.{all_pages}
use Rattle.hk_replay.specs.Renewing.{agree}
use Rattle.hk_replay.proofs.renewing.group_agrees.Given as goal

abbrev pub invariant-loop-i : goal.invariant-loop-i
invariant-loop-i l = (agree (all_pages (at_place l.pages) l.pairs) l.digests ≡ agree (all_pages (at_place l.pages) (drop l.i l.pairs)) (drop l.i l.digests)) × (l.i ≤ length l.digests)
