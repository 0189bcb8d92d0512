use Rattle.std.proofs.Common.{◌≡◌, ◌≤◌, length, drop, map}
use Rattle.hk_replay.specs.Finding.{told_page}
use Rattle.hk_replay.specs.Replays.{same_pages}
use Rattle.hk_eval.specs.Told.{told_pages}
use Rattle.hk_replay.proofs.look.are_same.Given as goal

abbrev pub invariant-loop-i : goal.invariant-loop-i
invariant-loop-i l = (same_pages (map (told_page (told_pages l.told)) l.pairs) l.digests ≡ same_pages (map (told_page (told_pages l.told)) (drop l.i l.pairs)) (drop l.i l.digests)) × (l.i ≤ length l.digests)
