use Rattle.std.proofs.Common.{◌≡◌, [], take}
use Rattle.std.specs.BTreeSet.{contains}
use Rattle.std.specs.Ordering.{nat_cmp}
use Rattle.hk_fix.specs.Facts.{is_in}
use Rattle.hk_replay.specs.Replays.{kept_by}
use Rattle.hk_replay.proofs.kept.kept_of.Given as goal

abbrev pub invariant-loop-step : goal.invariant-loop-step
invariant-loop-step l = contains nat_cmp l.kept ≡ is_in (kept_by [] (take l.step-index l.steps))
