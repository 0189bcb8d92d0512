use Rattle.std.proofs.Common.{◌≡◌, ◌≤◌, ◌-◌, [], length, take}
use Rattle.hk_fix.specs.Run.{saves_of}
use Rattle.hk_replay.specs.Replays.{passed, kept_by, Passes}
use Rattle.hk_eval.specs.Told.{told_pages}
use Rattle.hk_replay.proofs.look.look.Given as goal

abbrev pub invariant-loop-at : goal.invariant-loop-at
invariant-loop-at l = (l.at ≤ length l.steps) × Passes (told_pages l.told) (take l.at l.steps) × (saves_of (passed (take l.at l.steps)) ≡ saves_of (passed (take l.initial.at l.steps))) × (kept_by [] (take l.at l.steps) ≡ kept_by [] (take l.initial.at l.steps))

abbrev pub decreases-loop-at : goal.decreases-loop-at
decreases-loop-at l = length l.steps - l.at
