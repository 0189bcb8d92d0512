use Rattle.std.proofs.Common.{◌≡◌, drop}
use Rattle.hk_eval.specs.Noted.{noted}
use Rattle.hk_replay.specs.Replays.{passed}
use Rattle.hk_replay.proofs.merging.note_steps.Given as goal

abbrev pub invariant-loop-step : goal.invariant-loop-step
invariant-loop-step l = noted l.initial.notes (passed l.steps) ≡ noted l.notes (passed (drop l.step-index l.steps))
