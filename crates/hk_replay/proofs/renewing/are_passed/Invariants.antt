use Rattle.std.proofs.Common.{◌≡◌, drop}
use Rattle.hk_chain.specs.Kept.{at_place}
use Rattle.hk_replay.specs.Renewing.{is_passed}
use Rattle.hk_replay.proofs.renewing.are_passed.Given as goal

abbrev pub invariant-loop-step : goal.invariant-loop-step
invariant-loop-step l = is_passed (at_place l.pages) l.steps ≡ is_passed (at_place l.pages) (drop l.step-index l.steps)
