use Rattle.std.proofs.Common.{◌≡◌, map, take}
use Rattle.hk_tags.specs.Growing.{step_in}
use Rattle.hk_tags.proofs.growing.chain_in.Given as goal

abbrev pub invariant-loop-step : goal.invariant-loop-step
invariant-loop-step l = l.steps.items ≡ map (step_in l.old l.new) (take l.step-index l.chain)
