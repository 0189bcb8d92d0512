use Rattle.std.proofs.Common.{◌≡◌, take}
use Rattle.hk_tags.proofs.copying.copy_chain.Given as goal

abbrev pub invariant-loop-step : goal.invariant-loop-step
invariant-loop-step l = l.steps.items ≡ take l.step-index l.chain
