use Rattle.std.proofs.Common.{◌≡◌, drop}
use Rattle.hk_rules.specs.Pairs as spec
use Rattle.hk_rules.proofs.pairs.name_at.Given as goal

abbrev pub invariant-loop-step : goal.invariant-loop-step
invariant-loop-step l = spec.name_at (drop l.step-index l.steps) l.left ≡ spec.name_at l.steps l.place
