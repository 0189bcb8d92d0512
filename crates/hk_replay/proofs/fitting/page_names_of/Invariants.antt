use Rattle.std.proofs.Common.{◌≡◌, take}
use Rattle.hk_rules.specs.Pairs.{saves}
use Rattle.hk_replay.proofs.fitting.page_names_of.Given as goal

abbrev pub invariant-loop-step : goal.invariant-loop-step
invariant-loop-step l = l.names.items ≡ saves (take l.step-index l.steps)
