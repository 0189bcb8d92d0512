use Rattle.std.proofs.Common.{◌≡◌, ◌≤◌, length, take}
use Rattle.hk_rules.specs.Pairs.{saves}
use Rattle.hk_rules.proofs.pairs.count_saves.Given as goal

abbrev pub invariant-loop-step : goal.invariant-loop-step
invariant-loop-step l = record {
  bound : l.count ≤ l.step-index;
  value : l.count ≡ length (saves (take l.step-index l.steps));
}
