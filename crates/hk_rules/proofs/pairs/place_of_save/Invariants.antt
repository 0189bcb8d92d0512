use Rattle.std.proofs.Common.{◌≡◌, ◌≤◌, drop}
use Rattle.std.specs.Prelude.{bytes_eq}
use Rattle.std.specs.List.{position_from}
use Rattle.hk_rules.specs.Pairs.{page_names}
use Rattle.hk_rules.specs.Pairs as spec
use Rattle.hk_rules.proofs.pairs.place_of_save.Given as goal

abbrev pub invariant-loop-step : goal.invariant-loop-step
invariant-loop-step l = record {
  bound : l.place ≤ l.step-index;
  value : position_from (λ own. bytes_eq own l.name) l.place (page_names (drop l.step-index l.steps)) ≡ spec.place_of_save l.steps l.name;
}
