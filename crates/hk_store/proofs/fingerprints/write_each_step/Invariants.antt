use Rattle.std.proofs.Common.{◌≡◌, ◌++◌, map, drop}
use Rattle.std.specs.List.{flat_map}
use Rattle.hk_rules.specs.Plan.{lookups}
use Rattle.hk_rules.specs.Recipe.{named_step}
use Rattle.hk_store.specs.RecipeText.{step_text}
use Rattle.hk_store.proofs.fingerprints.write_each_step.Given as goal

-- the text so far and that of the rest are all
abbrev pub invariant-loop-step : goal.invariant-loop-step
invariant-loop-step l = l.out.items ++ flat_map step_text (map (named_step (lookups l.plan)) (drop l.step-index l.steps)) ≡ l.fn.out.items ++ flat_map step_text (map (named_step (lookups l.plan)) l.steps)
