use Rattle.std.proofs.Common.{◌≡◌, ◌≤◌, length, map}
use Rattle.hk_fix.specs.Outcomes.{outcome_view}
use Rattle.hk_rules.specs.Plan.{lookups}
use Rattle.hk_texts.specs.DepsText.{first_lines}
use Rattle.hk_texts.proofs.deps.deps_text.Given as goal

-- the text has the lines of the items so far
abbrev pub invariant-loop-number : goal.invariant-loop-number
invariant-loop-number l =
    record {
      few : l.number ≤ length l.plan.items;
      text : l.out.items ≡ first_lines (lookups l.plan) (map outcome_view l.outcomes) l.number;
    }
