use Rattle.std.proofs.Common.{◌≡◌, ◌++◌, drop}
use Rattle.hk_rules.specs.Plan.{lookups}
use Rattle.hk_texts.specs.DepsText.{pattern_lines}
use Rattle.hk_texts.proofs.deps.write_patterns.Given as goal

-- the text so far and the lines of the rest are all
abbrev pub invariant-loop-pattern : goal.invariant-loop-pattern
invariant-loop-pattern l =
    record {
      at : l.place ≡ l.pattern-index;
      text : l.out.items ++ pattern_lines (lookups l.plan) l.place (drop l.pattern-index l.patterns) ≡ l.fn.out.items ++ pattern_lines (lookups l.plan) 0 l.patterns;
    }
