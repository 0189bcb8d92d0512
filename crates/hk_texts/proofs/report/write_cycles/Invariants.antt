use Rattle.std.proofs.Common.{◌≡◌, ◌++◌, drop, map}
use Rattle.std.specs.List.{flat_map}
use Rattle.hk_rules.specs.Plan.{lookups}
use Rattle.hk_texts.specs.ReportText.{cycle_line}
use Rattle.hk_texts.proofs.report.write_cycles.Given as goal

-- the text so far and that of the rest are all
abbrev pub invariant-loop-items : goal.invariant-loop-items
invariant-loop-items l = l.out.items ++ flat_map (cycle_line (lookups l.plan)) (map (λ c. c.items) (drop l.items-index l.cycles)) ≡ l.fn.out.items ++ flat_map (cycle_line (lookups l.plan)) (map (λ c. c.items) l.cycles)
