use Rattle.std.proofs.Common.{◌≡◌, ◌++◌, drop, map}
use Rattle.std.specs.List.{flat_map}
use Rattle.hk_fix.specs.Outcomes.{outcome_view}
use Rattle.hk_rules.specs.Plan.{lookups}
use Rattle.hk_texts.specs.ReportText.{failed_line}
use Rattle.hk_texts.proofs.report.write_failed.Given as goal

-- the text so far and that of the rest are all
abbrev pub invariant-loop-item : goal.invariant-loop-item
invariant-loop-item l = l.out.items ++ flat_map (failed_line (lookups l.plan) (map outcome_view l.outcomes)) (drop l.item-index l.failed) ≡ l.fn.out.items ++ flat_map (failed_line (lookups l.plan) (map outcome_view l.outcomes)) l.failed
