use Rattle.std.proofs.Common.{map}
use Rattle.std.specs.List.{AllWithin}
use Rattle.hk_fix.specs.Outcomes.{outcome_view}
use Rattle.hk_fix.specs.Report.{WaitsFor}
use Rattle.hk_board_trials.proofs.reports.can_report.Given as goal

abbrev pub invariant-loop-outcome : goal.invariant-loop-outcome
invariant-loop-outcome l = AllWithin (λ o. WaitsFor l.layout (map outcome_view l.outcomes) (outcome_view o)) l.outcomes 0 l.outcome-index
