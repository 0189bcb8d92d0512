use Rattle.std.proofs.Common.{◌≡◌, ◌<◌, false, map}
use Rattle.std.specs.List.{AllWithin}
use Rattle.hk_chain.specs.Layout.{pairs, item_of}
use Rattle.hk_fix.specs.Fix.{is_finished}
use Rattle.hk_fix.specs.Outcomes.{outcome_view}
use Rattle.hk_fix.specs.Report.{ending_at}
use Rattle.hk_board_trials.proofs.reports.block.Given as goal

abbrev pub invariant-loop-pair : goal.invariant-loop-pair
invariant-loop-pair l = AllWithin (λ p. (p < pairs l.layout) × (is_finished (ending_at (map outcome_view l.outcomes) (item_of l.layout p)) ≡ false)) l.pairs 0 l.pair-index
