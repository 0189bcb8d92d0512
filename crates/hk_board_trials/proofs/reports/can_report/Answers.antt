use Rattle.std.proofs.Common.{rules, ◌≡◌, sym, ap, ◌∙◌, length, map, arith}
use Rattle.std.proofs.lemmas.List.{length-map}
use Rattle.std.proofs.lemmas.List.Elements.{All-from_all_within, AllWithin-upto, All-map}
use Rattle.hk_fix.specs.Outcomes.{outcome_view}
use Rattle.hk_fix.specs.Report.{WaitsFor}
use Rattle.hk_board_trials.proofs.reports.can_report.Goals as goal

pub returns : goal.returns
returns c = record {
  count = length-map c.args.outcomes.now outcome_view ∙ search rules;
  blocks =
      All-map (WaitsFor c.args.layout.now (map outcome_view c.args.outcomes.now)) outcome_view c.args.outcomes.now
      (All-from_all_within (λ o. WaitsFor c.args.layout.now (map outcome_view c.args.outcomes.now) (outcome_view o)) c.args.outcomes.now
      (AllWithin-upto (λ o. WaitsFor c.args.layout.now (map outcome_view c.args.outcomes.now) (outcome_view o)) c.args.outcomes.now 0 c.loop-outcome.outcome-index (length c.args.outcomes.now) (search rules) c.loop-outcome.invariant));
}
