use Rattle.std.proofs.Common.{◌≡◌, map, take}
use Rattle.hk_fix.specs.Outcomes.{outcome_view}
use Rattle.hk_fix.specs.Report.{lead_of}
use Rattle.hk_fix.proofs.ending.leads.Given as goal

abbrev pub invariant-loop-outcome : goal.invariant-loop-outcome
invariant-loop-outcome l = l.leads.items ≡ map (λ o. lead_of l.layout (outcome_view o)) (take l.outcome-index l.outcomes)
