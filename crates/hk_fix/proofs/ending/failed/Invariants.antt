use Rattle.std.proofs.Common.{◌≡◌, map, filter}
use Rattle.std.specs.List.{slice_get}
use Rattle.hk_fix.specs.Outcomes.{outcome_view}
use Rattle.hk_fix.specs.Report.{is_faulted, upto}
use Rattle.hk_fix.proofs.ending.failed.Given as goal

abbrev pub invariant-loop-i : goal.invariant-loop-i
invariant-loop-i l = l.failed.items ≡ filter (λ i. is_faulted (slice_get (map outcome_view l.outcomes) i)) (upto l.i)
