use Rattle.std.proofs.Common.{◌≡◌, ◌&&◌, ℕ, List, not, map, filter}
use Rattle.std.specs.List.{slice_get}
use Rattle.hk_fix.specs.Outcomes.{outcome_view}
use Rattle.hk_fix.specs.Report.{on_cycle, is_waiting, waits_of, upto}
use Rattle.hk_fix.proofs.ending.blocked.Given as goal

abbrev pub invariant-loop-i : goal.invariant-loop-i
invariant-loop-i l =
    map {B = ℕ × List ℕ} (λ b. (b.0, b.1.items)) l.blocked.items
    ≡ map {B = ℕ × List ℕ} (λ i. (i, waits_of (slice_get (map outcome_view l.outcomes) i))) (filter (λ i. not (on_cycle l.leads i) && is_waiting (slice_get (map outcome_view l.outcomes) i)) (upto l.i))
