use Rattle.std.proofs.Common.{◌≡◌, ℕ, ◌<◌, false}
use Rattle.hk_sched.specs.Standings.{standing_at, is_out}
use Rattle.hk_sched.proofs.roster.Roster.first_out.Given as goal

abbrev pub invariant-loop-i : goal.invariant-loop-i
invariant-loop-i g l = (j : ℕ) → j < l.i → is_out (standing_at l.self.places j) ≡ false
