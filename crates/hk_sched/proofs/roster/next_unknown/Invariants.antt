use Rattle.hk_sched.specs.Rosters.{IsWithin}
use Rattle.hk_sched.proofs.roster.next_unknown.Given as goal

abbrev pub invariant-loop-i : goal.invariant-loop-i
invariant-loop-i l = IsWithin l.known l.pairs l.i
