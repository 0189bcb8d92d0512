use Rattle.std.proofs.Common.{◌≡◌, ◌&&◌, map, filter}
use Rattle.hk_fix.specs.Report.{members, on_cycle, is_least, upto}
use Rattle.hk_fix.proofs.ending.cycles.Given as goal

abbrev pub invariant-loop-i : goal.invariant-loop-i
invariant-loop-i l = map (λ c. c.items) l.cycles.items ≡ map (members l.leads) (filter (λ i. on_cycle l.leads i && is_least l.leads i) (upto l.i))
