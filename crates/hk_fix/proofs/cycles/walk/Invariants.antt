use Rattle.std.proofs.Common.{◌<◌, Some, length}
use Rattle.hk_fix.specs.Walks.{Walking, unreached}
use Rattle.hk_fix.proofs.cycles.walk.Given as goal

abbrev pub invariant-loop-walks : goal.invariant-loop-walks
invariant-loop-walks l = record { way : Walking l.leads l.fn.walks l.start (Some l.current) l.walks; in_range : l.current < length l.leads }

abbrev pub decreases-loop-walks : goal.decreases-loop-walks
decreases-loop-walks l = unreached l.walks
