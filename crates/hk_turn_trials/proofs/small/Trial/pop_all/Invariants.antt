use Rattle.std.proofs.Common.{Some, length}
use Rattle.hk_ready.specs.View.{IsPassFor}
use Rattle.hk_turn_trials.proofs.small.Trial.pop_all.Given as goal

abbrev pub invariant-loop : goal.invariant-loop
invariant-loop g l = IsPassFor l.self.queue.id (Some (length l.self.pops.items)) l.pass
