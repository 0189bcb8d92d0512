use Rattle.std.proofs.Common.{Some}
use Rattle.hk_ready.specs.View.{IsPassFor}
use Rattle.hk_turn_trials.proofs.small.push_one.Given as goal

abbrev pub invariant-loop : goal.invariant-loop
invariant-loop g l = IsPassFor l.queue.id (Some l.bound) l.pass
