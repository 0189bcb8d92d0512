use Rattle.std.proofs.Common.{Some}
use Rattle.hk_ready.specs.View.{IsPassFor}
use Rattle.hk_turn_trials.proofs.small.Trial.push_share.Given as goal

abbrev pub invariant-loop-number : goal.invariant-loop-number
invariant-loop-number g l = IsPassFor l.self.queue.id (Some l.bound) l.pass
