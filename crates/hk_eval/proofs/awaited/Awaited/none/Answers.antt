-- No pair is there.
use Rattle.std.proofs.Common.{arith, ◌≤◌}
use Rattle.hk_eval.proofs.Awaiting.{none-distinct}
use Rattle.hk_eval.proofs.awaited.Awaited.none.Goals as goal

pub invariant_of-result : goal.invariant_of-result
invariant_of-result c = (omega arith, none-distinct c.new.result.items c.new.ensures.items)
