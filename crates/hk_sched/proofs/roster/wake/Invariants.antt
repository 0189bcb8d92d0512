use Rattle.std.proofs.Common.{map}
use Rattle.hk_sched.specs.declared.stacks.Stack.TheVariants.{Waiting}
use Rattle.hk_sched.specs.Places.{standing}
use Rattle.hk_sched.specs.Rosters.{IsWaking}
use Rattle.hk_sched.proofs.Rosters.{on_stack}
use Rattle.hk_sched.proofs.roster.wake.Given as goal

abbrev pub invariant-loop-item : goal.invariant-loop-item
invariant-loop-item g l = IsWaking g.M.Compiler.meaning l.known (map standing l.places) l.cursors.items l.stacks l.pair

abbrev pub decreases-loop-item : goal.decreases-loop-item
decreases-loop-item g l = on_stack (Waiting l.pair) l.stacks.stack_of
