use Rattle.hk_workers.specs.Rounds.{IsPolledSlot}
use Rattle.hk_workers.proofs.Rests.{all-rest}
use Rattle.hk_workers.proofs.rounds.hand_over.Goals as goal

pub loop-slot-preserved : goal.loop-slot-preserved
loop-slot-preserved g c = (
  c.hand_one.ensures,
  all-rest (IsPolledSlot g.M.Compiler.run g.M.Compiler.shape g.M.Compiler.meaning c.args.about.now.value) c.in-Some.slot c.next.new.self.rest.items c.loop-slot.slot-iterator.rest.items c.in-Some.ensures.steps.0 c.loop-slot.invariant.1,
)
