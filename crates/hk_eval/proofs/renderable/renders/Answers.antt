use Rattle.hk_eval.proofs.Renderables.{linked-renderable}
use Rattle.hk_eval.proofs.renderable.renders.Goals as goal

pub returns : goal.returns
returns c = linked-renderable c.args.plan.now c.count-count.ensures.valid c.linked.ensures
