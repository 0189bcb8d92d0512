use Rattle.std.proofs.Common.{◌∙◌, subst}
use Rattle.hk_chain.specs.Layout.{IsShape}
use Rattle.hk_rules.specs.Plan.{lookups}
use Rattle.hk_machine.proofs.LinkedRuns.{linked-runs}
use Rattle.hk_machine.proofs.maker.runs.Goals as goal

pub returns : goal.returns
unfolding lookups
returns c = linked-runs c.args.plan.now (subst IsShape (c.get.ensures ∙ c.layout.ensures) c.items-items.ensures.valid.shape) c.renders.ensures c.linked.ensures
