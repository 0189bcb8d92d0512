use Rattle.hk_rules.proofs.LinkedPlans.{plan_by-linked}
use Rattle.hk_rules.proofs.planning.plan_routed.Goals as goal

pub of_parts-requires-clause-linked : goal.of_parts-requires-clause-linked
of_parts-requires-clause-linked c = plan_by-linked _ _ _ _ _ _ c.requires.linked
