use Rattle.hk_sites.proofs.MadePlans.{plan-made}
use Rattle.hk_sites.proofs.SmallLimits.{plans-limited}
use Rattle.hk_sites.proofs.making.rules_make_plans.Goals as goal

pub returns-clause-made : goal.returns-clause-made
returns-clause-made c = plan-made

pub returns-clause-limited : goal.returns-clause-limited
returns-clause-limited c = plans-limited
