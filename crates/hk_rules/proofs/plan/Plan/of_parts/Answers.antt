use Rattle.std.proofs.Common.{sym, subst}
use Rattle.std.specs.List.{AllByRecursion}
use Rattle.hk_rules.specs.Pairs.{IsShort}
use Rattle.hk_rules.proofs.LinkedPlans.{chains-short}
use Rattle.hk_rules.proofs.plan.Plan.of_parts.Goals as goal

pub layout_of-requires-clause-short : goal.layout_of-requires-clause-short
layout_of-requires-clause-short c = subst (AllByRecursion IsShort) (sym c.deref.ensures.value) (chains-short _ c.requires.linked)
