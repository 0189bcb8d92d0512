use Rattle.std.proofs.Common.{ap, ◌∙◌, length}
use Rattle.hk_rules.specs.Targets.{target_of}
use Rattle.hk_rules.proofs.Traversal.{each_length}
use Rattle.hk_rules.proofs.planning.plan_headed.Goals as goal

pub plan_routed-requires-clause-routed : goal.plan_routed-requires-clause-routed
plan_routed-requires-clause-routed c = each_length target_of _ _ c.in_ok-targets.ensures ∙ ap length c.deref.ensures.value
