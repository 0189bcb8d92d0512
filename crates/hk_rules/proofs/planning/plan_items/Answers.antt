use Rattle.std.proofs.Common.{ap, ◌∙◌, length}
use Rattle.hk_rules.specs.Headers.{header_of}
use Rattle.hk_rules.proofs.Traversal.{each_length}
use Rattle.hk_rules.proofs.planning.plan_items.Goals as goal

pub plan_headed-requires-clause-headed : goal.plan_headed-requires-clause-headed
plan_headed-requires-clause-headed c = each_length header_of _ _ c.in_ok-headers.ensures ∙ ap length c.deref-2.ensures.value
