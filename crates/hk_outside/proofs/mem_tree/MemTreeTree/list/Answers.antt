use Rattle.std.proofs.Common.{ap, ◌∙◌}
use Rattle.hk_outside.specs.Failing.{fate_of}
use Rattle.hk_outside.specs.declared.call.CallKind.TheVariants as call
use Rattle.hk_outside.proofs.FateLemmas.{Untorn-not-Works}
use Rattle.hk_outside.proofs.mem_tree.MemTreeTree.list.Goals as goal

pub returns-in_default-clause-fate : goal.returns-in_default-clause-fate
returns-in_default-clause-fate c = Untorn-not-Works _ (c.begin.ensures.fate ∙ ap (λ v. fate_of call.List v.failing) c.self.view_is) c.in_default.not-Works
