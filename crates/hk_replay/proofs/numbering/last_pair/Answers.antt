use Rattle.std.proofs.Common.{sym, ap, ◌∙◌, arith}
use Rattle.hk_chain.specs.Layout.{Shape, final_of}
use Rattle.hk_replay.proofs.Matching.{layout-items, layout-same}
use Rattle.hk_replay.proofs.numbering.last_pair.Goals as goal

pub final_of-requires : goal.final_of-requires
final_of-requires c = omega (arith, c.requires, ap (λ (l : Shape). l.items) (c.get.ensures ∙ c.layout.ensures), layout-items c.args.plan.now)

pub returns : goal.returns
returns c = c.final_of.ensures.value ∙ ap (λ (l : Shape). final_of l c.args.item) (c.get.ensures ∙ (c.layout.ensures ∙ sym (layout-same c.args.plan.now)))
