-- One page more is told, and one pair fewer is open.
use Rattle.std.proofs.Common.{sym, subst, Contains}
use Rattle.hk_eval.specs.Rendered.{RenderView}
use Rattle.hk_eval.proofs.Ending.{answer-room, answer-keeps}
use Rattle.hk_eval.proofs.render.Render.answer.Goals as goal

pub invariant_of-self : goal.invariant_of-self
invariant_of-self c =
    let m = c.self.inside.course in
    let i = c.self.invariant in
    let has : Contains m.awaits c.args.pair = subst (λ (v : RenderView). Contains v.awaits c.args.pair) (sym c.self.view_is) c.requires in (
      λ a b. answer-keeps m c.args.pair c.args.page c.answer.new.self c.take_out.new.self i.1 has c.answer.ensures.pages c.answer.ensures.kept c.take_out.ensures c.self.inside.plan (i.0 a b),
      answer-room m c.args.pair c.args.page c.answer.new.self c.take_out.new.self i.1 has c.answer.ensures.pages c.answer.ensures.kept c.take_out.ensures,
    )
