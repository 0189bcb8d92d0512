-- The first frame does the whole.
use Rattle.std.proofs.Common.{◌≡◌, sym, ap, ◌∙◌, subst, [], ◌∷◌, ◌++◌}
use Rattle.hk_eval.specs.Blocks.{block_nodes}
use Rattle.hk_eval.specs.Rest.{rest}
use Rattle.hk_eval.specs.Within.{AreFramesOf}
use Rattle.hk_eval.proofs.Naming.{printable-names}
use Rattle.hk_eval.proofs.Stacks.{started}
use Rattle.hk_eval.proofs.stack.Stack.new.Goals as goal

pub returns-clause-left : goal.returns-clause-left
returns-clause-left c = λ plan.
    let f = c.whole.result in
    let items : c.push.new.self.items ≡ f ∷ [] = c.in_ok-push.ensures.items ∙ ap (λ l. l ++ f ∷ []) c.new-frames.ensures.items in
    let out = c.new.ensures.items in
    ap (λ fs. rest plan fs c.new.result.items) items
    ∙ (ap (rest plan (f ∷ [])) out
    ∙ started plan f (block_nodes c.args.block) c.args.here (c.whole.ensures.rest plan []))

pub returns-clause-within : goal.returns-clause-within
returns-clause-within c = λ plan place.
    let f = c.whole.result in
    let items : c.push.new.self.items ≡ f ∷ [] = c.in_ok-push.ensures.items ∙ ap (λ l. l ++ f ∷ []) c.new-frames.ensures.items in
    subst (AreFramesOf plan) (sym items) (c.whole.ensures.within plan (printable-names (block_nodes c.args.block) c.requires) place, tt)
