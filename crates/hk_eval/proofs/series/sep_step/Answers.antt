-- What stands between two places is rendered before the second.
use Rattle.std.proofs.Common.{◌≡◌, refl, sym, ap, ◌∙◌, arith, ℕ, ◌+◌, ◌<◌, List, [], ◌∷◌, ◌++◌, length, drop}
use Rattle.hk_eval.specs.Rest.{rest}
use Rattle.hk_eval.specs.declared.frame.Frame.TheVariants as frames
use Rattle.hk_eval.specs.declared.frame.Stage.TheVariants.{Third}
use Rattle.hk_eval.specs.declared.place.Place.{Place}
use Rattle.hk_eval.proofs.Repeating.{list-between, next-place}
use Rattle.hk_eval.proofs.series.sep_step.Goals as goal

pub returns-clause-same : goal.returns-clause-same
returns-clause-same c = λ plan.
    let fs = c.args.frames.now.items in
    let out = c.args.out.now.items in
    let next = next-place c.args.places c.requires in
    list-between plan fs c.args.places c.args.repeat next.0 next.1 c.in_ok-between.between out (c.in_ok-between.ensures.rest plan out)
    ∙ ap (λ l. rest plan l out) (sym (c.in_ok-push-2.ensures.items ∙ ap (λ l. l ++ c.in_ok-between.between ∷ []) (c.in_ok-push.ensures.items ∙ ap (λ n. fs ++ frames.List c.args.places (Third n) c.args.repeat ∷ []) (c.len.ensures ∙ c.args.out.now.ok.0))))
