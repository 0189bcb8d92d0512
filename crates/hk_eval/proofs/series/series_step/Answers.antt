-- A list goes on with its next place, or with what stands before it.
use Rattle.std.proofs.Common.{◌≡◌, sym, ap, ◌∙◌, arith, List, [], ◌∷◌, ◌++◌}
use Rattle.hk_eval.specs.Rest.{rest}
use Rattle.hk_eval.specs.declared.frame.Frame.TheVariants as frames
use Rattle.hk_eval.specs.declared.frame.Stage.TheVariants.{First, Second, Third, Later}
use Rattle.hk_eval.proofs.Repeating.{list-end, list-first, list-third, list-later}
use Rattle.hk_eval.proofs.series.series_step.Goals as goal

pub returns-then-places-len-clause-same : goal.returns-then-places-len-clause-same
returns-then-places-len-clause-same c = λ plan. list-end plan c.args.frames.now.items c.args.places c.args.repeat c.args.stage c.args.out.now.items (omega (arith, c.args.places.places.ok.0))

pub returns-in_ok-place_step-in-First-clause-same : goal.returns-in_ok-place_step-in-First-clause-same
returns-in_ok-place_step-in-First-clause-same c = λ plan.
    let s = c.in_ok-place_step-in-First.ensures.same in
    ap (λ stage. rest plan (c.args.frames.now.items ++ frames.List c.args.places stage c.args.repeat ∷ []) c.args.out.now.items) c.in-First.is
    ∙ (list-first plan c.args.frames.now.items c.args.places c.args.repeat s.0 s.1 c.args.out.now.items ∙ sym (s.2 plan c.args.out.now.items))

pub returns-in_ok-place_step-in-Third-clause-same : goal.returns-in_ok-place_step-in-Third-clause-same
returns-in_ok-place_step-in-Third-clause-same c = λ plan.
    let s = c.in_ok-place_step-in-Third.ensures.same in
    ap (λ stage. rest plan (c.args.frames.now.items ++ frames.List c.args.places stage c.args.repeat ∷ []) c.args.out.now.items) c.in-Third.is
    ∙ (list-third plan c.args.frames.now.items c.args.places c.args.repeat s.0 s.1 c.in-Third.start c.in_ok-between-in-Third.between c.args.out.now.items (c.in_ok-between-in-Third.ensures ∙ c.tail.ensures) ∙ sym (s.2 plan c.args.out.now.items))

pub returns-in_ok-place_step-in-Later-clause-same : goal.returns-in_ok-place_step-in-Later-clause-same
returns-in_ok-place_step-in-Later-clause-same c = λ plan.
    let s = c.in_ok-place_step-in-Later.ensures.same in
    let more = c.in_ok-extend_from_slice-in-Later.ensures.items ∙ ap (λ b. c.args.out.now.items ++ b) c.as_slice.ensures in
    ap (λ stage. rest plan (c.args.frames.now.items ++ frames.List c.args.places stage c.args.repeat ∷ []) c.args.out.now.items) c.in-Later.is
    ∙ (list-later plan c.args.frames.now.items c.args.places c.args.repeat s.0 s.1 c.in-Later.between c.args.out.now.items ∙ (sym (s.2 plan (c.args.out.now.items ++ c.in-Later.between)) ∙ ap (λ out. rest plan c.place_step-in-Later.new.frames.items out) (sym more)))
