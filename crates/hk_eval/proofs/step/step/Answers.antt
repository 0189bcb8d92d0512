-- A step is that of the frame that stands last.
use Rattle.std.proofs.Common.{◌≡◌, refl, sym, ap, ◌∙◌, subst, List, [], ◌∷◌, ◌++◌}
use Rattle.hk_rules.specs.Plan.{lookups}
use Rattle.hk_eval.specs.Rest.{rest}
use Rattle.hk_eval.specs.Within.{IsFrameOf, AreFramesOf}
use Rattle.hk_eval.proofs.Naming.{all-front, all-last}
use Rattle.hk_eval.proofs.Stacks.{rest-none, none-left}
use Rattle.hk_eval.proofs.step.step.Goals as goal

pub returns-in-None-clause-steps : goal.returns-in-None-clause-steps
returns-in-None-clause-steps c =
    let p = lookups c.args.plan.now in
    let out = c.args.out.now.items in
    (ap (λ fs. rest p fs out) (none-left c.args.frames.now.items (sym c.args.frames.now.ok.0 ∙ c.in-None.ensures.cases.0)) ∙ rest-none p out, refl)

pub returns-in_ok-series_step-in-Some-List-clause-within : goal.returns-in_ok-series_step-in-Some-List-clause-within
returns-in_ok-series_step-in-Some-List-clause-within c =
    let plan = c.args.plan.now in
    let last = c.in-Some-List.field-0 in
    let fs = c.pop.new.self.items in
    let all : AreFramesOf plan (fs ++ last ∷ []) = subst (AreFramesOf plan) c.in-Some-List.ensures.items c.requires.frames in
    c.in_ok-series_step-in-Some-List.ensures.within plan (subst (IsFrameOf plan) c.in-Some-List.field-0-is (all-last (IsFrameOf plan) fs last all)) (all-front (IsFrameOf plan) fs last all)
