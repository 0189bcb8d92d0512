use Rattle.std.proofs.Common.{◌≡◌, sym, ap, ◌∙◌, append-nil, take, ◌∷◌, ◌++◌, [], ◌+◌}
use Rattle.hk_chain.specs.declared.chain.Step.{Step}
use Rattle.hk_rules.specs.Pairs.{saves}
use Rattle.hk_replay.proofs.Matching.{saves-turn, no-save}
use Rattle.hk_replay.proofs.fitting.page_names_of.Goals as goal
use Rattle.hk_replay.proofs.fitting.page_names_of.Goals.{in-Save+in_ok-name+in_ok-push, in_default}

pub loop-step-preserved : goal.loop-step-preserved
loop-step-preserved c =
    let steps = c.args.steps.now in
    let i = c.loop-step.step-index in
    let turn = saves-turn steps i c.step-item.result c.loop-step-test.true c.step-item.is in
    elim c.match-step.branch as (λ x. c.match-step.names.items ≡ saves (take (i + 1) steps)) [
      | in-Save+in_ok-name+in_ok-push w ↦
          ap (λ v. v.items) w.names-is
          ∙ (w.in_ok-push.ensures.items
          ∙ ((λ j. c.loop-step.invariant j ++ (w.in_ok-name.ensures ∙ w.as_slice.ensures) j ∷ [])
          ∙ sym (turn ∙ ap (λ (s : Step). saves (take i steps) ++ saves (s ∷ [])) w.in-Save.is)))
      | in_default w ↦
          ap (λ v. v.items) w.names-is
          ∙ (c.loop-step.invariant
          ∙ sym (turn ∙ (ap (λ l. saves (take i steps) ++ l) (no-save c.step-item.result w.in_default.not-Save) ∙ append-nil (saves (take i steps)))))
    ]
