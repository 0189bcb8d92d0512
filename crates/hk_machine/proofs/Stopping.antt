-- The next step of a chain, and none.
use Rattle.std.proofs.Common.{◌≡◌, sym, ap, ◌∙◌, arith, ℕ, suc, ◌+◌, ◌<◌, ◌≤◌, List, ◌∷◌, length, drop, drop-cons, get_or, None}
use Rattle.std.proofs.Math.ListN.{drop_of_length-le}
use Rattle.hk_chain.specs.declared.chain.Step.{Step}
use Rattle.hk_fix.specs.Task.{gives, ◌▷◌}
use Rattle.hk_rules.specs.Plan.{Lookups}
use Rattle.hk_machine.specs.Chain.{step_task, steps_task}
use Rattle.hk_machine.specs.Working.{left_at, left_by, left}
use Rattle.hk_machine.specs.declared.work.Work.{Work}

-- the step at a place, and the others
pub steps-at : (chain steps : List Step) (at : ℕ) (step : Step) → steps ≡ chain → at < length steps → step ≡ get_or steps at step → drop at chain ≡ step ∷ drop (at + 1) chain
steps-at chain steps at step is lt here =
    let e : at + 1 ≡ suc at = omega arith in
    let d : drop at steps ≡ step ∷ drop (at + 1) steps = drop-cons steps at step lt ∙ (ap (λ s. s ∷ drop (suc at) steps) (sym here) ∙ ap (λ n. step ∷ drop n steps) (sym e)) in
    ap (drop at) (sym is) ∙ (d ∙ ap (λ l. step ∷ drop (at + 1) l) is)

module _ (plan : Lookups) (item : ℕ) (work : Work) (idle : work.rendering ≡ None) where
  pub left-idle : left plan item work ≡ left_at plan item work.at work.page
  left-idle = ap (left_by plan item work.at work.page) idle

  pub next-step : (step : Step) → drop work.at (plan.chain item) ≡ step ∷ drop (work.at + 1) (plan.chain item) → left plan item work ≡ step_task plan item step work.page ▷ left_at plan item (work.at + 1)
  next-step step next = left-idle ∙ ap (λ l. steps_task plan item l work.page) next

  pub no-step : (steps : List Step) → steps ≡ plan.chain item → length steps ≤ work.at → left plan item work ≡ gives work.page
  no-step steps is le = left-idle ∙ (ap (λ l. steps_task plan item (drop work.at l) work.page) (sym is) ∙ ap (λ l. steps_task plan item l work.page) (drop_of_length-le steps le))
