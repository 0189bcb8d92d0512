use Rattle.std.proofs.Common.{sym, ap, ◌∙◌, subst, ℕ, Bool}
use Rattle.std.specs.BTreeSet.{BTreeSet, contains}
use Rattle.std.specs.Ordering.{nat_cmp}
use Rattle.hk_replay.specs.declared.record.Step.{Step}
use Rattle.hk_replay.proofs.Passing.{KeepsOne, keeps-turn}
use Rattle.hk_replay.proofs.kept.kept_of.Goals as goal
use Rattle.hk_replay.proofs.kept.kept_of.Goals.{in-Saved+in_ok-keep-in-Saved, in-Asked}

pub loop-step-preserved : goal.loop-step-preserved
loop-step-preserved c =
    let was : ℕ → Bool = contains nat_cmp c.loop-step.kept in
    let now : ℕ → Bool = contains nat_cmp c.match-step.kept in
    let one : KeepsOne c.step-item.result was now = elim c.match-step.branch as (λ x. KeepsOne c.step-item.result was now) [
      | in-Saved+in_ok-keep-in-Saved w ↦ subst (λ (s : Step). KeepsOne s was now) (sym w.in-Saved.is) (λ q. ap (λ (b : BTreeSet ℕ). contains nat_cmp b q) w.kept-is ∙ w.in_ok-keep-in-Saved.ensures q)
      | in-Asked w ↦ subst (λ (s : Step). KeepsOne s was now) (sym w.in-Asked.is) (ap (λ (b : BTreeSet ℕ). contains nat_cmp b) w.kept-is)
    ] in
    keeps-turn c.args.steps.now c.loop-step.step-index c.step-item.result was now c.loop-step-test.true c.step-item.is c.loop-step.invariant one
