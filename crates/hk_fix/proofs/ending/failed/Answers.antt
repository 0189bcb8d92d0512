use Rattle.std.proofs.Common.{◌≡◌, sym, ap, ◌∙◌, ℕ, Bool, map}
use Rattle.std.specs.List.{slice_get}
use Rattle.hk_fix.specs.Outcomes.{outcome_view}
use Rattle.hk_fix.specs.Report.{is_faulted}
use Rattle.hk_fix.proofs.Reports.{filter-more, filter-same, view-at}
use Rattle.hk_fix.proofs.ending.failed.Goals as goal
use Rattle.hk_fix.proofs.ending.failed.Goals.{then-is_failed+in_ok-push, else-is_failed}

pub loop-i-preserved : goal.loop-i-preserved
loop-i-preserved c =
    let outcomes = c.args.outcomes.now in
    let i = c.loop-i.i in
    let test : ℕ → Bool = λ n. is_faulted (slice_get (map outcome_view outcomes) n) in
    let here : test i ≡ c.is_failed.result = ap is_faulted (view-at outcomes i c.index-outcomes-i.result c.loop-i-test.true c.index-outcomes-i.is) ∙ sym c.is_failed.ensures in
    elim c.if-is_failed.branch [
      | then-is_failed+in_ok-push w ↦ ap (λ v. v.items) w.failed-is ∙ (w.in_ok-push.ensures.items ∙ filter-more test i c.loop-i.failed.items (here ∙ w.if-is_failed.true) c.loop-i.invariant)
      | else-is_failed w ↦ ap (λ v. v.items) w.failed-is ∙ filter-same test i c.loop-i.failed.items (here ∙ w.if-is_failed.false) c.loop-i.invariant
    ]
