use Rattle.std.proofs.Common.{◌≡◌, ◌∙◌, subst, arith, ◌<◌, Option}
use Rattle.hk_fix.specs.Pages.{Pages}
use Rattle.hk_rules.specs.Plan.{Lookups, lookups}
use Rattle.hk_eval.specs.Told.{told_pages}
use Rattle.hk_eval.proofs.Running.{went-on}
use Rattle.hk_machine.specs.Acting.{Turns}
use Rattle.hk_machine.specs.Working.{left}
use Rattle.hk_machine.specs.declared.act.Stop.{Stop}
use Rattle.hk_machine.proofs.Stopping.{no-step}
use Rattle.hk_machine.proofs.Turning.{went-stops}
use Rattle.hk_machine.proofs.work.work_on.Goals as goal

pub returns-in-Some-2-clause-stops : goal.returns-in-Some-2-clause-stops
returns-in-Some-2-clause-stops c =
    let plan : Lookups = lookups c.args.plan.now in
    let k : Pages = told_pages c.args.told.now in
    let first = c.args.work.now in
    let begun = c.render_on.new.work in
    let here = c.loop-work.work in
    let led = subst (λ (o : Option Stop). Turns k (left plan c.args.item first) first.notes o (left plan c.args.item begun) begun.notes begun.page) c.in_default.is c.in_ok-stop.ensures.turns in
    let came = went-on k (left plan c.args.item first) (left plan c.args.item begun) (left plan c.args.item here) first.notes begun.notes here.notes led c.loop-work.invariant.0 in
    let new = c.turn.new.work in
    let turned = subst (λ (o : Option Stop). Turns k (left plan c.args.item here) here.notes o (left plan c.args.item new) new.notes new.page) c.in-Some-2.is c.in_ok-stop-2.ensures.turns in
    went-stops k (left plan c.args.item first) (left plan c.args.item here) (left plan c.args.item new) first.notes here.notes new.notes new.page came c.in-Some-2.stop turned

pub loop-work-preserved : goal.loop-work-preserved
loop-work-preserved c =
    let plan : Lookups = lookups c.args.plan.now in
    let k : Pages = told_pages c.args.told.now in
    let first = c.args.work.now in
    let begun = c.render_on.new.work in
    let here = c.loop-work.work in
    let new = c.turn.new.work in
    let turned = subst (λ (o : Option Stop). Turns k (left plan c.args.item here) here.notes o (left plan c.args.item new) new.notes new.page) c.in_default-2.is c.in_ok-stop-2.ensures.turns in
    let passed : here.at < new.at = c.in_ok-stop-2.ensures.passed c.in_default-2.is in (
      went-on k (left plan c.args.item begun) (left plan c.args.item here) (left plan c.args.item new) begun.notes here.notes new.notes c.loop-work.invariant.0 turned,
      omega (arith, passed, c.loop-work.invariant.1),
      c.in_ok-stop-2.ensures.idle c.in_default-2.is,
    )

pub returns-clause-stops : goal.returns-clause-stops
returns-clause-stops c =
    let plan : Lookups = lookups c.args.plan.now in
    let k : Pages = told_pages c.args.told.now in
    let first = c.args.work.now in
    let begun = c.render_on.new.work in
    let here = c.loop-work.work in
    let led = subst (λ (o : Option Stop). Turns k (left plan c.args.item first) first.notes o (left plan c.args.item begun) begun.notes begun.page) c.in_default.is c.in_ok-stop.ensures.turns in
    let came = went-on k (left plan c.args.item first) (left plan c.args.item begun) (left plan c.args.item here) first.notes begun.notes here.notes led c.loop-work.invariant.0 in
    let steps : c.as_slice-steps.result.now ≡ plan.chain c.args.item = c.as_slice-steps.ensures.value ∙ (c.chain.view_is ∙ c.chain-chain.ensures) in
    (came, no-step plan c.args.item here c.loop-work.invariant.2 c.as_slice-steps.result.now steps (omega arith))
