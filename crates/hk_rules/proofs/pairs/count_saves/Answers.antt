use Rattle.std.proofs.Common.{sym, ap, ◌∙◌, arith, true, false}
use Rattle.std.specs.Option.{is_some}
use Rattle.hk_rules.proofs.Pairing.{count-turn, is_some-map}
use Rattle.hk_rules.proofs.pairs.count_saves.Goals as goal
use Rattle.hk_rules.proofs.pairs.count_saves.Goals.{then-is_some, else-is_some}

pub loop-step-preserved : goal.loop-step-preserved
loop-step-preserved c =
    let is = ap is_some (sym c.saved.ensures) ∙ is_some-map _ c.saved.result ∙ sym c.is_some.ensures in
    elim c.if-is_some.branch [
      | then-is_some w ↦
          let turn = count-turn c.args.steps.now c.loop-step.step-index c.step-item.result true c.loop-step-test.true c.step-item.is (is ∙ w.if-is_some.true) in
          record { bound = omega arith; value = omega (arith, turn) }
      | else-is_some w ↦
          let turn = count-turn c.args.steps.now c.loop-step.step-index c.step-item.result false c.loop-step-test.true c.step-item.is (is ∙ w.if-is_some.false) in
          record { bound = omega arith; value = omega (arith, turn) }
    ]
