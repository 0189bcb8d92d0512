use Rattle.std.proofs.Common.{◌≡◌, ◌∙◌, ap}
use Rattle.hk_chain.specs.Kept.{none_kept}
use Rattle.hk_machine.specs.Machine.{plan_shape}
use Rattle.hk_build.proofs.Compiling.{checked-run}
use Rattle.hk_build.proofs.check.check_one.Goals as goal

pub returns : goal.returns
returns c =
    let lent : c.layout-layout.result.now ≡ plan_shape c.args.plan.now = c.layout-layout.ensures ∙ ap plan_shape c.get.ensures in
    let lay-is : c.in_ok-try_clone-2.field-0 ≡ plan_shape c.args.plan.now = c.in_ok-try_clone-2.ensures ∙ lent in
    checked-run c.args.plan.now c.in_ok-try_clone-2.field-0 lay-is c.in_ok-kept.kept (c.in_ok-kept.ensures.value ∙ ap none_kept (c.get-3.ensures ∙ lent)) c.new-maker.result.plan (c.new-maker.ensures ∙ c.in_ok-try_clone.ensures) c.run_one.result c.run_one.ensures
