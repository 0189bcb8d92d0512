use Rattle.std.proofs.Common.{◌≡◌, ◌∙◌, ap, subst, sym}
use denote.Exit.{yes}
use denote.Param.Send.{param_send, arg_send, param_sync, arg_sync}
use Rattle.hk_base.proofs.shared.Shared.TheSendSync as shared
use Rattle.hk_base.specs.contracts.shared.Shared as Shared
use Rattle.hk_machine.specs.contracts.compiling.MachineCompiler.TheImpl as compiler
use Rattle.hk_machine.specs.contracts.machine.Machine as machine
use Rattle.hk_machine.specs.contracts.maker.PlanMaker as plans
use Rattle.hk_machine.specs.contracts.maker.PlanMakerMaker.TheImpl as making
use Rattle.hk_replay.proofs.maker.ReplayMaker.TheSendSync as maker
use Rattle.hk_replay.proofs.replay.Held.TheSendSync as held
use Rattle.hk_replay.proofs.replay.Replay.TheSendSync as replay
use Rattle.hk_rules.specs.contracts.plan.Plan as plan
use Rattle.hk_build.proofs.Machines.{machine_send, maker_sync}
use Rattle.hk_build.proofs.Plans.{plan_send, plan_sync}
use Rattle.hk_chain.specs.Kept.{none_kept}
use Rattle.hk_machine.specs.Machine.{plan_shape}
use Rattle.hk_replay.specs.Known.{IsKnown}
use Rattle.hk_reuse.specs.Entries.{entries_in}
use Rattle.hk_build.specs.Ended.{IsReplayed}
use Rattle.hk_build.proofs.Replayed.{replayed, has-replayed, built}
use Rattle.hk_build.proofs.pool.build_in_pool.Goals as goal

pub run_steal-requires-send-K-M : goal.run_steal-requires-send-K-M
run_steal-requires-send-K-M g c κs within = param_send 3 _ (arg_send _ yes _ (replay.the_send machine.the_row (Shared.the_row plan.the_row) compiler.ghosts machine_send))

pub run_steal-requires-send-K-M-Common : goal.run_steal-requires-send-K-M-Common
run_steal-requires-send-K-M-Common g c κs within = param_send 4 _ (arg_send _ yes _ (held.the_send (Shared.the_row plan.the_row) (shared.the_send plan.the_row plan_send plan_sync)))

pub run_steal-requires-sync-K : goal.run_steal-requires-sync-K
run_steal-requires-sync-K g c κs within = param_sync 0 _ (arg_sync _ yes _ (maker.the_sync plans.the_row machine.the_row (Shared.the_row plan.the_row) making.ghosts compiler.ghosts maker_sync))

pub ended-requires-clause-replayed : goal.ended-requires-clause-replayed
ended-requires-clause-replayed g c =
    let plan = c.args.plan.now in
    let stored = c.args.stored.now in
    let maker = c.in_ok-maker.maker in
    let lent : c.layout-layout.result.now ≡ plan_shape plan = c.layout-layout.ensures ∙ ap plan_shape c.get.ensures in
    let over : IsReplayed plan (entries_in stored) maker.records c.in_ok-results.results = replayed plan c.requires.plan stored c.requires.stored maker.records c.in_ok-maker.ensures.records
    c.in_ok-try_clone.field-0 (c.in_ok-try_clone.ensures ∙ lent) c.in_ok-kept.kept (c.in_ok-kept.ensures.value ∙ ap none_kept (c.get-3.ensures ∙ lent)) maker.inner.plan c.in_ok-maker.ensures.inner c.in_ok-results.results c.in_ok-results.ensures in
    has-replayed plan c.requires.plan stored c.requires.stored maker.records c.in_ok-maker.ensures.records c.get-4.result.now c.get-4.ensures c.in_ok-results.results over

pub ended-requires-clause-known : goal.ended-requires-clause-known
ended-requires-clause-known g c = subst (λ p. IsKnown p c.in_ok-maker.maker.known) (sym c.get-4.ensures) c.in_ok-maker.ensures.known

pub returns : goal.returns
returns g c =
    let plan = c.args.plan.now in
    let stored = c.args.stored.now in
    let maker = c.in_ok-maker.maker in
    let lent : c.layout-layout.result.now ≡ plan_shape plan = c.layout-layout.ensures ∙ ap plan_shape c.get.ensures in
    let over : IsReplayed plan (entries_in stored) maker.records c.in_ok-results.results = replayed plan c.requires.plan stored c.requires.stored maker.records c.in_ok-maker.ensures.records
    c.in_ok-try_clone.field-0 (c.in_ok-try_clone.ensures ∙ lent) c.in_ok-kept.kept (c.in_ok-kept.ensures.value ∙ ap none_kept (c.get-3.ensures ∙ lent)) maker.inner.plan c.in_ok-maker.ensures.inner c.in_ok-results.results c.in_ok-results.ensures in
    built plan c.requires.plan stored c.requires.stored maker.records c.in_ok-maker.ensures.records c.get-4.result.now c.get-4.ensures c.in_ok-results.results over c.ended.result c.ended.ensures
