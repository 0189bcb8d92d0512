use Rattle.std.proofs.Common.{◌≡◌, ◌∙◌, ap, subst, sym}
use Rattle.hk_chain.specs.Kept.{none_kept}
use Rattle.hk_machine.specs.Machine.{plan_shape}
use Rattle.hk_replay.specs.Known.{IsKnown}
use Rattle.hk_reuse.specs.Entries.{entries_in}
use Rattle.hk_build.specs.Ended.{IsReplayed}
use Rattle.hk_build.proofs.Replayed.{replayed, has-replayed, built}
use Rattle.hk_build.proofs.build.build_one.Goals as goal

pub ended-requires-clause-replayed : goal.ended-requires-clause-replayed
ended-requires-clause-replayed c =
    let plan = c.args.plan.now in
    let stored = c.args.stored.now in
    let maker = c.in_ok-maker.maker in
    let lent : c.layout-layout.result.now ≡ plan_shape plan = c.layout-layout.ensures ∙ ap plan_shape c.get.ensures in
    let over : IsReplayed plan (entries_in stored) maker.records c.in_ok-results.results = replayed plan c.requires.plan stored c.requires.stored maker.records c.in_ok-maker.ensures.records
    c.in_ok-try_clone.field-0 (c.in_ok-try_clone.ensures ∙ lent) c.in_ok-kept.kept (c.in_ok-kept.ensures.value ∙ ap none_kept (c.get-3.ensures ∙ lent)) maker.inner.plan c.in_ok-maker.ensures.inner c.in_ok-results.results c.in_ok-results.ensures in
    has-replayed plan c.requires.plan stored c.requires.stored maker.records c.in_ok-maker.ensures.records c.get-4.result.now c.get-4.ensures c.in_ok-results.results over

pub ended-requires-clause-known : goal.ended-requires-clause-known
ended-requires-clause-known c = subst (λ p. IsKnown p c.in_ok-maker.maker.known) (sym c.get-4.ensures) c.in_ok-maker.ensures.known

pub returns : goal.returns
returns c =
    let plan = c.args.plan.now in
    let stored = c.args.stored.now in
    let maker = c.in_ok-maker.maker in
    let lent : c.layout-layout.result.now ≡ plan_shape plan = c.layout-layout.ensures ∙ ap plan_shape c.get.ensures in
    let over : IsReplayed plan (entries_in stored) maker.records c.in_ok-results.results = replayed plan c.requires.plan stored c.requires.stored maker.records c.in_ok-maker.ensures.records
    c.in_ok-try_clone.field-0 (c.in_ok-try_clone.ensures ∙ lent) c.in_ok-kept.kept (c.in_ok-kept.ensures.value ∙ ap none_kept (c.get-3.ensures ∙ lent)) maker.inner.plan c.in_ok-maker.ensures.inner c.in_ok-results.results c.in_ok-results.ensures in
    built plan c.requires.plan stored c.requires.stored maker.records c.in_ok-maker.ensures.records c.get-4.result.now c.get-4.ensures c.in_ok-results.results over c.ended.result c.ended.ensures
