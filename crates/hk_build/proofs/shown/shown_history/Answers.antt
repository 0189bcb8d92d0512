use Rattle.std.proofs.Common.{◌≡◌, sym, ap, ◌∙◌, subst, ℕ, ◌<◌, Bool, false, All, List, get_or}
use Rattle.hk_chain.specs.Layout.{Shape, pairs}
use Rattle.hk_fix.specs.declared.event.Event.{Event}
use Rattle.hk_fix.specs.Facts.{is_in}
use Rattle.hk_machine.specs.Machine.{plan_shape}
use Rattle.hk_texts.specs.TraceText.{IsEventWithin}
use Rattle.hk_build.specs.Shown.{marked_events}
use Rattle.hk_build.proofs.Showing.{history-in, items-below, shown-result}
use Rattle.hk_build.proofs.shown.shown_history.Goals as goal

pub marked-requires : goal.marked-requires
marked-requires c =
    let plan = c.args.plan.now in
    let lay-is : c.get-layout.result.now ≡ plan_shape plan = c.get-layout.ensures ∙ c.layout.ensures in
    let count : c.items.result ≡ (plan_shape plan).items = c.items.ensures.value ∙ ap (λ (l : Shape). l.items) lay-is in
    subst (λ (is : List ℕ). All (λ i. i < c.items.result) is) (sym c.deref.ensures.value) (items-below plan c.requires.0 c.args.build.now c.requires.1 c.items.result count)

pub marked_events-requires : goal.marked_events-requires
marked_events-requires c =
    let lay-is : c.get-layout.result.now ≡ plan_shape c.args.plan.now = c.get-layout.ensures ∙ c.layout.ensures in
    subst (λ (h : List Event). All (IsEventWithin c.get-layout.result.now.items (pairs c.get-layout.result.now)) h) (sym c.history_of.ensures) (history-in c.args.plan.now c.requires.0 c.args.build.now c.requires.1 c.get-layout.result.now lay-is)

pub returns : goal.returns
returns c =
    let lay-is : c.get-layout.result.now ≡ plan_shape c.args.plan.now = c.get-layout.ensures ∙ c.layout.ensures in
    let marks : List Bool = c.in_ok-marks.marks.items in
    let marked : (i : ℕ) → i < c.get-layout.result.now.items → get_or marks i false ≡ is_in c.args.build.now.compiled.items i =
    λ i lt. c.in_ok-marks.ensures i (subst (λ n. i < n) (sym c.items.ensures.value) lt) ∙ ap (λ (is : List ℕ). is_in is i) c.deref.ensures.value in
    shown-result c.args.plan.now c.args.build.now c.get-layout.result.now lay-is c.items.ensures.valid.shape marks marked c.deref-2.result.now c.deref-2.ensures.value c.history_of.result.now c.history_of.ensures c.marked_events.result c.marked_events.ensures
