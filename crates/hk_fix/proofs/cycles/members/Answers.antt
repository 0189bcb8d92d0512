use Rattle.std.proofs.Common.{◌≡◌, ◌<◌, ◌+◌, ◌-◌, sym, ap, ◌∙◌, arith, ℕ, List, [], ◌∷◌, ◌++◌, append_assoc, append-nil, length}
use Rattle.hk_fix.specs.Facts.{is_in}
use Rattle.hk_fix.specs.Report.{trail, before, members}
use Rattle.hk_fix.proofs.Steps.{trail-step, trail-end, before-other, before-same, in-other}
use Rattle.hk_fix.proofs.cycles.members.Goals as goal
use Rattle.hk_fix.proofs.cycles.members.Goals.{in_default-via-in-Some+else-next-item, in_default-via-in_default}

ends-here : (found rest ms : List ℕ) → rest ≡ [] → found ++ rest ≡ ms → found ≡ ms
ends-here found rest ms e was = sym (append-nil found) ∙ (ap (λ l. found ++ l) (sym e) ∙ was)

pub returns-in_default : goal.returns-in_default
returns-in_default c =
    let leads = c.args.leads.now in
    let item = c.args.item in
    let left = length leads - c.loop.counter in
    let some : 0 < left = omega (arith, c.loop-test.true) in
    ends-here c.loop.found.items (before item (trail leads left c.loop.current)) (members leads item)
    (elim c.in_default.branch [
      | in_default-via-in-Some+else-next-item w ↦
          ap (before item) (trail-step leads left c.loop.current w.in-Some.next some w.in-Some.is) ∙ before-same item w.in-Some.next (trail leads (left - 1) w.in-Some.next) w.if-next-item.false
      | in_default-via-in_default w ↦ ap (before item) (trail-end leads left c.loop.current w.in_default.is)
    ]) c.loop.invariant.rest

pub loop-preserved : goal.loop-preserved
loop-preserved c =
    let leads = c.args.leads.now in
    let item = c.args.item in
    let next = c.in-Some.next in
    let found = c.loop.found.items in
    let less : (length leads - c.loop.counter) - 1 ≡ length leads - (c.loop.counter + 1) = omega arith in
    let some : 0 < length leads - c.loop.counter = omega (arith, c.loop-test.true) in
    let step : trail leads (length leads - c.loop.counter) c.loop.current ≡ next ∷ trail leads (length leads - (c.loop.counter + 1)) next =
    trail-step leads (length leads - c.loop.counter) c.loop.current next some c.in-Some.is ∙ ap (λ n. next ∷ trail leads n next) less in
    record {
      in_range = c.requires.range c.loop.current next c.in-Some.is;
      rest = ap (λ l. l ++ before item (trail leads (length leads - (c.loop.counter + 1)) next)) c.in_ok-push-in-Some.ensures.items
          ∙ (append_assoc found (next ∷ []) (before item (trail leads (length leads - (c.loop.counter + 1)) next))
          ∙ (ap (λ l. found ++ l) (sym (ap (before item) step ∙ before-other item next (trail leads (length leads - (c.loop.counter + 1)) next) c.if-next-item.true)) ∙ c.loop.invariant.rest));
      comes = in-other item next (trail leads (length leads - (c.loop.counter + 1)) next) c.if-next-item.true (sym (ap (λ l. is_in l item) step) ∙ c.loop.invariant.comes);
    }
