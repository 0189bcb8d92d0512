-- A trace tells a history.
use Rattle.std.proofs.Common.{◌≡◌, ℕ, suc, List, [], ◌∷◌, ◌++◌, length, All, refl, sym, ap, ◌∙◌, arith, append_assoc, length-append}
use Rattle.hk_chain.specs.Layout.{pairs}
use Rattle.hk_fix.specs.declared.event.Event.{Event}
use Rattle.hk_rules.specs.LinkedPlan.{IsLinkedPlan}
use Rattle.hk_rules.specs.Plan.{Lookups, lookups}
use Rattle.hk_rules.specs.PlanView.{PlanView}
use Rattle.hk_texts.specs.Telling.{HasIdentifiers, IsHistoryOf, PrintApart}
use Rattle.hk_texts.specs.TraceText.{IsEventWithin, event_line, trace_text}
use Rattle.hk_texts.proofs.Lines.{AreTelling, plan-tells, words, line-words, words-lack, same-event}
use Rattle.hk_texts.proofs.Separated.{first-parts}

module _ (plan : Lookups) (tells : AreTelling plan) where
  abbrev AreWithin : List Event → Type 0
  AreWithin history = All (IsEventWithin plan.count (pairs plan.layout)) history

  front : (event : Event) (history : List Event) → AreWithin (event ∷ history) → IsEventWithin plan.count (pairs plan.layout) event
  front event history h = h 0 event (omega arith)

  rest : (event : Event) (history : List Event) → AreWithin (event ∷ history) → AreWithin history
  rest event history h = λ k d lt. h (suc k) d (omega arith)

  line-first : (event : Event) (text : List ℕ) → event_line plan event ++ text ≡ words plan event ++ 10 ∷ text
  line-first event text = ap (λ l. l ++ text) (line-words plan event) ∙ append_assoc (words plan event) (10 ∷ []) text

  no-line : (event : Event) (text : List ℕ) → [] ≡ words plan event ++ 10 ∷ text → ⊥
  no-line event text e = omega (arith, ap length e, length-append (words plan event) (10 ∷ text))

  pub told : (one other : List Event) → AreWithin one → AreWithin other → trace_text plan one ≡ trace_text plan other → one ≡ other
  told [] [] h h' e = refl
  told [] (y ∷ other) h h' e = absurd (no-line y (trace_text plan other) (e ∙ line-first y (trace_text plan other)))
  told (x ∷ one) [] h h' e = absurd (no-line x (trace_text plan one) (sym e ∙ line-first x (trace_text plan one)))
  told (x ∷ one) (y ∷ other) h h' e =
      let lines = sym (line-first x (trace_text plan one)) ∙ (e ∙ line-first y (trace_text plan other)) in
      let parts = first-parts 10 (words plan x) (words plan y) (trace_text plan one) (trace_text plan other)
      (words-lack plan tells x (front x one h)) (words-lack plan tells y (front y other h')) lines in
      let event : x ≡ y = same-event plan tells x y (front x one h) (front y other h') parts.0 in
      let events : one ≡ other = told one other (rest x one h) (rest y other h') parts.1 in
      cc

pub same-history : (plan : PlanView) (one other : List Event) → IsLinkedPlan plan → HasIdentifiers plan → PrintApart (lookups plan)
    → IsHistoryOf plan one → IsHistoryOf plan other → trace_text (lookups plan) one ≡ trace_text (lookups plan) other → one ≡ other
unfolding lookups
same-history plan one other linked held apart h h' e = told (lookups plan) (plan-tells plan linked held apart) one other h h' e
