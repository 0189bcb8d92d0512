-- The numbers in a report are those of the layout's items and pairs.
use Rattle.std.proofs.Common.{◌≡◌, refl, sym, ◌∙◌, subst, arith, ℕ, zero, suc, ◌<◌, Bool, true, false, cond, List, [], ◌∷◌, length, map, filter, ◌&&◌, not, get_or, Option, Some, nat_eq, nat_lt, ltb-true, lt-ltb, All}
use Rattle.std.specs.List.{AllByRecursion, slice_get}
use Rattle.std.proofs.lemmas.List.{length-map}
use Rattle.std.proofs.lemmas.List.Elements.{All-append, All-filter, All-map, All-weaker, All-from_recursion}
use Rattle.std.proofs.lemmas.Option.{slice_get-get_or}
use Rattle.std.proofs.lemmas.Simd.{map-map}
use Rattle.hk_chain.specs.Layout.{Shape, IsShape, IsLayout, pairs}
use Rattle.hk_fix.specs.Fix.{Ending, finished, faulted, waiting}
use Rattle.hk_fix.specs.Outcomes.{outcome_view}
use Rattle.hk_fix.specs.Report.{lead_of, trail, before, followers, on_cycle, is_least, members, upto, is_faulted, is_waiting, waits_of, WaitsFor, CanReport, ReportView, report_of}
use Rattle.hk_fix.specs.Walks.{LeadsIn}
use Rattle.hk_fix.specs.declared.results.Outcome.{Outcome}
use Rattle.hk_rules.specs.Pairs.{layout, count_of}
use Rattle.hk_rules.specs.Plan.{lookups}
use Rattle.hk_rules.specs.PlanView.{PlanView}
use Rattle.hk_fix.proofs.Reports.{firsts-in, leads-in}
use Rattle.hk_fix.proofs.Trails.{trail-enters}
use Rattle.hk_texts.specs.ReportText.{IsReportWithin, IsBlockedWithin}

upto-below : (n : ℕ) → All (λ i. i < n) (upto n)
upto-below zero = λ k d lt. absurd (omega arith)
upto-below (suc n) = All-append (λ i. i < suc n) (upto n) (n ∷ []) (All-weaker (λ i. i < n) (λ i. i < suc n) (λ i lt. omega arith) (upto n) (upto-below n)) (All-from_recursion (λ i. i < suc n) (n ∷ []) (omega arith, tt))

before-keeps : (P : ℕ → Type 0) (i : ℕ) (xs : List ℕ) → AllByRecursion P xs → AllByRecursion P (before i xs)
before-keeps P i [] h = tt
before-keeps P i (x ∷ xs) h = elim (nat_eq i x) as (λ b. AllByRecursion P (cond b [] (x ∷ before i xs))) [ true ↦ tt | false ↦ (h.0, before-keeps P i xs h.1) ]

module _ (leads : List (Option ℕ)) (range : LeadsIn leads) where
  abbrev in_leads : ℕ → Bool
  in_leads q = nat_lt q (length leads)

  tested : (xs : List ℕ) → AllByRecursion (λ q. in_leads q ≡ true) xs → AllByRecursion (λ q. q < length leads) xs
  tested [] h = tt
  tested (x ∷ xs) h = (ltb-true x (length leads) h.0, tested xs h.1)

  trail-within : (n v : ℕ) → AllByRecursion (λ q. q < length leads) (trail leads n v)
  trail-within n v = tested (trail leads n v) (trail-enters leads in_leads (λ q w i e. lt-ltb w (length leads) (range q w e)) n v (λ w e. lt-ltb w (length leads) (range v w e)))

  members-within : (i : ℕ) → i < length leads → All (λ q. q < length leads) (members leads i)
  members-within i lt = All-from_recursion (λ q. q < length leads) (members leads i) (lt, before-keeps (λ q. q < length leads) i (followers leads i) (trail-within (length leads) i))

module _ (lay : Shape) (outcomes : List Ending) (can : CanReport lay outcomes) where
  waits-within : (e : Ending) → WaitsFor lay outcomes e → All (λ p. p < pairs lay) (waits_of (Some e))
  waits-within (finished facts) h = λ k d lt. absurd (omega arith)
  waits-within (faulted f) h = λ k d lt. absurd (omega arith)
  waits-within (waiting ps) h = λ k d lt. (h.each k d lt).0

  blocked-within : (i : ℕ) → i < length outcomes → IsBlockedWithin lay.items (pairs lay) (i, waits_of (slice_get outcomes i))
  blocked-within i lt =
      let d : Ending = waiting [] in (
        subst (λ n. i < n) can.count lt,
        subst (λ o. All (λ p. p < pairs lay) (waits_of o)) (sym (slice_get-get_or outcomes i d lt)) (waits-within (get_or outcomes i d) (can.blocks i d lt)),
      )

report-within : (lay : Shape) (outcomes : List Outcome) → IsShape lay → CanReport lay (map outcome_view outcomes) → IsReportWithin lay.items (pairs lay) (report_of lay (map outcome_view outcomes))
report-within lay outcomes shape can =
    let ends : List Ending = map outcome_view outcomes in
    let leads : List (Option ℕ) = map (lead_of lay) ends in
    let count : length outcomes ≡ lay.items = sym (length-map outcomes outcome_view) ∙ can.count in
    let led : length leads ≡ lay.items = length-map ends (lead_of lay) ∙ can.count in
    let range : LeadsIn leads = subst LeadsIn (sym (map-map (lead_of lay) outcome_view outcomes)) (leads-in lay outcomes shape count (firsts-in lay outcomes can)) in
    record {
      failed = All-filter (λ i. is_faulted (slice_get ends i)) (λ i. i < lay.items) (upto (length ends)) (subst (λ n. All (λ i. i < n) (upto (length ends))) can.count (upto-below (length ends)));
      cycles = All-map (All (λ i. i < lay.items)) (members leads) (filter (λ i. on_cycle leads i && is_least leads i) (upto (length leads)))
          (All-filter (λ i. on_cycle leads i && is_least leads i) (λ i. All (λ q. q < lay.items) (members leads i)) (upto (length leads))
          (All-weaker (λ i. i < length leads) (λ i. All (λ q. q < lay.items) (members leads i))
          (λ i lt. subst (λ n. All (λ q. q < n) (members leads i)) led (members-within leads range i lt)) (upto (length leads)) (upto-below (length leads))));
      blocked = All-map {X = ℕ × List ℕ} (IsBlockedWithin lay.items (pairs lay)) (λ i. (i, waits_of (slice_get ends i))) (filter (λ i. not (on_cycle leads i) && is_waiting (slice_get ends i)) (upto (length ends)))
          (All-filter (λ i. not (on_cycle leads i) && is_waiting (slice_get ends i)) (λ i. IsBlockedWithin lay.items (pairs lay) (i, waits_of (slice_get ends i))) (upto (length ends))
          (All-weaker (λ i. i < length ends) (λ i. IsBlockedWithin lay.items (pairs lay) (i, waits_of (slice_get ends i))) (blocked-within lay ends can) (upto (length ends)) (upto-below (length ends))));
    }

-- the layout of a plan, in its two forms
shape-is : (plan : PlanView) → (lookups plan).layout ≡ layout plan.items
unfolding lookups
shape-is plan = refl

-- the numbers in the report of a plan's items
pub plan-report-within : (plan : PlanView) (outcomes : List Outcome) (report : ReportView) (lay : Shape) → IsLayout lay → lay ≡ (lookups plan).layout → CanReport (layout plan.items) (map outcome_view outcomes)
    → report ≡ report_of (layout plan.items) (map outcome_view outcomes) → IsReportWithin (length plan.items) (pairs (layout plan.items)) report
plan-report-within plan outcomes report lay valid lay-is can is =
    let shape : IsShape (layout plan.items) = subst IsShape (lay-is ∙ shape-is plan) valid.shape in
    subst (IsReportWithin (length plan.items) (pairs (layout plan.items))) (sym is)
    (subst (λ n. IsReportWithin n (pairs (layout plan.items)) (report_of (layout plan.items) (map outcome_view outcomes))) (length-map plan.items count_of) (report-within (layout plan.items) outcomes shape can))
