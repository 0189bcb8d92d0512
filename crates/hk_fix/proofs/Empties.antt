-- A report is empty exactly where every item is done.
use Rattle.std.proofs.Common.{◌≡◌, ◌↔◌, refl, sym, ap, ◌∙◌, subst, arith, ℕ, zero, suc, ◌<◌, Bool, true, false, ◌&&◌, not, inl, inr, List, [], ◌∷◌, length, map, filter, get_or, Option, Some, None, Result, Ok, Err, IfOk, nat_eq, nat_lt, eq-eqb, ltb-true, ltb-false, All}
use Rattle.std.specs.List.{slice_get}
use Rattle.std.proofs.lemmas.List.{length-map, get_or-map, get_or_past}
use Rattle.std.proofs.lemmas.List.Elements.{filter-append}
use Rattle.std.proofs.lemmas.Option.{slice_get-get_or}
use Rattle.hk_base.specs.declared.refusal.NoMemory.{NoMemory}
use Rattle.hk_chain.specs.Kept.{at_place}
use Rattle.hk_chain.specs.Layout.{Shape}
use Rattle.hk_fix.specs.Facts.{is_in}
use Rattle.hk_fix.specs.Fix.{Ending, finished, faulted, waiting, is_finished}
use Rattle.hk_fix.specs.Report.{ReportView, lead_of, on_cycle, is_least, members, upto, is_faulted, is_waiting, waits_of, cycles_of, report_of, IsEmptyReport}
use Rattle.hk_fix.proofs.Orders.{clash, decide, filter-none}
use Rattle.hk_fix.proofs.Trails.{or_left, in-left, in-right, least-on-cycle}
use Rattle.hk_fix.proofs.Searching.{all-holds}
use Rattle.hk_fix.proofs.Steps.{trail-end}

upto-in : (n q : ℕ) → q < n → is_in (upto n) q ≡ true
upto-in zero q lt = absurd (omega arith)
upto-in (suc n) q lt =
    elim (decide (nat_eq q n)) [
      | inl t ↦ in-right (upto n) (n ∷ []) q (or_left (nat_eq q n) false t)
      | inr f ↦ in-left (upto n) (n ∷ []) q (upto-in n q (elim (decide (nat_lt q n)) [ inl l ↦ ltb-true q n l | inr g ↦ clash (nat_eq q n) f (eq-eqb q n (omega (arith, ltb-false q n g))) ]))
    ]

nothing-kept : (test : ℕ → Bool) (n : ℕ) → filter test (upto n) ≡ [] → (q : ℕ) → q < n → test q ≡ false
nothing-kept test n e q lt = all-holds (λ x. test x ≡ false) (upto n) q (filter-none test (upto n) e) (upto-in n q lt)

keeps-nothing : (test : ℕ → Bool) (n : ℕ) → ((q : ℕ) → q < n → test q ≡ false) → filter test (upto n) ≡ []
keeps-nothing test zero h = refl
keeps-nothing test (suc n) h =
    let rest : filter test (upto n) ≡ [] = keeps-nothing test n (λ q lt. h q (omega arith)) in
    filter-append test (upto n) (n ∷ []) ∙ rw (rest, h n (omega arith)) refl

map-empty : {A : Type 0} (f : ℕ → A) (xs : List ℕ) → map f xs ≡ [] → xs ≡ []
map-empty f [] e = refl
map-empty f (x ∷ xs) e = cc

both-false : (a b : Bool) → (a && b) ≡ false → b ≡ true → a ≡ false
both-false true true e t = e
both-false true false e t = cc
both-false false b e t = refl

not-both : (a b : Bool) → (not a && b) ≡ false → b ≡ true → a ≡ true
not-both true b e t = refl
not-both false true e t = cc
not-both false false e t = cc

module _ (leads : List (Option ℕ)) where
  nowhere : (i : ℕ) → at_place leads i ≡ None → on_cycle leads i ≡ false
  nowhere i e = ap (λ (l : List ℕ). is_in l i) (trail-end leads (length leads) i e)

  cycle-in : (i : ℕ) → on_cycle leads i ≡ true → i < length leads
  cycle-in i on =
      elim (decide (nat_lt i (length leads))) [
        | inl t ↦ ltb-true i (length leads) t
        | inr f ↦ clash (on_cycle leads i) (nowhere i (get_or_past leads i None (ltb-false i (length leads) f))) on
      ]

  -- where no cycle is listed there is none
  no-cycles : cycles_of leads ≡ [] → (i : ℕ) → on_cycle leads i ≡ false
  no-cycles e i =
      elim (decide (on_cycle leads i)) [
        | inr f ↦ f
        | inl t ↦
            let m : (q : ℕ) × (on_cycle leads q ≡ true) × (is_least leads q ≡ true) = least-on-cycle leads i t in
            clash (on_cycle leads m.0) (both-false (on_cycle leads m.0) (is_least leads m.0)
            (nothing-kept (λ q. on_cycle leads q && is_least leads q) (length leads) (map-empty (members leads) (filter (λ q. on_cycle leads q && is_least leads q) (upto (length leads))) e) m.0 (cycle-in m.0 m.1)) m.2) m.1
      ]

module _ (lay : Shape) (outcomes : List Ending) where
  done-of : (o : Ending) → is_faulted (Some o) ≡ false → is_waiting (Some o) ≡ false → is_finished o ≡ true
  done-of (finished f) a b = refl
  done-of (faulted e) a b = cc
  done-of (waiting ps) a b = cc

  all-done : IsEmptyReport (report_of lay outcomes) → All (λ e. is_finished e ≡ true) outcomes
  all-done r k d lt =
      let at : slice_get outcomes k ≡ Some (get_or outcomes k d) = slice_get-get_or outcomes k d lt in
      done-of (get_or outcomes k d)
      (sym (ap is_faulted at) ∙ nothing-kept (λ i. is_faulted (slice_get outcomes i)) (length outcomes) r.0 k lt)
      (elim (decide (is_waiting (Some (get_or outcomes k d)))) [
        | inr f ↦ f
        | inl t ↦ clash (on_cycle (map (lead_of lay) outcomes) k) (no-cycles (map (lead_of lay) outcomes) r.1 k)
            (not-both (on_cycle (map (lead_of lay) outcomes) k) (is_waiting (slice_get outcomes k))
            (nothing-kept (λ i. not (on_cycle (map (lead_of lay) outcomes) i) && is_waiting (slice_get outcomes i)) (length outcomes)
            (map-empty {A = ℕ × List ℕ} (λ i. (i, waits_of (slice_get outcomes i))) (filter (λ i. not (on_cycle (map (lead_of lay) outcomes) i) && is_waiting (slice_get outcomes i)) (upto (length outcomes))) r.2) k lt) (ap is_waiting at ∙ t))
      ])

  module _ (done : All (λ e. is_finished e ≡ true) outcomes) where
    is-done : (o : Ending) → is_finished o ≡ true → (is_faulted (Some o) ≡ false) × (is_waiting (Some o) ≡ false) × (lead_of lay o ≡ None)
    is-done (finished f) h = (refl, refl, refl)
    is-done (faulted e) h = cc
    is-done (waiting ps) h = cc

    at-done : (i : ℕ) → i < length outcomes → (is_faulted (slice_get outcomes i) ≡ false) × (is_waiting (slice_get outcomes i) ≡ false) × (at_place (map (lead_of lay) outcomes) i ≡ None)
    at-done i lt =
        let d : Ending = waiting [] in
        let at : slice_get outcomes i ≡ Some (get_or outcomes i d) = slice_get-get_or outcomes i d lt in
        let is = is-done (get_or outcomes i d) (done i d lt) in
        (ap is_faulted at ∙ is.0, ap is_waiting at ∙ is.1, get_or-map (lead_of lay) outcomes i d None lt ∙ is.2)

    nothing-left : IsEmptyReport (report_of lay outcomes)
    nothing-left = (
      keeps-nothing (λ i. is_faulted (slice_get outcomes i)) (length outcomes) (λ q lt. (at-done q lt).0),
      ap (map (members (map (lead_of lay) outcomes))) (keeps-nothing (λ i. on_cycle (map (lead_of lay) outcomes) i && is_least (map (lead_of lay) outcomes) i) (length (map (lead_of lay) outcomes))
          (λ q lt. rw (nowhere (map (lead_of lay) outcomes) q (at-done q (omega (arith, lt, length-map outcomes (lead_of lay)))).2) refl)),
      ap (map {B = ℕ × List ℕ} (λ i. (i, waits_of (slice_get outcomes i)))) (keeps-nothing (λ i. not (on_cycle (map (lead_of lay) outcomes) i) && is_waiting (slice_get outcomes i)) (length outcomes) (λ q lt. out (not (on_cycle (map (lead_of lay) outcomes) q)) (is_waiting (slice_get outcomes q)) (at-done q lt).1)),
    )
      where
        out : (a b : Bool) → b ≡ false → (a && b) ≡ false
        out true b e = e
        out false b e = refl

  pub empty-iff : IsEmptyReport (report_of lay outcomes) ↔ All (λ e. is_finished e ≡ true) outcomes
  empty-iff = (all-done, nothing-left)

pub empty-of : (lay : Shape) (outcomes : List Ending) (result : Result ReportView NoMemory) → IfOk result (λ r. r ≡ report_of lay outcomes) → IfOk result (λ r. IsEmptyReport r ↔ All (λ e. is_finished e ≡ true) outcomes)
empty-of lay outcomes (Ok r) e = subst (λ (s : ReportView). IsEmptyReport s ↔ All (λ o. is_finished o ≡ true) outcomes) (sym e) (empty-iff lay outcomes)
empty-of lay outcomes (Err n) e = e
