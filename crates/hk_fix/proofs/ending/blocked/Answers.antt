use Rattle.std.proofs.Common.{◌≡◌, sym, ap, ◌∙◌, arith, ℕ, List, ◌∷◌, [], map, Some, false, true}
use Rattle.std.proofs.lemmas.List.{map-append}
use Rattle.std.specs.List.{slice_get}
use Rattle.hk_fix.specs.Outcomes.{outcome_view}
use Rattle.hk_fix.specs.Report.{on_cycle, waits_of}
use Rattle.hk_fix.specs.Walks.{place_at, place_on_cycle}
use Rattle.hk_fix.proofs.Reports.{map-more, map-same, view-at, off-is, off-not, blocks_test, blocks-on, blocks-other, blocks-cycle, off-cycle-of, on-cycle-of}
use Rattle.hk_fix.proofs.ending.blocked.Goals as goal
use Rattle.hk_fix.proofs.ending.blocked.Goals.{then-eq+in-Waiting+in_ok-from_slice+in_ok-push, then-eq+in_default, else-eq}

pub loop-i-preserved : goal.loop-i-preserved
loop-i-preserved c =
    let leads = c.args.leads.now in
    let outcomes = c.args.outcomes.now in
    let i = c.loop-i.i in
    let f : ℕ → ℕ × List ℕ = λ n. (n, waits_of (slice_get (map outcome_view outcomes) n)) in
    let here : place_at c.args.places.now i ≡ place_on_cycle leads i = c.requires.each i (omega (arith, c.loop-i-test.true, c.requires.leads)) in
    elim c.if-eq.branch [
      | then-eq+in-Waiting+in_ok-from_slice+in_ok-push w ↦
          let off : on_cycle leads i ≡ false = off-cycle-of leads i (place_at c.args.places.now i) here (off-is (place_at c.args.places.now i) (sym c.eq.ensures ∙ w.if-eq.true)) in
          let at : slice_get (map outcome_view outcomes) i ≡ Some (outcome_view w.index-outcomes-i.result) = view-at outcomes i w.index-outcomes-i.result c.loop-i-test.true w.index-outcomes-i.is in
          let same : w.in_ok-from_slice.field-0.items ≡ waits_of (slice_get (map outcome_view outcomes) i) = w.in_ok-from_slice.ensures.items ∙ (w.deref.ensures.value ∙ sym (ap waits_of at ∙ ap (λ o. waits_of (Some (outcome_view o))) w.in-Waiting.is)) in
          ap (λ v. map {B = ℕ × List ℕ} (λ b. (b.0, b.1.items)) v.items) w.blocked-is ∙ (ap (map {B = ℕ × List ℕ} (λ b. (b.0, b.1.items))) w.in_ok-push.ensures.items
          ∙ (map-append {B = ℕ × List ℕ} (λ b. (b.0, b.1.items)) c.loop-i.blocked.items ((i, w.in_ok-from_slice.field-0) ∷ [])
          ∙ map-more f (blocks_test leads outcomes) i (map {B = ℕ × List ℕ} (λ b. (b.0, b.1.items)) c.loop-i.blocked.items) (i, w.in_ok-from_slice.field-0.items) (blocks-on leads outcomes i w.index-outcomes-i.result w.in-Waiting.pairs off at w.in-Waiting.is) (ap {B = ℕ × List ℕ} (λ l. (i, l)) same) c.loop-i.invariant))
      | then-eq+in_default w ↦
          let off : on_cycle leads i ≡ false = off-cycle-of leads i (place_at c.args.places.now i) here (off-is (place_at c.args.places.now i) (sym c.eq.ensures ∙ w.if-eq.true)) in
          let at : slice_get (map outcome_view outcomes) i ≡ Some (outcome_view w.index-outcomes-i.result) = view-at outcomes i w.index-outcomes-i.result c.loop-i-test.true w.index-outcomes-i.is in
          ap (λ v. map {B = ℕ × List ℕ} (λ b. (b.0, b.1.items)) v.items) w.blocked-is
          ∙ map-same f (blocks_test leads outcomes) i (map {B = ℕ × List ℕ} (λ b. (b.0, b.1.items)) c.loop-i.blocked.items) (blocks-other leads outcomes i w.index-outcomes-i.result off at w.in_default.not-Waiting) c.loop-i.invariant
      | else-eq w ↦
          let on : on_cycle leads i ≡ true = on-cycle-of leads i (place_at c.args.places.now i) here (off-not (place_at c.args.places.now i) (sym c.eq.ensures ∙ w.if-eq.false)) in
          ap (λ v. map {B = ℕ × List ℕ} (λ b. (b.0, b.1.items)) v.items) w.blocked-is
          ∙ map-same f (blocks_test leads outcomes) i (map {B = ℕ × List ℕ} (λ b. (b.0, b.1.items)) c.loop-i.blocked.items) (blocks-cycle leads outcomes i on) c.loop-i.invariant
    ]
