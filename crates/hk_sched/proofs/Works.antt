-- What an open board is, and what its calls leave to happen.
use Rattle.std.proofs.Common.{◌≡◌, refl, sym, ap, ◌∙◌, subst, ℕ, zero, suc, ◌<◌, true, false, inl, List, [], ◌∷◌, ◌++◌, length, map, reverse, Option, Some, None, is_some, nat_eq, eq-eqb, arith}
use Rattle.hk_chain.specs.declared.page.Page.{Page}
use Rattle.hk_chain.specs.declared.fault.Fault.{Fault}
use Rattle.hk_chain.specs.Facts.{FactsView}
use Rattle.hk_chain.specs.Kept.{at_place, KeptView, IsKept}
use Rattle.hk_chain.specs.Layout.{Shape, IsShape, pairs, final_of}
use Rattle.hk_fix.specs.declared.event.Event.TheVariants.{Done, Failed}
use Rattle.hk_fix.specs.Facts.{is_in}
use Rattle.hk_fix.specs.Fix.{IsSeeds, finished, faulted, seeded, seeds_of, status}
use Rattle.hk_fix.specs.Meaning.{Meaning}
use Rattle.hk_fix.specs.Pages.{Pages, lacking}
use Rattle.hk_fix.specs.Run.{IsRun}
use Rattle.hk_fix.specs.Task.{Run}
use Rattle.hk_fix.proofs.Orders.{begun-free}
use Rattle.hk_sched.specs.Standings.{out, held, over, standing_at, is_empty, first_standing, all_told}
use Rattle.hk_sched.specs.Board.{BoardView, place_at, with_place, opened, after_done, after_fail}
use Rattle.hk_sched.specs.Lawful.{Key, sown, IsKey, IsMachine, IsGoing, MayStand, IsLawful}
use Rattle.hk_sched.specs.Progress.{potential}
use Rattle.std.proofs.lemmas.List.{length-map}
use Rattle.hk_sched.proofs.Answering.{none-lacking}
use Rattle.hk_sched.proofs.Rosters.{out-below}
use Rattle.hk_sched.proofs.Keeps.{final-unknown, going-out}
use Rattle.hk_sched.proofs.Hands.{told-grows, awaits-none, known-within}
use Rattle.hk_sched.proofs.Fuels.{fuel_at, told-more, spent-done, spent-out}

first-member : (xs : List ℕ) → 0 < length xs → (p : ℕ) × (is_in xs p ≡ true)
first-member [] lt = absurd (omega arith)
first-member (x ∷ xs) lt = (x, rw (self x) refl)
  where
    self : (n : ℕ) → nat_eq n n ≡ true
    self n = eq-eqb n n refl

not-empty : (ps : List ℕ) → (ps ≡ [] → ⊥) → is_empty ps ≡ false
not-empty [] h = absurd (h refl)
not-empty (p ∷ ps) h = refl

module _ {X C : Type 0} (meaning : X → Meaning C) (shape : C → Shape) (run : C → ℕ → Pages → Run Page) (key : Key C) (is : IsKey run shape key) where
  module _ (b : BoardView X C) (l : IsLawful run meaning key b) where
    -- an ask that was answered makes the fuel less
    pub fuel-told : (m : Meaning C) → IsMachine run key m → 0 < length m.awaits → lacking (at_place b.known) m.awaits ≡ []
        → fuel_at (pairs (shape m.common)) (all_told (at_place b.known) m).told m.given < fuel_at (pairs (shape m.common)) m.told m.given
    fuel-told m lawful some none =
        let v = first-member m.awaits some in
        let n : pairs key.lay ≡ pairs (shape m.common) = ap pairs is.layout ∙ ap (λ (c : C). pairs (shape c)) (sym lawful.common) in
        let w = awaits-none shape run key is m lawful v.0 v.1 in
        told-more (pairs (shape m.common)) m.told (all_told (at_place b.known) m).told m.given v.0
        (told-grows shape run key is m lawful (at_place b.known) (known-within shape run key is meaning b l) m.awaits (λ p h. h) (none-lacking (at_place b.known) m.awaits none))
        (omega (arith, w.1, n)) w.0 (rw v.1 (none-lacking (at_place b.known) m.awaits none v.0 v.1))

    pub parks-spent : (x : X) → place_at b (meaning x).item ≡ out → (lacking (at_place b.known) (meaning x).awaits ≡ [] → ⊥) → potential meaning (with_place b (meaning x).item (held x)) < potential meaning b
    parks-spent x at lacks = spent-out meaning b (meaning x).item (held x) b.history at (out-below b.places (meaning x).item at) (not-empty (lacking (at_place b.known) (meaning x).awaits) lacks) refl

    module _ (i : ℕ) (lt : i < key.lay.items) (at : place_at b i ≡ out) where
      below : final_of b.lay i < length b.known
      below = rw l.layout (omega (arith, is.setting.shape.in_pairs i lt, l.pages))

      unknown : is_some (at_place b.known (final_of b.lay i)) ≡ false
      unknown = rw l.layout (ap is_some (ap (λ (k : Pages). k (final_of key.lay i)) l.known ∙ final-unknown meaning shape run key is b i l lt (going-out meaning shape run key is b i l lt at)))

      pub done-spent : (page : Page) (facts : FactsView) → potential meaning (after_done b i page facts) < potential meaning b
      done-spent page facts = spent-done meaning b i (final_of b.lay i) page (over (finished facts)) (b.history ++ Done i ∷ []) below unknown

      pub fail-spent : (f : Fault) → potential meaning (after_fail b i f) < potential meaning b
      fail-spent f = spent-out meaning b i (over (faulted f)) (b.history ++ Failed i ∷ []) at (out-below b.places i at) refl refl

    -- an item that is out may begin anew
    pub out-turn : (i : ℕ) → place_at b i ≡ out → (i < key.lay.items) × (seeded (sown key) i ≡ false)
    out-turn i at =
        let lt : i < key.lay.items = omega (arith, out-below b.places i at, l.items) in
        let going : IsGoing run (reverse b.history) i = going-out meaning shape run key is b i l lt at in
        (lt, (begun-free key.lay (run key.common) (sown key) is.setting.shape is.setting.laws is.setting.sown (reverse b.history) i l.history going.begun).1)

  -- a board as it opens
  pub lawful-open : IsKept key.lay key.kept → IsLawful run meaning key (opened key.common key.lay key.kept)
  unfolding status
  lawful-open kept =
      record {
        common = refl;
        layout = refl;
        pages = kept.page_count;
        items = length-map key.kept.facts (first_standing {X = X}) ∙ kept.facts_count;
        history = tt;
        known = refl;
        places = λ i lt. subst (MayStand run meaning key [] i) (sym (first-at key.kept.facts i (omega (arith, lt, kept.facts_count)))) (stands-at i (at_place key.kept.facts i) refl);
      }
    where
      first-at : (fs : List (Option FactsView)) (i : ℕ) → i < length fs → standing_at {X = X} (map first_standing fs) i ≡ first_standing (at_place fs i)
      first-at [] i lt = absurd (omega arith)
      first-at (f ∷ fs) (zero) lt = refl
      first-at (f ∷ fs) (suc i) lt = first-at fs i (omega arith)

      stands-at : (i : ℕ) (o : Option FactsView) → at_place key.kept.facts i ≡ o → MayStand run meaning key [] i (first_standing o)
      stands-at i None e = (ap is_some e, refl)
      stands-at i (Some f) e = (inl (ap is_some e), rw e refl)

pub key-is : {C : Type 0} (shape : C → Shape) (run : C → ℕ → Pages → Run Page) (c : C) (lay : Shape) (kept : KeptView) → lay ≡ shape c → IsShape (shape c) → IsRun (shape c) (run c) → IsSeeds lay (seeds_of kept) → IsKey run shape (record { common = c; lay = lay; kept = kept })
key-is shape run c lay kept e s r w = record { layout = e; setting = record { shape = rw e s; laws = rw e r; sown = w } }
