-- A lawful board's turns, and where nothing stands ready and nothing is out, its history is complete.
use Rattle.std.proofs.Common.{◌≡◌, refl, sym, ap, ◌∙◌, subst, ℕ, zero, suc, ◌<◌, true, false, cond, not, inl, inr, List, [], ◌∷◌, length, map, reverse, Option, Some, None, is_some, is_none, slice_get, slice_set, slice_index_or, arith, eq-eqb, get_or-set_same}
use Rattle.std.proofs.lemmas.List.{length-map}
use Rattle.std.proofs.Math.ListN.{get_or-map}
use Rattle.hk_chain.specs.declared.page.Page.{Page}
use Rattle.hk_chain.specs.Kept.{at_place}
use Rattle.hk_chain.specs.Layout.{Shape, item_of}
use Rattle.hk_fix.specs.declared.event.Event.{Event}
use Rattle.hk_fix.specs.declared.event.Event.TheVariants.{Begin, Saved, Done, Failed}
use Rattle.hk_fix.specs.Calls.{to_give}
use Rattle.hk_fix.specs.Facts.{is_in, whole_log}
use Rattle.hk_fix.specs.Fix.{seeded, fix, status, after, stands, ended, is_done, is_fault, MayFollow, CompleteNewest, finished, waiting, is_finished, ends_with, ending_of}
use Rattle.hk_fix.specs.Meaning.{Meaning, fresh}
use Rattle.hk_fix.specs.Pages.{Pages, Extends, lacking}
use Rattle.hk_fix.specs.Run.{Save, saves_of, snapshot}
use Rattle.hk_fix.specs.Task.{Mark, End, waits, Run}
use Rattle.hk_fix.proofs.Orders.{clash, none-of, begun-free, pages-are}
use Rattle.hk_fix.proofs.Steps.{in-contains}
use Rattle.hk_fix.proofs.Endings.{end-at, ends-report}
use Rattle.hk_fix.proofs.StillWaits.{waits-on}
use Rattle.hk_fix.proofs.Traces.{status-facts, status-pages}
use Rattle.hk_sched.specs.declared.turn.Turn.{Turn}
use Rattle.hk_sched.specs.declared.turn.Turn.TheVariants as turn
use Rattle.hk_sched.specs.Standings.{Standing, unbegun, again, out, held, over, nowhere, standing_at, is_out, is_empty, is_ready, ending_at, all_told, SomeTold}
use Rattle.hk_sched.specs.Board.{BoardView, place_at, with_place, after_begin, after_put_back, HandsOut, ToldOne, NoneReady, results_of, IsBacked}
use Rattle.hk_sched.specs.Lawful.{Key, sown, used_saves, IsKey, IsAsking, IsMachine, IsGoing, IsHeld, IsTurn, MayStand, IsLawful, IsRunOf, InHand}
use Rattle.hk_sched.specs.Turns.{FirstOut}
use Rattle.hk_sched.proofs.Answering.{none-lacking, filter-empty, filter-in}
use Rattle.hk_sched.proofs.Rosters.{is-out}
use Rattle.hk_sched.proofs.Taking.{lacks-filter}
use Rattle.hk_sched.proofs.Keeps.{lawful-begin, lawful-place, going-out, stands-of, now-is, ended-begun}
use Rattle.hk_sched.proofs.Saves.{get-length, find-save, first_pairs, first-in}
use Rattle.hk_sched.proofs.Hands.{run-is, gives-are, told-machine, told-known, known-within}
use Rattle.hk_sched.proofs.Polls.{fresh-hand, told-hand}

-- there is an element at each place of a list
pub get-is : {A : Type 0} (xs : List A) (i : ℕ) (d : A) → i < length xs → slice_get xs i ≡ Some (slice_index_or xs i d)
get-is [] i d lt = absurd (omega arith)
get-is (x ∷ xs) zero d lt = refl
get-is (x ∷ xs) (suc i) d lt = get-is xs i d (omega arith)

the-same : {A : Type 0} (x y : A) → Some x ≡ Some y → x ≡ y
the-same x y e = cc

-- the first of some pairs
first-of : (ps : List ℕ) → is_empty ps ≡ false → (p : ℕ) × (is_in ps p ≡ true)
first-of [] e = cc
first-of (p ∷ ps) e = (p, rw (eq-eqb p p refl) refl)

lacks-in : (k : Pages) (ps : List ℕ) (p : ℕ) → is_in (lacking k ps) p ≡ true → (is_in ps p ≡ true) × (k p ≡ None)
lacks-in k ps p h =
    let w = filter-in (λ q. is_none (k q)) ps p h in
    (w.0, none-test (k p) w.1)
  where
    none-test : (o : Option Page) → is_none o ≡ true → o ≡ None
    none-test None e = refl
    none-test (Some x) e = cc

empty-none : (ps : List ℕ) → is_empty ps ≡ false → ps ≡ [] → ⊥
empty-none [] e q = cc
empty-none (p ∷ ps) e q = cc

some-length : (ps : List ℕ) → is_empty ps ≡ false → 0 < length ps
some-length [] e = cc
some-length (p ∷ ps) e = omega arith

module _ {X C : Type 0} (meaning : X → Meaning C) (shape : C → Shape) (run : C → ℕ → Pages → Run Page) (key : Key C) (is : IsKey run shape key) where
  abbrev pub R : ℕ → Pages → Run Page
  R = run key.common

  abbrev pub K : List Event → Pages
  K h = after key.lay (run key.common) (sown key) h

  module _ (b : BoardView X C) (l : IsLawful run meaning key b) where
    stands-there : (i : ℕ) (s : Standing X) → i < key.lay.items → place_at b i ≡ s → MayStand run meaning key (reverse b.history) i s
    stands-there i s lt at = subst (MayStand run meaning key (reverse b.history) i) at (l.places i lt)

    free-of : (i : ℕ) → IsGoing run (reverse b.history) i → seeded (sown key) i ≡ false
    free-of i o = (begun-free key.lay R (sown key) is.setting.shape is.setting.laws is.setting.sown (reverse b.history) i l.history o.begun).1

    pub turn-first : (i : ℕ) → i < length b.places → place_at b i ≡ unbegun → IsLawful run meaning key (after_begin b i) × (seeded (sown key) i ≡ false)
    turn-first i below at =
        let lt : i < key.lay.items = omega (arith, below, l.items) in
        (lawful-begin meaning shape run key is b i l lt at, (stands-there i unbegun lt at).0)

    pub turn-again : (i : ℕ) → i < length b.places → place_at b i ≡ again → IsLawful run meaning key (with_place b i out) × (seeded (sown key) i ≡ false)
    turn-again i below at =
        let lt : i < key.lay.items = omega (arith, below, l.items) in
        let o : IsGoing run (reverse b.history) i = stands-there i again lt at in
        (lawful-place meaning shape run key is b i out l lt o, free-of i o)

    pub held-there : (i : ℕ) (x : X) → i < length b.places → place_at b i ≡ held x → IsGoing run (reverse b.history) i × IsHeld run meaning key (K (reverse b.history)) i (meaning x)
    held-there i x below at = (let lt : i < key.lay.items = omega (arith, below, l.items) in stands-there i (held x) lt at)

    pub turn-woken : (i : ℕ) (x : X) → i < length b.places → place_at b i ≡ held x → IsLawful run meaning key (with_place b i out)
    turn-woken i x below at =
        let lt : i < key.lay.items = omega (arith, below, l.items) in
        lawful-place meaning shape run key is b i out l lt (held-there i x below at).0

    -- some open pairs of a woken compiler were answered
    some-lawful : (i : ℕ) (x : X) (m : Meaning C) → i < length b.places → place_at b i ≡ held x → lacking (at_place b.known) (meaning x).awaits ≡ [] → SomeTold (at_place b.known) (meaning x) m → IsMachine run key m × (m.item ≡ i) × (m.has_ended ≡ false)
    some-lawful i x m below at none told =
        let w = held-there i x below at in
        rw told.2 (
          told-machine shape run key is (meaning x) w.1.machine (at_place b.known) (known-within shape run key is meaning b l) told.0 told.1 (λ p h. none-lacking (at_place b.known) (meaning x).awaits none p (told.1 p h)),
          w.1.item,
          w.1.going,
        )

    pub told-lawful : (n : BoardView X C) → ToldOne meaning b n → IsLawful run meaning key n
    told-lawful n t =
        let lt : t.0 < key.lay.items = omega (arith, t.3, l.items) in
        let w = held-there t.0 t.1 t.3 t.4 in
        let v = some-lawful t.0 t.1 (meaning t.2) t.3 t.4 t.5 t.6 in
        let none : lacking (at_place b.known) (meaning t.2).awaits ≡ [] = ap (λ (m : Meaning C). lacking (at_place b.known) m.awaits) t.6.2 ∙ lacks-filter (at_place b.known) (λ q. not (is_in t.6.0 q)) (meaning t.1).awaits t.5 in
        rw t.7
        (lawful-place meaning shape run key is b t.0 (held t.2) l lt (
          w.0,
          record {
            item = v.1;
            machine = v.0;
            going = v.2;
            backed = λ more. absurd (omega (arith, more, ap (λ (k : Pages). length (lacking k (meaning t.2).awaits)) (sym l.known), ap length none));
          },
        ))

    pub hands-lawful : (t : Turn X) (n : BoardView X C) → HandsOut meaning b t n → IsLawful run meaning key n × IsTurn run meaning key t
    hands-lawful (turn.Fresh i) n h =
        let lt : i < key.lay.items = omega (arith, h.0, l.items) in
        elim h.1 [
          | inl w ↦ (let v = turn-first i h.0 w.0 in (rw w.1 v.0, (lt, v.1)))
          | inr w ↦ (let v = turn-again i h.0 w.0 in (rw w.1 v.0, (lt, v.1)))
        ]
    hands-lawful (turn.Woken y) n h =
        let v = some-lawful h.0 h.1 (meaning y) h.2 h.3 h.4 ((meaning h.1).awaits, λ p e. e, h.5) in (
          rw h.6 (turn-woken h.0 h.1 h.2 h.3),
          record {
            machine = v.0;
            going = v.2;
            closed = ap (λ (m : Meaning C). m.awaits) h.5 ∙ filter-empty (λ q. not (is_in (meaning h.1).awaits q)) (meaning h.1).awaits (λ q e. ap not e);
          },
        )

    pub put-lawful : (t : Turn X) → IsTurn run meaning key t → IsLawful run meaning key (after_put_back meaning b t)
    put-lawful (turn.Fresh i) w =
        elim (is_out (place_at b i)) as (λ v. is_out (place_at b i) ≡ v → IsLawful run meaning key (cond v (with_place b i again) b)) [
          | true ↦ λ e. lawful-place meaning shape run key is b i again l w.0 (going-out meaning shape run key is b i l w.0 (is-out (place_at b i) e))
          | false ↦ λ e. l
        ] refl
    put-lawful (turn.Woken x) w =
        elim (is_out (place_at b (meaning x).item)) as (λ v. is_out (place_at b (meaning x).item) ≡ v → IsLawful run meaning key (cond v (with_place b (meaning x).item (held x)) b)) [
          | true ↦ λ e. lawful-place meaning shape run key is b (meaning x).item (held x) l w.machine.in_range (
            going-out meaning shape run key is b (meaning x).item l w.machine.in_range (is-out (place_at b (meaning x).item) e),
            record {
              item = refl;
              machine = w.machine;
              going = w.going;
              backed = λ more. absurd (omega (arith, more, ap (λ (ps : List ℕ). length (lacking (K (reverse b.history)) ps)) w.closed));
            },
          )
          | false ↦ λ e. l
        ] refl

    -- a woken compiler that used known pairs alone goes on
    pub woken-hand : (i : ℕ) (x : X) → i < length b.places → place_at b i ≡ held x → lacking (at_place b.known) (meaning x).awaits ≡ [] → IsBacked run (at_place b.known) (meaning x) (meaning x).given
        → (n : BoardView X C) → n ≡ with_place b i out → IsLawful run meaning key n → InHand run meaning key n (all_told (at_place b.known) (meaning x))
    woken-hand i x below at none u n e ln =
        let w = held-there i x below at in
        let known : n.known ≡ b.known = ap (λ (d : BoardView X C). d.known) e in
        let there : place_at n (meaning x).item ≡ out = rw (e, w.1.item) (get_or-set_same b.places i out nowhere below) in
        subst (λ (os : List (Option Page)). InHand run meaning key n (all_told (at_place os) (meaning x))) known
        (told-hand meaning shape run key is n ln (meaning x) there w.1.machine w.1.going (rw known none) (rw known u))

    pub first-hand : (i : ℕ) → i < length b.places → seeded (sown key) i ≡ false → (n : BoardView X C) → n.places ≡ slice_set b.places i out → InHand run meaning key n (fresh key.common i)
    first-hand i below free n e =
        fresh-hand meaning shape run key is n i (omega (arith, below, l.items)) free (ap (λ (ps : List (Standing X)). standing_at ps i) e ∙ get_or-set_same b.places i out nowhere below)

    module _ (ready : NoneReady meaning b) (outs : FirstOut b.places None) where
      -- an item whose compiler is parked
      module _ (i : ℕ) (lt : i < key.lay.items) (x : X) (o : IsGoing run (reverse b.history) i) (w : IsHeld run meaning key (K (reverse b.history)) i (meaning x)) (some : is_empty (lacking (at_place b.known) (meaning x).awaits) ≡ false) where
        lacks : lacking (at_place b.known) (meaning x).awaits ≡ lacking (K (reverse b.history)) (meaning x).awaits
        lacks = ap (λ (k : Pages). lacking k (meaning x).awaits) l.known

        one : (p : ℕ) × (is_in (meaning x).awaits p ≡ true) × (at_place b.known p ≡ None)
        one = (let v = first-of (lacking (at_place b.known) (meaning x).awaits) some in let u = lacks-in (at_place b.known) (meaning x).awaits v.0 v.1 in (v.0, u.0, u.1))

        asking : IsAsking run (meaning x)
        asking = w.machine.asks (long (meaning x).awaits one.0 one.1)
          where
            long : (ps : List ℕ) (p : ℕ) → is_in ps p ≡ true → 0 < length ps
            long [] p e = cc
            long (q ∷ ps) p e = omega arith

        backed : IsBacked run (at_place b.known) (meaning x) (used_saves (meaning x))
        backed =
            let more : 0 < length (lacking (K (reverse b.history)) (meaning x).awaits) = omega (arith, ap length lacks, some-length (lacking (at_place b.known) (meaning x).awaits) some) in
            subst (λ (k : Pages). IsBacked run k (meaning x) (used_saves (meaning x))) (sym l.known) (w.backed more)

        told : Extends (meaning x).told (at_place b.known)
        told = told-known shape run key is meaning b l (meaning x) (used_saves (meaning x)) w.machine backed

        end : (R (meaning x).item (meaning x).told).end ≡ waits (meaning x).awaits
        end = ap (λ (r : Run Page). r.end) (sym (run-is shape run key is (meaning x) w.machine.common)) ∙ asking.stops

        pub parked-end : (R i (at_place b.known)).end ≡ waits (lacking (at_place b.known) (meaning x).awaits)
        parked-end =
            subst (λ (j : ℕ). (R j (at_place b.known)).end ≡ waits (lacking (at_place b.known) (meaning x).awaits)) w.item
            (waits-on key.lay R is.setting.laws (meaning x).item (meaning x).told (at_place b.known) (meaning x).awaits one.0 w.machine.in_range end told (in-contains (meaning x).awaits one.0 one.1) one.2)

        log-same : (R (meaning x).item (at_place b.known)).log ≡ (R (meaning x).item (meaning x).told).log
        log-same = is.setting.laws.still (meaning x).item (meaning x).told (at_place b.known) (meaning x).awaits one.0 w.machine.in_range end told (in-contains (meaning x).awaits one.0 one.1) one.2

        pub parked-stand : (q : ℕ) → is_some (snapshot (R i (K (reverse b.history))) q) ≡ true → stands (Saved q) (reverse b.history) ≡ true
        parked-stand q has =
            let here : is_some (snapshot (R (meaning x).item (at_place b.known)) q) ≡ true = rw (l.known, w.item) has in
            let f = find-save (saves_of (R (meaning x).item (meaning x).told).log) q (ap (λ (g : List Mark). is_some (snapshot (record { log = g; end = waits [] }) q)) (sym log-same) ∙ here) in
            let low : f.0 < used_saves (meaning x) =
            (let z : ◌≡◌ {A = ℕ} (cond (meaning x).just_saved 1 0) 0 = rw asking.quiet refl in
            omega (arith, z, asking.gave, get-length (saves_of (R (meaning x).item (meaning x).told).log) f.0 f.1 f.2, ap length (gives-are shape run key is (meaning x) w.machine.common))) in
            let known : is_some (at_place b.known q) ≡ true =
            subst (λ (r : ℕ). is_some (at_place b.known r) ≡ true) f.3
            (backed.gave f.1.pair (in-contains (first_pairs (used_saves (meaning x)) (to_give run (meaning x))) f.1.pair
            (first-in (to_give run (meaning x)) (used_saves (meaning x)) f.0 f.1 low (ap (λ (xs : List Save). slice_get xs f.0) (gives-are shape run key is (meaning x) w.machine.common) ∙ f.2)))) in
            stands-of meaning shape run key is b i q l o has known

      begin-not : (i : ℕ) (s : Standing X) → place_at b i ≡ s → seeded (sown key) i ≡ false → MayStand run meaning key (reverse b.history) i s → stands (Begin i) (reverse b.history) ≡ false → ⊥
      begin-not i unbegun at free w none = clash (is_ready meaning (at_place b.known) (place_at b i)) (ready i) (ap (is_ready meaning (at_place b.known)) at)
      begin-not i again at free w none = clash (is_ready meaning (at_place b.known) (place_at b i)) (ready i) (ap (is_ready meaning (at_place b.known)) at)
      begin-not i out at free w none = clash (is_out (place_at b i)) (outs i) (ap is_out at)
      begin-not i (held x) at free w none = clash (stands (Begin i) (reverse b.history)) none w.0.begun
      begin-not i (over e) at free w none =
          elim w.0 [
            | inl s ↦ clash (seeded (sown key) i) free s
            | inr s ↦ clash (stands (Begin i) (reverse b.history)) none (ended-begun meaning shape run key is (reverse b.history) i l.history s)
          ]

      -- an item that goes on is parked
      pub is-parked : (i : ℕ) (s : Standing X) → place_at b i ≡ s → IsGoing run (reverse b.history) i → MayStand run meaning key (reverse b.history) i s
          → (x : X) × (s ≡ held x) × IsHeld run meaning key (K (reverse b.history)) i (meaning x) × (is_empty (lacking (at_place b.known) (meaning x).awaits) ≡ false)
      is-parked i unbegun at o w = clash (is_ready meaning (at_place b.known) (place_at b i)) (ready i) (ap (is_ready meaning (at_place b.known)) at)
      is-parked i again at o w = clash (is_ready meaning (at_place b.known) (place_at b i)) (ready i) (ap (is_ready meaning (at_place b.known)) at)
      is-parked i out at o w = clash (is_out (place_at b i)) (outs i) (ap is_out at)
      is-parked i (held x) at o w = (x, refl, w.1, sym (ap (is_ready meaning (at_place b.known)) at) ∙ ready i)
      is-parked i (over e) at o w =
          elim w.0 [
            | inl s ↦ clash (seeded (sown key) i) (free-of i o) s
            | inr s ↦ clash (ended i (reverse b.history)) o.going s
          ]

      follows-not : (e : Event) → stands e (reverse b.history) ≡ false → MayFollow key.lay R (sown key) (reverse b.history) e → ⊥
      follows-not (Begin i) none may = begin-not i (place_at b i) refl may.unseeded (l.places i may.in_range) none
      follows-not (Saved q) none may =
          let lt : item_of key.lay q < key.lay.items = is.setting.shape.in_items q may.in_range in
          let o : IsGoing run (reverse b.history) (item_of key.lay q) = record { begun = may.begun; going = may.going } in
          let w = is-parked (item_of key.lay q) (place_at b (item_of key.lay q)) refl o (l.places (item_of key.lay q) lt) in
          clash (stands (Saved q) (reverse b.history)) none (parked-stand (item_of key.lay q) lt w.0 o w.2 w.3 q may.saves)
      follows-not (Done i) none may =
          let o : IsGoing run (reverse b.history) i = record { begun = may.begun; going = may.going } in
          let w = is-parked i (place_at b i) refl o (l.places i may.in_range) in
          clash (is_done (R i (K (reverse b.history))).end) (ap is_done (ap (λ (r : Run Page). r.end) (sym (now-is meaning shape run key is b i l)) ∙ parked-end i may.in_range w.0 o w.2 w.3)) may.ends
      follows-not (Failed i) none may =
          let o : IsGoing run (reverse b.history) i = record { begun = may.begun; going = may.going } in
          let w = is-parked i (place_at b i) refl o (l.places i may.in_range) in
          clash (is_fault (R i (K (reverse b.history))).end) (ap is_fault (ap (λ (r : Run Page). r.end) (sym (now-is meaning shape run key is b i l)) ∙ parked-end i may.in_range w.0 o w.2 w.3)) may.ends

      pub is-complete : CompleteNewest key.lay R (sown key) (reverse b.history)
      is-complete = record { lawful = l.history; nothing_follows = follows-not }

      pub known-fix : at_place b.known ≡ fix key.lay R (sown key)
      known-fix = l.known ∙ pages-are key.lay R (sown key) is.setting.shape is.setting.laws is.setting.sown (reverse b.history) is-complete

      status-parked : (i : ℕ) (ps : List ℕ) → seeded (sown key) i ≡ false → (R i (at_place b.known)).end ≡ waits ps → status key.lay R (sown key) i ≡ waiting ps
      unfolding status
      status-parked i ps free e =
          ap (ending_of key.lay i (R i (fix key.lay R (sown key)))) (none-of ((sown key).facts i) free)
          ∙ ap (λ (r : Run Page). ends_with (whole_log key.lay i r) r.end) (sym (ap (R i) known-fix))
          ∙ ap (λ (v : End Page). ends_with (whole_log key.lay i (R i (at_place b.known))) v) e

      ending-is : (i : ℕ) (s : Standing X) → i < key.lay.items → place_at b i ≡ s → MayStand run meaning key (reverse b.history) i s → ending_at meaning (at_place b.known) s ≡ status key.lay R (sown key) i
      ending-is i unbegun lt at w = clash (is_ready meaning (at_place b.known) (place_at b i)) (ready i) (ap (is_ready meaning (at_place b.known)) at)
      ending-is i again lt at w = clash (is_ready meaning (at_place b.known) (place_at b i)) (ready i) (ap (is_ready meaning (at_place b.known)) at)
      ending-is i out lt at w = clash (is_out (place_at b i)) (outs i) (ap is_out at)
      ending-is i (held x) lt at w =
          let some : is_empty (lacking (at_place b.known) (meaning x).awaits) ≡ false = sym (ap (is_ready meaning (at_place b.known)) at) ∙ ready i in
          sym (status-parked i (lacking (at_place b.known) (meaning x).awaits) (free-of i w.0) (parked-end i lt x w.0 w.1 some))
      ending-is i (over e) lt at w = w.1

      ends-are : (i : ℕ) → i < key.lay.items → slice_get (results_of meaning b).outcomes i ≡ Some (status key.lay R (sown key) i)
      ends-are i lt =
          get-is (map (ending_at meaning (at_place b.known)) b.places) i (ending_at meaning (at_place b.known) nowhere) (omega (arith, lt, l.items, length-map b.places (ending_at meaning (at_place b.known))))
          ∙ ap Some (get_or-map (ending_at meaning (at_place b.known)) b.places i nowhere ∙ ending-is i (place_at b i) lt refl (l.places i lt))

      pub is-run_of : IsRunOf key.lay R (sown key) (results_of meaning b)
      is-run_of =
          let many : length (results_of meaning b).outcomes ≡ key.lay.items = length-map b.places (ending_at meaning (at_place b.known)) ∙ l.items in
          record {
            complete = is-complete;
            page_count = l.pages;
            pages = known-fix;
            outcome_count = many;
            outcomes = ends-are;
            reports = ends-report key.lay R (sown key) is.setting (results_of meaning b).outcomes many ends-are;
            pages_of_done = λ p below e.
                ap (λ (k : Pages). is_some (k p)) known-fix
                ∙ status-pages key.lay R (sown key) is.setting p below (ap is_finished (sym (end-at key.lay R (sown key) (results_of meaning b).outcomes ends-are (item_of key.lay p) (is.setting.shape.in_items p below))) ∙ e);
            facts_of_done = λ facts i f lt e.
                let same : Some (status key.lay R (sown key) i) ≡ Some (finished f) = sym (ends-are i lt) ∙ e in
                status-facts key.lay R (sown key) is.setting facts i f lt (the-same (status key.lay R (sown key) i) (finished f) same);
          }
