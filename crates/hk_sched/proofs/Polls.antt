-- What each answer of a poll does to a lawful board and the compiler in hand.
use Rattle.std.proofs.Common.{◌≡◌, ◌≢◌, refl, sym, ap, ◌∙◌, subst, ℕ, ◌+◌, ◌-◌, ◌<◌, ◌≤◌, true, false, cond, not, inl, inr, List, [], ◌∷◌, ◌++◌, length, Some, None, is_some, slice_get, slice_set, nat_eq, arith, eqb-true, eq-eqb, get_or-set_same, get_or-set_other}
use Rattle.hk_chain.specs.declared.page.Page.{Page}
use Rattle.hk_chain.specs.declared.fault.Fault.{Fault}
use Rattle.hk_chain.specs.Facts.{FactsView}
use Rattle.hk_chain.specs.Kept.{at_place}
use Rattle.hk_chain.specs.Layout.{Shape, pairs, item_of, final_of}
use Rattle.hk_fix.specs.declared.event.Event.TheVariants.{Saved}
use Rattle.hk_fix.specs.Calls.{run_of, to_give}
use Rattle.hk_fix.specs.Facts.{is_in, facts_of, whole_log}
use Rattle.hk_fix.specs.Fix.{seeded}
use Rattle.hk_fix.specs.Meaning.{Meaning, fresh}
use Rattle.hk_fix.specs.Pages.{Pages, Extends, lacking}
use Rattle.hk_fix.specs.Run.{Save, saves_of, snapshot, is_wait}
use Rattle.hk_fix.specs.Task.{End, done, fault, waits, Run}
use Rattle.hk_fix.proofs.Orders.{clash, decide, saves-grow, settled}
use Rattle.hk_fix.proofs.Steps.{contains-in, in-contains}
use Rattle.hk_sched.specs.Standings.{Standing, out, held, standing_at, all_told}
use Rattle.hk_sched.specs.Board.{BoardView, place_at, with_place, after_save, IsBacked}
use Rattle.hk_sched.specs.Lawful.{Key, sown, used_saves, IsKey, IsAsking, IsMachine, IsLawful, MaySave, MayEnd, MayFinish, MayFail, MayAsk, InHand}
use Rattle.hk_sched.proofs.Answering.{filter-empty, none-lacking}
use Rattle.hk_sched.proofs.Keeps.{lawful-place, going-out}
use Rattle.hk_sched.proofs.Saves.{get-length, get-there, get-append, page-at, find-before, find-save, first_pairs, first-in, first-more}
use Rattle.hk_sched.proofs.Hands.{run-is, gives-are, gives-more, told-machine, told-backed, known-within, told-known}

-- a save makes more known
pub save-grows : {X C : Type 0} (b : BoardView X C) (p : ℕ) (page : Page) (q : ℕ) → is_some (at_place b.known q) ≡ true → is_some (at_place (after_save b p page).known q) ≡ true
save-grows b p page q s =
    elim (is_some (at_place b.known p)) as (λ v. is_some (at_place b.known p) ≡ v → is_some (at_place (cond v b (record b { known = slice_set b.known p (Some page); history = b.history ++ Saved p ∷ [] })).known q) ≡ true) [
      | true ↦ λ t. s
      | false ↦ λ t. fresh t
    ] refl
  where
    fresh : is_some (at_place b.known p) ≡ false → is_some (at_place (slice_set b.known p (Some page)) q) ≡ true
    fresh t =
        elim (decide (nat_eq q p)) [
          | inl e ↦ clash (is_some (at_place b.known p)) t (ap (λ j. is_some (at_place b.known j)) (sym (eqb-true q p e)) ∙ s)
          | inr n ↦ ap is_some (get_or-set_other b.known p q (Some page) None (λ e. clash (nat_eq q p) n (eq-eqb q p e))) ∙ s
        ]

pub save-has : {X C : Type 0} (b : BoardView X C) (p : ℕ) (page : Page) → p < length b.known → is_some (at_place (after_save b p page).known p) ≡ true
save-has b p page lt =
    elim (is_some (at_place b.known p)) as (λ v. is_some (at_place b.known p) ≡ v → is_some (at_place (cond v b (record b { known = slice_set b.known p (Some page); history = b.history ++ Saved p ∷ [] })).known p) ≡ true) [
      | true ↦ λ t. t
      | false ↦ λ t. ap is_some (get_or-set_same b.known p (Some page) None lt)
    ] refl

pub save-places : {X C : Type 0} (b : BoardView X C) (p : ℕ) (page : Page) → (after_save b p page).places ≡ b.places
save-places b p page =
    elim (is_some (at_place b.known p)) as (λ v. (cond v b (record b { known = slice_set b.known p (Some page); history = b.history ++ Saved p ∷ [] })).places ≡ b.places) [ true ↦ refl | false ↦ refl ]

module _ {X C : Type 0} (meaning : X → Meaning C) (shape : C → Shape) (run : C → ℕ → Pages → Run Page) (key : Key C) (is : IsKey run shape key) where
  abbrev pub R : ℕ → Pages → Run Page
  R = run key.common

  module _ (b : BoardView X C) (l : IsLawful run meaning key b) (m : Meaning C) (hand : InHand run meaning key b m) where
    ext : Extends m.told (at_place b.known)
    ext = told-known shape run key is meaning b l m m.given hand.machine hand.backed

    -- a page that it gave is known
    gave-known : (j : ℕ) (t : Save) → j < m.given → slice_get (saves_of (R m.item m.told).log) j ≡ Some t → is_some (at_place b.known t.pair) ≡ true
    gave-known j t lt e =
        hand.backed.gave t.pair (in-contains (first_pairs m.given (to_give run m)) t.pair (first-in (to_give run m) m.given j t lt (ap (λ (xs : List Save). slice_get xs j) (gives-are shape run key is m hand.machine.common) ∙ e)))

    pub hand-save : (p : ℕ) (page : Page) → slice_get (to_give run m) m.given ≡ Some (record { pair = p; page = page })
        → MaySave run meaning key b p page × InHand run meaning key (after_save b p page) (record m { given = m.given + 1; just_saved = true })
    hand-save p page g = (
      record {
        in_range = own.0;
        is_out = rw own.1 hand.is_out;
        saves = rw own.1 now;
        earlier = λ q low has. before q low (subst (λ (i : ℕ). is_some (snapshot (R i (at_place b.known)) q) ≡ true) own.1 has);
      },
      record {
        is_out = ap (λ (ps : List (Standing X)). standing_at ps m.item) (save-places b p page) ∙ hand.is_out;
        machine = record {
          common = hand.machine.common;
          in_range = hand.machine.in_range;
          unseeded = hand.machine.unseeded;
          told = hand.machine.told;
          few = omega (arith, get-length (to_give run m) m.given (record { pair = p; page = page }) g);
          asks = λ lt. absurd (omega (arith, lt, ap length hand.closed));
        };
        closed = hand.closed;
        going = hand.going;
        backed = record {
          told = λ q h. save-grows b p page q (hand.backed.told q h);
          gave = λ q h. elim (first-more (to_give run m) m.given (record { pair = p; page = page }) q g (contains-in (first_pairs (m.given + 1) (to_give run m)) q h)) [
            | inl w ↦ save-grows b p page q (hand.backed.gave q (in-contains (first_pairs m.given (to_give run m)) q w))
            | inr w ↦ subst (λ (r : ℕ). is_some (at_place (after_save b p page).known r) ≡ true) w (save-has b p page (omega (arith, own.0, l.pages)))
          ];
        };
      },
    )
      where
        g2 : slice_get (saves_of (R m.item m.told).log) m.given ≡ Some (record { pair = p; page = page })
        g2 = ap (λ (xs : List Save). slice_get xs m.given) (sym (gives-are shape run key is m hand.machine.common)) ∙ g

        then : snapshot (R m.item m.told) p ≡ Some page
        then = page-at (saves_of (R m.item m.told).log) m.given (record { pair = p; page = page }) (is.setting.laws.rising m.item m.told hand.machine.in_range) g2

        own : (p < pairs key.lay) × (item_of key.lay p ≡ m.item) × (p ≢ final_of key.lay m.item)
        own = is.setting.laws.own m.item m.told p page hand.machine.in_range then

        now : snapshot (R m.item (at_place b.known)) p ≡ Some page
        now = saves-grow key.lay R (sown key) is.setting.shape is.setting.laws is.setting.sown m.item m.told (at_place b.known) p page hand.machine.in_range ext then

        more : (rest : List Save) × (saves_of (R m.item (at_place b.known)).log ≡ saves_of (R m.item m.told).log ++ rest)
        more = gives-more shape run key is m.item m.told (at_place b.known) hand.machine.in_range ext

        before : (q : ℕ) → q < p → is_some (snapshot (R m.item (at_place b.known)) q) ≡ true → is_some (at_place b.known q) ≡ true
        before q low has =
            let g3 : slice_get (saves_of (R m.item (at_place b.known)).log) m.given ≡ Some (record { pair = p; page = page }) = rw more.1 (get-append (saves_of (R m.item m.told).log) more.0 m.given (record { pair = p; page = page }) g2) in
            let w = find-before (saves_of (R m.item (at_place b.known)).log) m.given (record { pair = p; page = page }) q (is.setting.laws.rising m.item (at_place b.known) hand.machine.in_range) g3 low has in
            let v = get-there (saves_of (R m.item m.told).log) w.0 (omega (arith, w.2, get-length (saves_of (R m.item m.told).log) m.given (record { pair = p; page = page }) g2)) in
            let both : Some v.0 ≡ Some w.1 = sym (get-append (saves_of (R m.item m.told).log) more.0 w.0 v.0 v.1) ∙ ap (λ (xs : List Save). slice_get xs w.0) (sym more.1) ∙ w.3 in
            let same : v.0 ≡ w.1 = cc both in
            subst (λ (r : ℕ). is_some (at_place b.known r) ≡ true) (ap (λ (t : Save). t.pair) same ∙ w.4) (gave-known w.0 v.0 w.2 v.1)

    pub hand-ask : (awaits : List ℕ) → length (to_give run m) ≤ m.given → (run_of run m).end ≡ waits awaits → MayAsk run meaning key b (record m { awaits = awaits; just_saved = false })
    hand-ask awaits given e =
        record {
          is_out = hand.is_out;
          machine = record {
            common = hand.machine.common;
            in_range = hand.machine.in_range;
            unseeded = hand.machine.unseeded;
            told = hand.machine.told;
            few = hand.machine.few;
            asks = λ lt. record { going = hand.going; quiet = refl; gave = given; stops = e };
          };
          some = is.setting.laws.some m.item m.told awaits hand.machine.in_range (ap (λ (r : Run Page). r.end) (sym (run-is shape run key is m hand.machine.common)) ∙ e);
          backed =
              let n : m.given ≡ m.given - 0 = omega arith in
              subst (λ (j : ℕ). IsBacked run (at_place b.known) (record m { awaits = awaits; just_saved = false }) j) n (record { told = hand.backed.told; gave = hand.backed.gave });
        }

    -- under the known pages, a run that doesn't wait is what it was
    end-same : is_wait (R m.item m.told).end ≡ false → R m.item (at_place b.known) ≡ R m.item m.told
    end-same still = settled key.lay R (sown key) is.setting.shape is.setting.laws is.setting.sown m.item m.told (at_place b.known) hand.machine.in_range ext still

    may-end : length (to_give run m) ≤ m.given → is_wait (R m.item m.told).end ≡ false → MayEnd run meaning key b m.item
    may-end given still =
        record {
          in_range = hand.machine.in_range;
          is_out = hand.is_out;
          saved = λ q has.
              let w = find-save (saves_of (R m.item m.told).log) q (ap (λ (r : Run Page). is_some (snapshot r q)) (sym (end-same still)) ∙ has) in
              subst (λ (r : ℕ). is_some (at_place b.known r) ≡ true) w.3 (gave-known w.0 w.1 (omega (arith, given, get-length (saves_of (R m.item m.told).log) w.0 w.1 w.2, ap length (gives-are shape run key is m hand.machine.common))) w.2);
        }

    end-of : (e : End Page) → (run_of run m).end ≡ e → (R m.item m.told).end ≡ e
    end-of e q = ap (λ (r : Run Page). r.end) (sym (run-is shape run key is m hand.machine.common)) ∙ q

    pub hand-done : (page : Page) (facts : FactsView) → length (to_give run m) ≤ m.given → (run_of run m).end ≡ done page → facts ≡ facts_of (whole_log (shape m.common) m.item (run_of run m)) → MayFinish run meaning key b m.item page facts
    hand-done page facts given e f =
        let end : (R m.item m.told).end ≡ done page = end-of (done page) e in
        let same : R m.item (at_place b.known) ≡ R m.item m.told = end-same (ap is_wait end) in (
          may-end given (ap is_wait end),
          ap (λ (r : Run Page). r.end) same ∙ end,
          f ∙ ap (λ (r : Run Page). facts_of (whole_log (shape m.common) m.item r)) (run-is shape run key is m hand.machine.common ∙ sym same) ∙ ap (λ (lay : Shape). facts_of (whole_log lay m.item (R m.item (at_place b.known)))) (ap shape hand.machine.common ∙ sym is.layout),
        )

    pub hand-fail : (f : Fault) → length (to_give run m) ≤ m.given → (run_of run m).end ≡ fault f → MayFail run meaning key b m.item f
    hand-fail f given e =
        let end : (R m.item m.told).end ≡ fault f = end-of (fault f) e in
        (may-end given (ap is_wait end), ap (λ (r : Run Page). r.end) (end-same (ap is_wait end)) ∙ end)

  -- asks

  -- a compiler whose open pairs are all known was answered
  pub told-hand : (b : BoardView X C) → IsLawful run meaning key b → (m : Meaning C) → place_at b m.item ≡ out → IsMachine run key m → m.has_ended ≡ false → lacking (at_place b.known) m.awaits ≡ [] → IsBacked run (at_place b.known) m m.given
      → InHand run meaning key b (all_told (at_place b.known) m)
  told-hand b l m at lawful going none u =
      record {
        is_out = at;
        machine = told-machine shape run key is m lawful (at_place b.known) (known-within shape run key is meaning b l) m.awaits (λ p h. h) (none-lacking (at_place b.known) m.awaits none);
        closed = filter-empty (λ q. not (is_in m.awaits q)) m.awaits (λ q h. ap not h);
        going = going;
        backed = told-backed shape run key is m lawful (at_place b.known) (known-within shape run key is meaning b l) m.awaits (λ p h. h) (none-lacking (at_place b.known) m.awaits none) (at_place b.known) m.given (omega arith) (none-lacking (at_place b.known) m.awaits none) u;
      }

  -- it has used all that it gave
  pub asked-used : (m : Meaning C) → IsAsking run m → used_saves m ≡ m.given
  asked-used m asking = rw asking.quiet (let z : m.given - 0 ≡ m.given = omega arith in z)

  pub ask-value : (b : BoardView X C) → IsLawful run meaning key b → (m : Meaning C) → MayAsk run meaning key b m → lacking (at_place b.known) m.awaits ≡ [] → InHand run meaning key b (all_told (at_place b.known) m)
  ask-value b l m may none =
      let asking : IsAsking run m = may.machine.asks may.some in
      told-hand b l m may.is_out may.machine asking.going none (subst (IsBacked run (at_place b.known) m) (asked-used m asking) may.backed)

  pub ask-parks : (b : BoardView X C) → IsLawful run meaning key b → (x : X) → MayAsk run meaning key b (meaning x) → IsLawful run meaning key (with_place b (meaning x).item (held x))
  ask-parks b l x may =
      lawful-place meaning shape run key is b (meaning x).item (held x) l may.machine.in_range (
        going-out meaning shape run key is b (meaning x).item l may.machine.in_range may.is_out,
        record {
          item = refl;
          machine = may.machine;
          going = (may.machine.asks may.some).going;
          backed = λ lt. subst (λ (k : Pages). IsBacked run k (meaning x) (used_saves (meaning x))) l.known may.backed;
        },
      )

  -- turns

  pub fresh-hand : (b : BoardView X C) (i : ℕ) → i < key.lay.items → seeded (sown key) i ≡ false → place_at b i ≡ out → InHand run meaning key b (fresh key.common i)
  fresh-hand b i lt free at =
      record {
        is_out = at;
        machine = record {
          common = refl;
          in_range = lt;
          unseeded = free;
          told = λ q x e. cc;
          few = omega arith;
          asks = λ h. absurd (omega arith);
        };
        closed = refl;
        going = refl;
        backed = record {
          told = λ q h. (let no : false ≡ true = h in cc);
          gave = λ q h. (let no : false ≡ true = contains-in (first_pairs 0 (to_give run (fresh key.common i))) q h in cc);
        };
      }
