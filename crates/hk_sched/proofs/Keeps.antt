-- Each event keeps a board lawful.
use Rattle.std.proofs.Common.{◌≡◌, ◌≢◌, refl, sym, ap, ◌∙◌, subst, ℕ, ◌<◌, Bool, true, false, cond, not, ◌||◌, inl, inr, List, [], ◌∷◌, ◌++◌, length, reverse, Option, Some, None, is_some, is_none, slice_set, nat_eq, arith, eqb-true, eq-eqb, ne_eqb, length-set}
use Rattle.std.proofs.lemmas.List.{reverse-append}
use Rattle.hk_chain.specs.declared.page.Page.{Page}
use Rattle.hk_chain.specs.declared.fault.Fault.{Fault}
use Rattle.hk_chain.specs.Facts.{FactsView}
use Rattle.hk_chain.specs.Kept.{at_place}
use Rattle.hk_chain.specs.Layout.{Shape, pairs, item_of, final_of}
use Rattle.hk_fix.specs.declared.event.Event.{Event}
use Rattle.hk_fix.specs.declared.event.Event.TheVariants.{Begin, Saved, Done, Failed}
use Rattle.hk_fix.specs.Facts.{facts_of, whole_log}
use Rattle.hk_fix.specs.Fix.{seeded, fix, status, ends_with, finished, faulted, or_else, with_new, after, stands, ended, same_event, is_done, is_fault, MayFollow, LawfulNewest, ending_of}
use Rattle.hk_fix.specs.Meaning.{Meaning}
use Rattle.hk_fix.specs.Pages.{Pages, lacking}
use Rattle.hk_fix.specs.Run.{snapshot, finished_page, is_wait}
use Rattle.hk_fix.specs.Task.{End, done, fault, Run}
use Rattle.hk_fix.proofs.Orders.{clash, decide, or_right, the_some, none-of, still-some, begun-free, stood-known}
use Rattle.hk_fix.proofs.KnownBy.{snapshot-by_event, final-by_event}
use Rattle.hk_fix.proofs.Waits.{ends-early}
use Rattle.hk_sched.specs.Standings.{Standing, unbegun, again, out, held, over, standing_at}
use Rattle.hk_sched.specs.Board.{BoardView, place_at, with_place, after_begin, after_save, after_done, after_fail, IsBacked}
use Rattle.hk_sched.specs.Lawful.{Key, sown, used_saves, IsKey, IsGoing, IsHeld, MayStand, IsLawful, MaySave, MayEnd, MayFinish, MayFail}
use Rattle.hk_sched.proofs.Chains.{place-set}
use Rattle.hk_sched.proofs.Lacks.{lacks-fewer, none-is}
use Rattle.hk_sched.proofs.Rosters.{standing-set}

ne_flip : (m n : ℕ) → nat_eq m n ≡ false → nat_eq n m ≡ false
ne_flip m n e = ne_eqb n m (λ q. clash (nat_eq m n) e (eq-eqb m n (sym q)))

skip : (t a b : Bool) → t ≡ false → ((t || a) || b) ≡ true → (a || b) ≡ true
skip true a b n e = cc
skip false a b n e = e

skip-right : (t a b : Bool) → t ≡ false → (a || (t || b)) ≡ true → (a || b) ≡ true
skip-right true a b n e = cc
skip-right false a b n e = e

or_none : (v : Option Page) → or_else v None ≡ v
or_none None = refl
or_none (Some y) = refl

-- fewer pairs are lacking
pub lacks-less : (k m : Pages) (ps : List ℕ) → ((q : ℕ) → is_some (k q) ≡ true → is_some (m q) ≡ true) → 0 < length (lacking m ps) → 0 < length (lacking k ps)
lacks-less k m ps grow lt = go (lacking k ps) refl
  where
    less : (q : ℕ) → is_none (k q) ≡ false → is_none (m q) ≡ false
    less q e = none-is (m q) ∙ ap not (grow q (elim (k q) as (λ o. is_none o ≡ false → is_some o ≡ true) [ None ↦ λ h. sym h | Some x ↦ λ h. refl ] e))

    go : (l : List ℕ) → lacking k ps ≡ l → 0 < length l
    go [] e = (let no : lacking m ps ≡ [] = lacks-fewer k m ps less e in absurd (omega (arith, lt, ap length no)))
    go (q ∷ l) e = omega arith

pub backed-more : {C : Type 0} (run : C → ℕ → Pages → Run Page) (k l : Pages) (m : Meaning C) (n : ℕ) → ((q : ℕ) → is_some (k q) ≡ true → is_some (l q) ≡ true) → IsBacked run k m n → IsBacked run l m n
backed-more run k l m n grow u = record { told = λ p h. grow p (u.told p h); gave = λ p h. grow p (u.gave p h) }

module _ {X C : Type 0} (meaning : X → Meaning C) (shape : C → Shape) (run : C → ℕ → Pages → Run Page) (key : Key C) (is : IsKey run shape key) where
  abbrev pub R : ℕ → Pages → Run Page
  R = run key.common

  abbrev pub K : List Event → Pages
  K h = after key.lay (run key.common) (sown key) h

  abbrev pub Law : List Event → Type 0
  Law h = LawfulNewest key.lay (run key.common) (sown key) h

  pub snoc : (l : List Event) (e : Event) → reverse (l ++ e ∷ []) ≡ e ∷ reverse l
  snoc l e = reverse-append l (e ∷ [])

  going-stays : (e : Event) (h : List Event) (i : ℕ) → same_event (Done i) e ≡ false → same_event (Failed i) e ≡ false → IsGoing run h i → IsGoing run (e ∷ h) i
  going-stays e h i nd nf o =
      record {
        begun = or_right (same_event (Begin i) e) (stands (Begin i) h) o.begun;
        going = rw (nd, nf) o.going;
      }

  grows : (e : Event) (h : List Event) (q : ℕ) → is_some (K h q) ≡ true → is_some (K (e ∷ h) q) ≡ true
  grows e h q s = still-some key.lay R (sown key) is.setting.shape is.setting.laws is.setting.sown e h q s

  held-stays : (e : Event) (h : List Event) (i : ℕ) (m : Meaning C) → IsHeld run meaning key (K h) i m → IsHeld run meaning key (K (e ∷ h)) i m
  held-stays e h i m w =
      record {
        item = w.item;
        machine = w.machine;
        going = w.going;
        backed = λ lt. backed-more run (K h) (K (e ∷ h)) m (used_saves m) (grows e h) (w.backed (lacks-less (K h) (K (e ∷ h)) m.awaits (grows e h) lt));
      }

  -- an event that is no beginning and no end of an item leaves its place
  place-stays : (e : Event) (h : List Event) (i : ℕ) (s : Standing X) → same_event (Begin i) e ≡ false → same_event (Done i) e ≡ false → same_event (Failed i) e ≡ false → MayStand run meaning key h i s → MayStand run meaning key (e ∷ h) i s
  place-stays e h i unbegun nb nd nf w = (w.0, rw nb w.1)
  place-stays e h i again nb nd nf w = going-stays e h i nd nf w
  place-stays e h i out nb nd nf w = going-stays e h i nd nf w
  place-stays e h i (held x) nb nd nf w = (going-stays e h i nd nf w.0, held-stays e h i (meaning x) w.1)
  place-stays e h i (over f) nb nd nf w = (elim w.0 [ inl s ↦ inl s | inr s ↦ inr (rw (nd, nf) s) ], w.1)

  pub ended-begun : (h : List Event) (i : ℕ) → Law h → ended i h ≡ true → stands (Begin i) h ≡ true
  ended-begun [] i l e = cc
  ended-begun (Begin j ∷ h) i l e = or_right (nat_eq i j) (stands (Begin i) h) (ended-begun h i l.2 e)
  ended-begun (Saved q ∷ h) i l e = ended-begun h i l.2 e
  ended-begun (Done j ∷ h) i l e =
      elim (decide (nat_eq i j)) [
        | inl t ↦ subst (λ (n : ℕ). stands (Begin n) h ≡ true) (sym (eqb-true i j t)) l.1.begun
        | inr n ↦ ended-begun h i l.2 (skip (nat_eq i j) (stands (Done i) h) (stands (Failed i) h) n e)
      ]
  ended-begun (Failed j ∷ h) i l e =
      elim (decide (nat_eq i j)) [
        | inl t ↦ subst (λ (n : ℕ). stands (Begin n) h ≡ true) (sym (eqb-true i j t)) l.1.begun
        | inr n ↦ ended-begun h i l.2 (skip-right (nat_eq i j) (stands (Done i) h) (stands (Failed i) h) n e)
      ]

  -- a board whose history grew by an event
  grown : (b : BoardView X C) (known : List (Option Page)) (places : List (Standing X)) (e : Event) → IsLawful run meaning key b
      → MayFollow key.lay R (sown key) (reverse b.history) e → stands e (reverse b.history) ≡ false
      → length places ≡ length b.places → length known ≡ length b.known
      → at_place known ≡ K (e ∷ reverse b.history)
      → ((i : ℕ) → i < key.lay.items → MayStand run meaning key (e ∷ reverse b.history) i (standing_at places i))
      → IsLawful run meaning key (record b { known = known; places = places; history = b.history ++ e ∷ [] })
  grown b known places e l may new many all pages stand =
      record {
        common = l.common;
        layout = l.layout;
        pages = all ∙ l.pages;
        items = many ∙ l.items;
        history = rw (snoc b.history e) (new, may, l.history);
        known = rw (snoc b.history e) pages;
        places = λ i lt. rw (snoc b.history e) (stand i lt);
      }

  place-cases : (places : List (Standing X)) (i j : ℕ) (s : Standing X) (P : ℕ → Standing X → Type 0) → i < length places → P i s → (nat_eq j i ≡ false → P j (standing_at places j)) → P j (standing_at (slice_set places i s) j)
  place-cases places i j s P lt here there =
      elim (decide (nat_eq j i)) [
        | inl e ↦ rw (standing-set places i s j lt, e, eqb-true j i e) here
        | inr n ↦ rw (standing-set places i s j lt, n) (there n)
      ]

  page-set : (known : List (Option Page)) (p : ℕ) (x : Page) (o : Option Page) (k : Pages) → p < length known → o ≡ Some x → k p ≡ None → at_place known ≡ k → at_place (slice_set known p (Some x)) ≡ with_new k p o
  page-set known p x o k lt is-x none old = λ j q. here q j
    where
      here : (q : ℕ) → at_place (slice_set known p (Some x)) q ≡ with_new k p o q
      here q =
          elim (decide (nat_eq q p)) [
            | inl e ↦ rw (place-set known p (Some x) q lt, e) (sym (ap (λ (r : ℕ). or_else (k r) (cond (nat_eq p r) o None)) (eqb-true q p e) ∙ rw (none, eq-eqb p p refl) is-x))
            | inr n ↦ rw (place-set known p (Some x) q lt, n, ne_flip q p n) (ap (λ (m : Pages). m q) old ∙ sym (or_none (k q)))
          ]

  pub going-out : (b : BoardView X C) (i : ℕ) → IsLawful run meaning key b → i < key.lay.items → place_at b i ≡ out → IsGoing run (reverse b.history) i
  going-out b i l lt at = subst (MayStand run meaning key (reverse b.history) i) at (l.places i lt)

  pub lawful-begin : (b : BoardView X C) (i : ℕ) → IsLawful run meaning key b → i < key.lay.items → place_at b i ≡ unbegun → IsLawful run meaning key (after_begin b i)
  lawful-begin b i l lt at =
      let was : MayStand run meaning key (reverse b.history) i unbegun = subst (MayStand run meaning key (reverse b.history) i) at (l.places i lt) in
      grown b b.known (slice_set b.places i out) (Begin i) l (record { in_range = lt; unseeded = was.0 }) was.1
      (length-set b.places i out) refl l.known
      (λ j below. place-cases b.places i j out (λ n s. MayStand run meaning key (Begin i ∷ reverse b.history) n s) (omega (arith, lt, l.items))
      (record { begun = rw (eq-eqb i i refl) refl; going = not-ended was.1 })
      (λ n. place-stays (Begin i) (reverse b.history) j (place_at b j) n refl refl (l.places j below)))
    where
      not-ended : stands (Begin i) (reverse b.history) ≡ false → ended i (Begin i ∷ reverse b.history) ≡ false
      not-ended none =
          elim (decide (ended i (reverse b.history))) [
            | inl e ↦ clash (stands (Begin i) (reverse b.history)) none (ended-begun (reverse b.history) i l.history e)
            | inr e ↦ e
          ]

  -- a place changes, and no event comes
  pub lawful-place : (b : BoardView X C) (i : ℕ) (s : Standing X) → IsLawful run meaning key b → i < key.lay.items → MayStand run meaning key (reverse b.history) i s → IsLawful run meaning key (with_place b i s)
  lawful-place b i s l lt may =
      record {
        common = l.common;
        layout = l.layout;
        pages = l.pages;
        items = length-set b.places i s ∙ l.items;
        history = l.history;
        known = l.known;
        places = λ j below. place-cases b.places i j s (λ n t. MayStand run meaning key (reverse b.history) n t) (omega (arith, lt, l.items)) may (λ n. l.places j below);
      }

  -- under the known pages
  pub now-is : (b : BoardView X C) (i : ℕ) → IsLawful run meaning key b → R i (at_place b.known) ≡ R i (K (reverse b.history))
  now-is b i l = ap (R i) l.known

  known-is : (b : BoardView X C) (q : ℕ) → IsLawful run meaning key b → at_place b.known q ≡ K (reverse b.history) q
  known-is b q l = ap (λ (k : Pages). k q) l.known

  -- a known page on the way of an item that goes on stands in the history
  pub stands-of : (b : BoardView X C) (i q : ℕ) → IsLawful run meaning key b → IsGoing run (reverse b.history) i → is_some (snapshot (R i (K (reverse b.history))) q) ≡ true → is_some (at_place b.known q) ≡ true → stands (Saved q) (reverse b.history) ≡ true
  stands-of b i q l o s has =
      let free : (i < key.lay.items) × (seeded (sown key) i ≡ false) = begun-free key.lay R (sown key) is.setting.shape is.setting.laws is.setting.sown (reverse b.history) i l.history o.begun in
      let v : (x : Page) × (snapshot (R i (K (reverse b.history))) q ≡ Some x) = the_some (snapshot (R i (K (reverse b.history))) q) s in
      let own : (q < pairs key.lay) × (item_of key.lay q ≡ i) × (q ≢ final_of key.lay i) = is.setting.laws.own i (K (reverse b.history)) q v.0 free.0 v.1 in
      sym (snapshot-by_event key.lay R (sown key) is.setting.shape is.setting.laws is.setting.sown (reverse b.history) l.history q own.0 (rw own.1 free.1) (rw own.1 own.2))
      ∙ sym (ap is_some (known-is b q l)) ∙ has

  pub lawful-save : (b : BoardView X C) (p : ℕ) (page : Page) → IsLawful run meaning key b → MaySave run meaning key b p page → IsLawful run meaning key (after_save b p page)
  lawful-save b p page l may =
      elim (is_some (at_place b.known p)) as (λ v. is_some (at_place b.known p) ≡ v → IsLawful run meaning key (cond v b (record b { known = slice_set b.known p (Some page); history = b.history ++ Saved p ∷ [] }))) [
        | true ↦ λ t. l
        | false ↦ λ t. fresh-save (none-of (at_place b.known p) t)
      ] refl
    where
      h : List Event
      h = reverse b.history

      o : IsGoing run (reverse b.history) (item_of key.lay p)
      o = going-out b (item_of key.lay p) l (is.setting.shape.in_items p may.in_range) may.is_out

      saves : snapshot (R (item_of key.lay p) (K (reverse b.history))) p ≡ Some page
      saves = ap (λ (r : Run Page). snapshot r p) (sym (now-is b (item_of key.lay p) l)) ∙ may.saves

      earlier : (q : ℕ) → q < p → is_some (snapshot (R (item_of key.lay p) (K (reverse b.history))) q) ≡ true → stands (Saved q) (reverse b.history) ≡ true
      earlier q low has =
          stands-of b (item_of key.lay p) q l o has (may.earlier q low (ap (λ (r : Run Page). is_some (snapshot r q)) (now-is b (item_of key.lay p) l) ∙ has))

      fresh-save : at_place b.known p ≡ None → IsLawful run meaning key (record b { known = slice_set b.known p (Some page); history = b.history ++ Saved p ∷ [] })
      fresh-save none =
          let unknown : K (reverse b.history) p ≡ None = sym (known-is b p l) ∙ none in
          grown b (slice_set b.known p (Some page)) b.places (Saved p) l
          (record { in_range = may.in_range; begun = o.begun; going = o.going; saves = ap is_some saves; earlier = earlier })
          (elim (decide (stands (Saved p) (reverse b.history))) [
            | inl s ↦ clash (is_some (K (reverse b.history) p)) (ap is_some unknown) (stood-known key.lay R (sown key) is.setting.shape is.setting.laws is.setting.sown (reverse b.history) l.history p s)
            | inr n ↦ n
          ])
          refl (length-set b.known p (Some page))
          (page-set b.known p page (snapshot (R (item_of key.lay p) (K (reverse b.history))) p) (K (reverse b.history)) (omega (arith, may.in_range, l.pages)) saves unknown l.known)
          (λ j below. place-stays (Saved p) (reverse b.history) j (place_at b j) refl refl refl (l.places j below))

  -- an item that goes on has no finished page
  pub final-unknown : (b : BoardView X C) (i : ℕ) → IsLawful run meaning key b → i < key.lay.items → IsGoing run (reverse b.history) i → K (reverse b.history) (final_of key.lay i) ≡ None
  final-unknown b i l lt o =
      let free : (i < key.lay.items) × (seeded (sown key) i ≡ false) = begun-free key.lay R (sown key) is.setting.shape is.setting.laws is.setting.sown (reverse b.history) i l.history o.begun in
      let by : is_some (K (reverse b.history) (final_of key.lay i)) ≡ stands (Done i) (reverse b.history) = final-by_event key.lay R (sown key) is.setting.shape is.setting.laws is.setting.sown (reverse b.history) l.history i lt free.1 in
      elim (decide (stands (Done i) (reverse b.history))) [
        | inr n ↦ none-of (K (reverse b.history) (final_of key.lay i)) (by ∙ n)
        | inl s ↦ clash (ended i (reverse b.history)) o.going (rw s refl)
      ]

  all-stand : (b : BoardView X C) (i : ℕ) → IsLawful run meaning key b → MayEnd run meaning key b i → (q : ℕ) → is_some (snapshot (R i (K (reverse b.history))) q) ≡ true → stands (Saved q) (reverse b.history) ≡ true
  all-stand b i l may q has =
      stands-of b i q l (going-out b i l may.in_range may.is_out) has (may.saved q (ap (λ (r : Run Page). is_some (snapshot r q)) (now-is b i l) ∙ has))

  -- how the item ends is its status
  status-of : (b : BoardView X C) (i : ℕ) → IsLawful run meaning key b → IsGoing run (reverse b.history) i → i < key.lay.items → is_wait (R i (K (reverse b.history))).end ≡ false
      → status key.lay R (sown key) i ≡ ends_with (whole_log key.lay i (R i (K (reverse b.history)))) (R i (K (reverse b.history))).end
  unfolding status
  status-of b i l o lt still =
      let free : (i < key.lay.items) × (seeded (sown key) i ≡ false) = begun-free key.lay R (sown key) is.setting.shape is.setting.laws is.setting.sown (reverse b.history) i l.history o.begun in
      ap (ending_of key.lay i (R i (fix key.lay R (sown key)))) (none-of ((sown key).facts i) free.1)
      ∙ ap (λ (r : Run Page). ends_with (whole_log key.lay i r) r.end) (ends-early key.lay R (sown key) is.setting.shape is.setting.laws is.setting.sown (reverse b.history) i l.history lt still)

  pub lawful-done : (b : BoardView X C) (i : ℕ) (page : Page) (facts : FactsView) → IsLawful run meaning key b → MayFinish run meaning key b i page facts → IsLawful run meaning key (after_done b i page facts)
  lawful-done b i page facts l may =
      let o : IsGoing run (reverse b.history) i = going-out b i l may.0.in_range may.0.is_out in
      let end : (R i (K (reverse b.history))).end ≡ done page = ap (λ (r : Run Page). r.end) (sym (now-is b i l)) ∙ may.1 in
      let unknown : K (reverse b.history) (final_of key.lay i) ≡ None = final-unknown b i l may.0.in_range o in
      let below : final_of key.lay i < pairs key.lay = is.setting.shape.in_pairs i may.0.in_range in
      let stat = status-of b i l o may.0.in_range (ap is_wait end) ∙ ap (λ (e : End Page). ends_with (whole_log key.lay i (R i (K (reverse b.history)))) e) end in
      let used : facts ≡ facts_of (whole_log key.lay i (R i (K (reverse b.history)))) = may.2 ∙ ap (λ (r : Run Page). facts_of (whole_log key.lay i r)) (now-is b i l) in
      subst (λ (lay : Shape). IsLawful run meaning key (record b { known = slice_set b.known (final_of lay i) (Some page); places = slice_set b.places i (over (finished facts)); history = b.history ++ Done i ∷ [] })) (sym l.layout)
      (grown b (slice_set b.known (final_of key.lay i) (Some page)) (slice_set b.places i (over (finished facts))) (Done i) l
      (record { in_range = may.0.in_range; begun = o.begun; going = o.going; ends = ap is_done end; snapshots = all-stand b i l may.0 })
      (elim (decide (stands (Done i) (reverse b.history))) [
        | inl s ↦ clash (ended i (reverse b.history)) o.going (rw s refl)
        | inr n ↦ n
      ])
      (length-set b.places i (over (finished facts))) (length-set b.known (final_of key.lay i) (Some page))
      (page-set b.known (final_of key.lay i) page (finished_page (R i (K (reverse b.history))).end) (K (reverse b.history)) (omega (arith, below, l.pages)) (ap finished_page end) unknown l.known)
      (λ j lt-j. place-cases b.places i j (over (finished facts)) (λ n s. MayStand run meaning key (Done i ∷ reverse b.history) n s) (omega (arith, may.0.in_range, l.items))
      (inr (rw (eq-eqb i i refl) refl), ap finished used ∙ sym stat)
      (λ n. place-stays (Done i) (reverse b.history) j (place_at b j) refl n refl (l.places j lt-j))))

  pub lawful-fail : (b : BoardView X C) (i : ℕ) (f : Fault) → IsLawful run meaning key b → MayFail run meaning key b i f → IsLawful run meaning key (after_fail b i f)
  lawful-fail b i f l may =
      let o : IsGoing run (reverse b.history) i = going-out b i l may.0.in_range may.0.is_out in
      let end : (R i (K (reverse b.history))).end ≡ fault f = ap (λ (r : Run Page). r.end) (sym (now-is b i l)) ∙ may.1 in
      let stat = status-of b i l o may.0.in_range (ap is_wait end) ∙ ap (λ (e : End Page). ends_with (whole_log key.lay i (R i (K (reverse b.history)))) e) end in
      grown b b.known (slice_set b.places i (over (faulted f))) (Failed i) l
      (record { in_range = may.0.in_range; begun = o.begun; going = o.going; ends = ap is_fault end; snapshots = all-stand b i l may.0 })
      (elim (decide (stands (Failed i) (reverse b.history))) [
        | inl s ↦ clash (ended i (reverse b.history)) o.going (or_right (stands (Done i) (reverse b.history)) (stands (Failed i) (reverse b.history)) s)
        | inr n ↦ n
      ])
      (length-set b.places i (over (faulted f))) refl l.known
      (λ j lt-j. place-cases b.places i j (over (faulted f)) (λ n s. MayStand run meaning key (Failed i ∷ reverse b.history) n s) (omega (arith, may.0.in_range, l.items))
      (inr (or_right (stands (Done i) (Failed i ∷ reverse b.history)) (stands (Failed i) (Failed i ∷ reverse b.history)) (rw (eq-eqb i i refl) refl)), sym stat)
      (λ n. place-stays (Failed i) (reverse b.history) j (place_at b j) refl refl n (l.places j lt-j)))
