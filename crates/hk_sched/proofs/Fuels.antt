-- Polls and turns come to an end.
use Rattle.std.proofs.Common.{◌≡◌, refl, sym, ap, ◌∙◌, ℕ, suc, ◌+◌, ◌-◌, ◌*◌, ◌<◌, ◌≤◌, true, false, cond, inl, inr, List, [], ◌∷◌, ◌++◌, length, Option, Some, None, is_some, slice_get, slice_set, slice_index_or, nat_eq, nat_lt, arith, eq-eqb, ltb-true, ltb-false, length-set, suc-mul, mul-le-mul_right}
use Rattle.std.specs.List.{sum_by}
use Rattle.std.proofs.lemmas.List.Sums.{sum_by-set, sum_by-le}
use Rattle.hk_chain.specs.declared.page.Page.{Page}
use Rattle.hk_chain.specs.Kept.{at_place}
use Rattle.hk_chain.specs.Layout.{Shape, pairs}
use Rattle.hk_fix.specs.declared.event.Event.{Event}
use Rattle.hk_fix.specs.declared.event.Event.TheVariants.{Saved}
use Rattle.hk_fix.specs.Calls.{to_give}
use Rattle.hk_fix.specs.Meaning.{Meaning}
use Rattle.hk_fix.specs.Pages.{Pages, Extends}
use Rattle.hk_fix.specs.Run.{Save, saves_of, page_in, Rising, snapshot}
use Rattle.hk_fix.specs.Task.{Run}
use Rattle.hk_fix.proofs.Orders.{clash, decide, count, count-le, count-same, the_some}
use Rattle.hk_sched.specs.declared.turn.Turn.{Turn}
use Rattle.hk_sched.specs.declared.turn.Turn.TheVariants as turn
use Rattle.hk_sched.specs.Standings.{Standing, out, nowhere, is_empty, is_out, is_ready}
use Rattle.hk_sched.specs.Board.{BoardView, place_at, after_begin, after_save, HandsOut, to_save}
use Rattle.hk_sched.specs.Progress.{turns_at, turns_left, potential}
use Rattle.hk_sched.specs.Lawful.{Key, IsKey, IsMachine}
use Rattle.hk_sched.proofs.Saves.{above-page, get-length}
use Rattle.hk_sched.proofs.Hands.{gives-are}

rising-length : (xs : List Save) (low n : ℕ) → Rising xs → ((p : ℕ) → is_some (page_in xs p) ≡ true → (low ≤ p) × (p < n)) → length xs ≤ n - low
rising-length [] low n r h = omega arith
rising-length (x ∷ xs) low n r h =
    let here : (low ≤ x.pair) × (x.pair < n) = h x.pair (rw (eq-eqb x.pair x.pair refl) refl) in
    let rest : length xs ≤ n - suc x.pair = rising-length xs (suc x.pair) n r.1 (λ p s. (above-page xs x.pair p r.0 s, (h p (either p s)).1)) in
    omega (arith, here.0, here.1)
  where
    either : (p : ℕ) → is_some (page_in xs p) ≡ true → is_some (page_in (x ∷ xs) p) ≡ true
    either p s = elim (nat_eq x.pair p) as (λ b. is_some (cond b (Some x.page) (page_in xs p)) ≡ true) [ true ↦ refl | false ↦ s ]

abbrev pub fuel_at : ℕ → Pages → ℕ → ℕ
fuel_at n told given = (n - count told n) * (n + 1) + (n - given)

product : (a b n r : ℕ) → a < b → a * (n + 1) + r < b * (n + 1) + r
product a b n r h = omega (arith, suc-mul a (n + 1), mul-le-mul_right {m = suc a} {n = b} (n + 1) h)

count-more : (k m : Pages) (n p : ℕ) → Extends k m → p < n → k p ≡ None → is_some (m p) ≡ true → count k n < count m n
count-more k m n p ext lt none has =
    elim (decide (nat_lt (count k n) (count m n))) [
      | inl t ↦ ltb-true (count k n) (count m n) t
      | inr t ↦
          let same : m p ≡ k p = count-same k m n ext (ltb-false (count k n) (count m n) t) p lt in
          clash (is_some (m p)) (ap is_some (same ∙ none)) has
    ]

pub told-more : (n : ℕ) (k m : Pages) (given p : ℕ) → Extends k m → p < n → k p ≡ None → is_some (m p) ≡ true → fuel_at n m given < fuel_at n k given
told-more n k m given p ext lt none has = product (n - count m n) (n - count k n) n (n - given) (omega (arith, count-more k m n p ext lt none has, count-le m n))

module _ {C : Type 0} (shape : C → Shape) (run : C → ℕ → Pages → Run Page) (key : Key C) (is : IsKey run shape key) where
  pub fuel-save : (m : Meaning C) (s : Save) → IsMachine run key m → slice_get (to_give run m) m.given ≡ Some s → fuel_at (pairs (shape m.common)) m.told (m.given + 1) < fuel_at (pairs (shape m.common)) m.told m.given
  fuel-save m s lawful g =
      let n : pairs key.lay ≡ pairs (shape m.common) = ap pairs is.layout ∙ ap (λ (c : C). pairs (shape c)) (sym lawful.common) in
      let less : m.given < length (to_give run m) = get-length (to_give run m) m.given s g in
      let all : length (saves_of (run key.common m.item m.told).log) ≤ pairs key.lay - 0 =
      rising-length (saves_of (run key.common m.item m.told).log) 0 (pairs key.lay) (is.setting.laws.rising m.item m.told lawful.in_range) (λ p s. (omega arith, below p s)) in
      omega (arith, less, n, all, ap length (gives-are shape run key is m lawful.common))
    where
      below : (p : ℕ) → is_some (page_in (saves_of (run key.common m.item m.told).log) p) ≡ true → p < pairs key.lay
      below p s = (let v = the_some (snapshot (run key.common m.item m.told) p) s in (is.setting.laws.own m.item m.told p v.0 lawful.in_range v.1).0)

drop-one : (a b n r q : ℕ) → a < b → r ≤ 2 * n → a * (2 * n + 1) + r < b * (2 * n + 1) + q
drop-one a b n r q h e = omega (arith, suc-mul a (2 * n + 1), mul-le-mul_right {m = suc a} {n = b} (2 * n + 1) h)

module _ {X C : Type 0} (meaning : X → Meaning C) where
  two-turns : (k : Pages) (s : Standing X) → turns_at meaning k s ≤ 2
  two-turns k s =
      elim (is_ready meaning k s) as (λ a. cond a 2 (cond (is_out s) 1 0) ≤ 2) [
        | true ↦ omega arith
        | false ↦ elim (is_out s) as (λ a. cond a 1 0 ≤ 2) [ true ↦ omega arith | false ↦ omega arith ]
      ]

  few-turns : (b : BoardView X C) → turns_left meaning b ≤ 2 * length b.places
  few-turns b = omega (arith, sum_by-le (turns_at meaning (at_place b.known)) 2 b.places (λ k d lt. two-turns (at_place b.known) (slice_index_or b.places k d)))

  known-less : (known : List (Option Page)) (p : ℕ) (x : Page) → p < length known → is_some (at_place known p) ≡ false → sum_by to_save (slice_set known p (Some x)) < sum_by to_save known
  known-less known p x lt none =
      let one : ◌≡◌ {A = ℕ} (to_save (at_place known p)) 1 = rw none refl in
      omega (arith, sum_by-set to_save known p (Some x) None lt, one)

  spent-known : (b : BoardView X C) (p : ℕ) (x : Page) (places : List (Standing X)) (history : List Event) → p < length b.known → is_some (at_place b.known p) ≡ false → length places ≡ length b.places
      → potential meaning (record b { known = slice_set b.known p (Some x); places = places; history = history }) < potential meaning b
  spent-known b p x places history lt none many =
      let few : turns_left meaning (record b { known = slice_set b.known p (Some x); places = places; history = history }) ≤ 2 * length b.places = omega (arith, few-turns (record b { known = slice_set b.known p (Some x); places = places; history = history }), many) in
      rw many
      (drop-one (sum_by to_save (slice_set b.known p (Some x))) (sum_by to_save b.known) (length b.places) (turns_left meaning (record b { known = slice_set b.known p (Some x); places = places; history = history })) (turns_left meaning b)
      (known-less b.known p x lt none) few)

  pub spent-save : (b : BoardView X C) (p : ℕ) (x : Page) → p < length b.known → potential meaning (after_save b p x) ≤ potential meaning b
  spent-save b p x lt =
      elim (is_some (at_place b.known p)) as (λ v. is_some (at_place b.known p) ≡ v → potential meaning (cond v b (record b { known = slice_set b.known p (Some x); history = b.history ++ Saved p ∷ [] })) ≤ potential meaning b) [
        | true ↦ λ t. omega arith
        | false ↦ λ t. omega (arith, spent-known b p x b.places (b.history ++ Saved p ∷ []) lt t refl)
      ] refl

  pub spent-done : (b : BoardView X C) (i p : ℕ) (x : Page) (s : Standing X) (history : List Event) → p < length b.known → is_some (at_place b.known p) ≡ false
      → potential meaning (record b { known = slice_set b.known p (Some x); places = slice_set b.places i s; history = history }) < potential meaning b
  spent-done b i p x s history lt none = spent-known b p x (slice_set b.places i s) history lt none (length-set b.places i s)

  turns-set : (b : BoardView X C) (i : ℕ) (s : Standing X) (history : List Event) → i < length b.places
      → turns_left meaning (record b { places = slice_set b.places i s; history = history }) + turns_at meaning (at_place b.known) (place_at b i) ≡ turns_left meaning b + turns_at meaning (at_place b.known) s
  turns-set b i s history lt = omega (arith, sum_by-set (turns_at meaning (at_place b.known)) b.places i s nowhere lt)

  -- where an item has fewer turns
  pub spent-place : (b : BoardView X C) (i : ℕ) (s : Standing X) (history : List Event) → i < length b.places → turns_at meaning (at_place b.known) s < turns_at meaning (at_place b.known) (place_at b i)
      → potential meaning (record b { places = slice_set b.places i s; history = history }) < potential meaning b
  spent-place b i s history lt less = rw (length-set b.places i s) (omega (arith, turns-set b i s history lt, less))

  -- where an item that was out isn't any more, and doesn't stand ready
  pub spent-out : (b : BoardView X C) (i : ℕ) (s : Standing X) (history : List Event) → place_at b i ≡ out → i < length b.places → is_ready meaning (at_place b.known) s ≡ false → is_out s ≡ false
      → potential meaning (record b { places = slice_set b.places i s; history = history }) < potential meaning b
  spent-out b i s history at lt still gone =
      let one : ◌≡◌ {A = ℕ} (turns_at meaning (at_place b.known) (place_at b i)) 1 = rw at refl in
      let zero : ◌≡◌ {A = ℕ} (turns_at meaning (at_place b.known) s) 0 = rw (still, gone) refl in
      spent-place b i s history lt (omega (arith, one, zero))

  taken-less : (b : BoardView X C) (i : ℕ) (history : List Event) → i < length b.places → is_ready meaning (at_place b.known) (place_at b i) ≡ true → potential meaning (record b { places = slice_set b.places i out; history = history }) < potential meaning b
  taken-less b i history lt ready =
      let two : ◌≡◌ {A = ℕ} (turns_at meaning (at_place b.known) (place_at b i)) 2 = rw ready refl in
      spent-place b i out history lt (omega (arith, two))

  pub spent-turn : (b n : BoardView X C) (t : Turn X) → HandsOut meaning b t n → potential meaning n < potential meaning b
  spent-turn b n (turn.Fresh i) h =
      elim h.1 [
        | inl w ↦ rw w.1 (taken-less b i (after_begin b i).history h.0 (ap (is_ready meaning (at_place b.known)) w.0))
        | inr w ↦ rw w.1 (taken-less b i b.history h.0 (ap (is_ready meaning (at_place b.known)) w.0))
      ]
  spent-turn b n (turn.Woken y) h = rw h.6 (taken-less b h.0 b.history h.2 (ap (is_ready meaning (at_place b.known)) h.3 ∙ ap is_empty h.4))
