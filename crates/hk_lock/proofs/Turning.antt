-- Each step of a turn lock keeps its rule.
use Rattle.std.proofs.Common.{◌≡◌, ◌≢◌, ℕ, zero, suc, ◌+◌, ◌≤◌, eqb, Bool, true, false, cond, true≢false, List, [], ◌∷◌, ◌++◌, set, get_or, is_some, Option, Some, None, sym, refl, ap, ◌∙◌, subst, ⊎_elim, arith, length-set, get_or-set_same}
use Rattle.std.specs.List.{count_by}
use mathlib.Core.Option.{some, none, some-injective, some-ne-none}
use lib.ListN.{get_elem?}
use lib.Seq.{set-get_or}
use prog.Atomic.{either}
use Rattle.atomic_table.specs.Table.{State, Me, Act, opening, rest, step, keeps, takes, gives, stepped, carried_after, Valid, Allows, Splits, Joins, Final, Seen}
use Rattle.atomic_table.proofs.Lists.{at_set, at_snoc, set_here, set_else, set_again, exchanged}
use Rattle.hk_lock.specs.declared.view.View.{View}
use Rattle.hk_lock.specs.Lawful.{IsLawfulFor}
use Rattle.hk_lock.specs.View.{first_view, spent_view, after_split, split_from, after_join, after_take, after_give_back}
use Rattle.hk_lock.specs.Turns.{is_live, has_turn, is_first, SeatFits, IsLockState, HoldsItsSlot, Tried, Released}
use Rattle.hk_lock.proofs.Counting.{one, inside, count_set, count_snoc, count_at, sole, fewer}

is_one : (b : Bool) → b ≡ true → one b ≡ 1
is_one b e = ap one e

is_zero : (b : Bool) → b ≡ false → one b ≡ 0
is_zero b e = ap one e

at_most : (b c : Bool) → (b ≡ false → c ≡ false) → one c ≤ one b
at_most true true h = omega arith
at_most true false h = omega arith
at_most false true h = absurd (true≢false (h refl))
at_most false false h = omega arith

isnt : (b : Bool) → one b ≡ 0 → b ≢ true
isnt b z e = let o = is_one b e in omega arith

module _ {B K : Type 0} (lawful : K → B → Type 0) (key : K) where
  abbrev V : Type 0
  V = View K

  abbrev S : Type 0
  S = State (Option B) V

  abbrev Rule : S → Type 0
  Rule = IsLockState lawful key

  abbrev live : S → ℕ
  live s = count_by is_live s.views

  abbrev AllFit : ℕ → List V → Type 0
  AllFit n vs = (j : ℕ) (u : V) → get_elem? vs j ≡ some u → SeatFits key n u

  fits_set : (n : ℕ) (vs : List V) (i : ℕ) (w : V) → SeatFits key n w → ((j : ℕ) (u : V) → j ≢ i → get_elem? vs j ≡ some u → SeatFits key n u) → AllFit n (set vs i w)
  fits_set n vs i w mine others j u e = ⊎_elim
      (λ (x : (j ≡ i) × (w ≡ u)). subst (SeatFits key n) x.1 mine)
      (λ (x : (j ≢ i) × (get_elem? vs j ≡ some u)). others j u x.0 x.1)
      (at_set vs i j w u e)

  lawful_for : (n : ℕ) (v : V) (b : B) → SeatFits key n v → is_some v.key ≡ true → lawful key b → IsLawfulFor lawful v.key b
  lawful_for n v b f l ok = subst (λ k. IsLawfulFor lawful k b) (sym (f.keyed l)) ok

  lawful_under : (n : ℕ) (v : V) (b : B) → SeatFits key n v → is_some v.key ≡ true → IsLawfulFor lawful v.key b → lawful key b
  lawful_under n v b f l ok = subst (λ k. IsLawfulFor lawful k b) (f.keyed l) ok

  -- a seat that takes or gives up the turn with the board
  turned : (n : ℕ) (v : V) (t : Bool) → is_some v.key ≡ true → SeatFits key n v → SeatFits key n (record v { has_turn = t; has_board = t })
  turned n v t l f = record {
    keyed = f.keyed;
    spent = λ d. absurd (true≢false (sym l ∙ d));
    board = refl;
    others = f.others;
  }

  first_fits : AllFit 1 (first_view key ∷ [])
  first_fits zero v at = subst (SeatFits key 1) (some-injective (first_view key) v at) record {
    keyed = λ _. refl;
    spent = λ d. absurd (true≢false d);
    board = refl;
    others = λ _. refl;
  }
  first_fits (suc j) v at = absurd (some-ne-none v (sym at))

  pub opens : (b : B) (words : List ℕ) (slots : List (Option B)) → words ≡ 0 ∷ [] → slots ≡ Some b ∷ [] → lawful key b → Rule (opening words slots (first_view key))
  opens b words slots w s ok = subst (λ (x : List ℕ × List (Option B)). Rule (opening x.0 x.1 (first_view key))) (λ i. (sym w i, sym s i)) record {
    one_word = refl;
    one_slot = refl;
    fits = first_fits;
    turns = refl;
    one_turn = omega arith;
    one_first = refl;
    home = λ _. (b, refl, ok);
    away = λ is. absurd (omega arith);
  }

  pub tries : (slots id : ℕ) (me : Me (Option B) V) → me.0.has_turn ≡ false → is_some me.0.key ≡ true → Allows Rule slots id me 0 (λ n. either (eqb n 0) 1 n) (Tried lawful (step slots 0 0 1 none) me)
  tries slots id me idle alive s h _ at _ =
      let v : V = me.0 in let n : ℕ = get_or s.words 0 0 in
      exchanged n 0 1 (λ k. (w : V) × (a : Act (Option B)) × Valid s.homes me.1 a × Rule (stepped s 0 k id me.1 w a) × Tried lawful (step slots 0 0 1 none) me n (w, carried_after me.1 a))
      (λ e.
      let w : V = after_take v in let old = h.fits id v at in let home = h.home e in let b : B = home.0 in
      let words = h.one_word in let slot = h.one_slot in let turns = h.turns in let firsts = h.one_first in
      let now : get_or (set s.words 0 1) 0 0 ≡ 1 = get_or-set_same s.words 0 1 0 (omega arith) in
      let same : count_by is_live (set s.views id w) ≡ live s = (let t = count_set is_live s.views id v w at in omega arith) in
      let t = count_set has_turn s.views id v w at in let z = is_zero v.has_turn idle in
      let f = count_set is_first s.views id v w at in (
        w,
        takes 0 (Some b),
        home.1,
        record {
          one_word = length-set s.words 0 1 ∙ words;
          one_slot = length-set s.homes 0 none ∙ slot;
          fits = subst (λ (a : ℕ). AllFit a (set s.views id w)) (sym same) (fits_set (live s) s.views id w (turned (live s) v true alive old) (λ j u _ e'. h.fits j u e'));
          turns = omega arith;
          one_turn = omega arith;
          one_first = omega arith;
          home = λ is. absurd (omega arith);
          away = λ _. set_here s.homes 0 none (omega arith);
        },
        ((λ _. (b, refl, lawful_for (live s) v b old alive home.2)), λ ne. absurd (ne e)),
      ))
      (λ ne. (
        v,
        keeps,
        tt,
        subst (λ (x : List ℕ × List V). Rule record { words = x.0; homes = s.homes; views = x.1 }) (λ i. (sym (set-get_or s.words 0 0) i, sym (set_again s.views id v at) i)) h,
        ((λ e. absurd (ne e)), λ _. refl),
      ))

  releases : (slots id : ℕ) (v : V) (b : B) → v.has_turn ≡ true → is_some v.key ≡ true → IsLawfulFor lawful v.key b
      → Allows Rule slots id (v, (0, Some b) ∷ []) 0 (λ _. 0) (λ n. Released (step slots 0 0 0 none) (v, (0, Some b) ∷ []) n)
  releases slots id v b mine alive ok s h _ at _ =
      let w : V = after_give_back v in let old = h.fits id v at in
      let words = h.one_word in let slot = h.one_slot in let turns = h.turns in let few = h.one_turn in let firsts = h.one_first in
      let now : get_or (set s.words 0 0) 0 0 ≡ 0 = get_or-set_same s.words 0 0 0 (omega arith) in
      let same : count_by is_live (set s.views id w) ≡ live s = (let t = count_set is_live s.views id v w at in omega arith) in
      let t = count_set has_turn s.views id v w at in let z = is_one v.has_turn mine in
      let f = count_set is_first s.views id v w at in (
        w,
        gives,
        tt,
        record {
          one_word = length-set s.words 0 0 ∙ words;
          one_slot = length-set s.homes 0 (some (Some b)) ∙ slot;
          fits = subst (λ (a : ℕ). AllFit a (set s.views id w)) (sym same) (fits_set (live s) s.views id w (turned (live s) v false alive old) (λ j u _ e'. h.fits j u e'));
          turns = omega arith;
          one_turn = omega arith;
          one_first = omega arith;
          home = λ _. (b, set_here s.homes 0 (some (Some b)) (omega arith), lawful_under (live s) v b old alive ok);
          away = λ is. absurd (omega arith);
        },
        refl,
      )

  -- the same from a seat that had the turn, after it laid the board
  pub releases_laid : (slots id : ℕ) (me before : Me (Option B) V) (b : B) → me ≡ (before.0, (0, Some b) ∷ rest before.1) → HoldsItsSlot before → before.0.has_turn ≡ true → IsLawfulFor lawful before.0.key b
      → Allows Rule slots id me 0 (λ _. 0) (Released (step slots 0 0 0 none) me)
  releases_laid slots id me before b laid holds mine ok =
      let empty : rest before.1 ≡ [] = ap rest holds.slot ∙ ap (λ t. rest (cond t ((0, None) ∷ []) [])) mine in
      let is : me ≡ (before.0, (0, Some b) ∷ []) = laid ∙ ap (λ (cs : List (ℕ × Option B)). (before.0, (0, Some b) ∷ cs)) empty in
      subst (λ m. Allows Rule slots id m 0 (λ _. 0) (Released (step slots 0 0 0 none) m)) (sym is) (releases slots id before.0 b mine holds.is_live ok)

  -- of two seats at most one is the first
  other_first : (s : S) → Rule s → (id : ℕ) (v : V) → get_elem? s.views id ≡ some v → v.is_first ≡ true → (j : ℕ) (u : V) → j ≢ id → get_elem? s.views j ≡ some u → u.is_first ≢ true
  other_first s h id v at first j u apart at' = isnt u.is_first (sole is_first s.views id v j u spent_view h.one_first at (is_one v.is_first first) refl at' apart)

  -- the others fit whatever number is live, where this seat is the first
  others_fit : (s : S) → Rule s → (id : ℕ) (v : V) → get_elem? s.views id ≡ some v → v.is_first ≡ true → (n j : ℕ) (u : V) → j ≢ id → get_elem? s.views j ≡ some u → SeatFits key n u
  others_fit s h id v at first n j u apart at' = let was = h.fits j u at' in record {
    keyed = was.keyed;
    spent = was.spent;
    board = was.board;
    others = λ p. absurd (other_first s h id v at first j u apart at' p);
  }

  pub lends : (id : ℕ) (v : V) → v.is_first ≡ true → is_some v.key ≡ true → Splits Rule id v (after_split v) (split_from v)
  lends id v first alive s h at =
      let l : V = after_split v in let g : V = split_from v in let vs : List V = set s.views id l in let vs' : List V = vs ++ g ∷ [] in let old = h.fits id v at in
      let mine = old.others first in let turns = h.turns in let firsts = h.one_first in
      let a = count_set is_live s.views id v l at in let a' = count_snoc is_live vs g in let z = is_one (is_some v.key) alive in
      let t = count_set has_turn s.views id v l at in let t' = count_snoc has_turn vs g in
      let f = count_set is_first s.views id v l at in let f' = count_snoc is_first vs g in
      let n : ℕ = live s + 1 in
      let more : count_by is_live vs' ≡ n = omega arith in
      record {
        one_word = h.one_word;
        one_slot = h.one_slot;
        fits = subst (λ (k : ℕ). AllFit k vs') (sym more) (λ j u e. ⊎_elim
            (λ (e' : get_elem? vs j ≡ some u). fits_set n s.views id l
            record { keyed = old.keyed; spent = λ d. absurd (true≢false (sym alive ∙ d)); board = old.board; others = λ _. omega arith }
            (others_fit s h id v at first n) j u e')
            (λ (is : g ≡ u). subst (SeatFits key n) is record { keyed = old.keyed; spent = λ d. absurd (true≢false (sym alive ∙ d)); board = refl; others = λ p. absurd (true≢false (sym p)) })
            (at_snoc vs g u j e));
        turns = omega arith;
        one_turn = h.one_turn;
        one_first = omega arith;
        home = h.home;
        away = h.away;
      }

  pub returns : (id : ℕ) (v : V) (other : ℕ) (w : V) → v.is_first ≡ true → is_some v.key ≡ true → is_some w.key ≡ true → w.has_turn ≡ false → Joins Rule id v other w (after_join v) spent_view
  returns id v other w first alive alive' idle s h at two at' =
      let b : V = after_join v in let vs : List V = set s.views id b in let vs' : List V = set vs other spent_view in let old = h.fits id v at in
      let mine = old.others first in let turns = h.turns in let firsts = h.one_first in
      let was : get_elem? s.views other ≡ some w = subst (λ o. o ≡ some w) (set_else s.views id other b two) at' in
      let z = is_one (is_some v.key) alive in let z' = is_one (is_some w.key) alive' in let y = is_zero w.has_turn idle in
      let x = sole is_first s.views id v other w spent_view firsts at (is_one v.is_first first) refl was two in
      let a = count_set is_live s.views id v b at in let a' = count_set is_live vs other w spent_view at' in
      let t = count_set has_turn s.views id v b at in let t' = count_set has_turn vs other w spent_view at' in
      let f = count_set is_first s.views id v b at in let f' = count_set is_first vs other w spent_view at' in
      let here : get_elem? vs' id ≡ some b = set_else vs other id spent_view (λ e. two (sym e)) ∙ set_here s.views id b (inside s.views id v at) in
      let c = count_at is_live vs' id b here in
      let n : ℕ = count_by is_live vs' in
      let less : live s ≡ n + 1 = omega arith in
      record {
        one_word = h.one_word;
        one_slot = h.one_slot;
        fits = fits_set n vs other spent_view
            record { keyed = λ p. absurd (true≢false (sym p)); spent = λ _. refl; board = refl; others = λ p. absurd (true≢false (sym p)) }
            (λ j u apart e. fits_set n s.views id b
            record { keyed = old.keyed; spent = λ d. absurd (true≢false (sym alive ∙ d)); board = old.board; others = λ _. omega arith }
            (others_fit s h id v at first n) j u e);
        turns = omega arith;
        one_turn = h.one_turn;
        one_first = omega arith;
        home = h.home;
        away = h.away;
      }

  -- the board of a lock whose first seat alone is live
  pub closes : (id : ℕ) (v : V) (words : List ℕ) (slots : List (Option B)) (y : Option B) → v.is_first ≡ true → v.lent ≡ 0 → v.has_turn ≡ false → is_some v.key ≡ true
      → Final (Seen Rule id v) words slots → get_elem? slots 0 ≡ some y → (b : B) × (y ≡ Some b) × IsLawfulFor lawful v.key b
  closes id v words slots y first alone idle alive last at =
      let s : S = last.0 in let h : Rule s = last.1.0 in let old = h.fits id v last.1.1 in let mine = old.others first in
      let less = fewer has_turn is_live s.views id v
      (λ j u e. at_most (is_some u.key) u.has_turn (λ d. ap (λ (z : V). z.has_turn) ((h.fits j u e).spent d))) last.1.1
      (let p = is_one (is_some v.key) alive in let q = is_zero v.has_turn idle in omega arith) in
      let turns = h.turns in let home = h.home (omega arith) in (
        home.0,
        some-injective y (Some home.0) (sym at ∙ last.4 0 (Some home.0) home.1),
        lawful_for (live s) v home.0 old alive home.2,
      )
