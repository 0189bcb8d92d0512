-- A step of a walk, and what the marks of a walk say.
use Rattle.std.proofs.Common.{◌≡◌, refl, sym, ap, ◌∙◌, arith, ℕ, zero, suc, ◌+◌, ◌-◌, ◌<◌, ◌≤◌, Bool, true, false, cond, ◌||◌, inl, inr, List, [], ◌∷◌, length, get_or, set, Option, Some, None, nat_eq, eqb-true, eq-eqb, get_or-set_other, get_or-set_same, length-set, Contains, All}
use Rattle.std.proofs.lemmas.List.Elements.{recursion_from_All}
use Rattle.std.specs.List.{AllByRecursion, IsDistinct}
use Rattle.hk_chain.specs.Kept.{at_place}
use Rattle.hk_fix.specs.Facts.{is_in}
use Rattle.hk_fix.specs.declared.cycles.Place.{Place}
use Rattle.hk_fix.specs.declared.cycles.Place.TheVariants.{Off, Member, First}
use Rattle.hk_fix.specs.Report.{trail, before}
use Rattle.hk_fix.specs.Walks.{unreached, Walking, Marked, place_at, place_by}
use Rattle.hk_fix.proofs.Orders.{clash, decide, or_cases, or_right}

pub set-none : (xs : List (Option ℕ)) (c v : ℕ) → c < length xs → at_place xs c ≡ None → unreached (set xs c (Some v)) + 1 ≡ unreached xs
set-none [] c v lt e = absurd (omega arith)
set-none (x ∷ xs) zero v lt e = rw e (omega arith)
set-none (x ∷ xs) (suc c) v lt e = omega (arith, set-none xs c v (omega arith) e)

pub at-set : (xs : List (Option ℕ)) (c : ℕ) (v : Option ℕ) (q : ℕ) → c < length xs → at_place (set xs c v) q ≡ cond (nat_eq q c) v (at_place xs q)
at-set xs c v q lt =
    elim (nat_eq q c) as (λ b. nat_eq q c ≡ b → at_place (set xs c v) q ≡ cond b v (at_place xs q)) [
      | true ↦ λ t. rw (eqb-true q c t) (get_or-set_same xs c v None lt)
      | false ↦ λ t. get_or-set_other xs c q v None (λ e. clash (nat_eq q c) t (eq-eqb q c e))
    ] refl

not-in : (xs : List ℕ) (c : ℕ) → is_in xs c ≡ false → AllByRecursion (λ y. nat_eq c y ≡ false) xs
not-in [] c e = tt
not-in (x ∷ xs) c e = both (nat_eq c x) (is_in xs c) e (λ w. not-in xs c w)
  where
    both : (a b : Bool) → (a || b) ≡ false → (b ≡ false → AllByRecursion (λ y. nat_eq c y ≡ false) xs) → (a ≡ false) × AllByRecursion (λ y. nat_eq c y ≡ false) xs
    both true b w f = cc
    both false b w f = (refl, f w)

unmarked : (b : Bool) (v : ℕ) (o : Option ℕ) → cond b (Some v) o ≡ None → (b ≡ false) × (o ≡ None)
unmarked true v o e = cc
unmarked false v o e = (refl, e)

choose : (a b : Bool) (x y : Option ℕ) → cond a x (cond b x y) ≡ cond (a || b) x y
choose true b x y = refl
choose false b x y = refl

pub start-walking : (leads old : List (Option ℕ)) (start : ℕ) → Walking leads old start (Some start) old
unfolding IsDistinct
start-walking leads old start =
    record { path = []; walk = refl; fresh = tt; distinct = tt; few = omega arith; marked = λ q. refl; count = refl }

pub walk-on : (leads old : List (Option ℕ)) (start current : ℕ) (now : List (Option ℕ)) → Walking leads old start (Some current) now → length old ≡ length leads → current < length leads → at_place now current ≡ None → Walking leads old start (at_place leads current) (set now current (Some start))
unfolding IsDistinct
walk-on leads old start current now was same lt none =
    let w : (is_in was.path current ≡ false) × (at_place old current ≡ None) = unmarked (is_in was.path current) start (at_place old current) (sym (was.marked current) ∙ none) in
    let inside : current < length now = omega (arith, was.count, same) in
    record {
      path = current ∷ was.path;
      walk = (refl, was.walk);
      fresh = ((lt, w.1), was.fresh);
      distinct = (not-in was.path current w.0, was.distinct);
      few = omega (arith, was.few, set-none now current start inside none);
      marked = λ q. at-set now current (Some start) q inside ∙ (ap (λ o. cond (nat_eq q current) (Some start) o) (was.marked q) ∙ choose (nat_eq q current) (is_in was.path q) (Some start) (at_place old q));
      count = length-set now current (Some start) ∙ was.count;
    }

-- a member of a list by its place
pub contains-in : (xs : List ℕ) (m : ℕ) → Contains xs m → is_in xs m ≡ true
contains-in xs m c = at xs c.0 c.1 c.2
  where
    here : (x : ℕ) (b : Bool) → x ≡ m → (nat_eq m x || b) ≡ true
    here x b e = rw (e, eq-eqb m m refl) refl

    at : (ys : List ℕ) (k : ℕ) → k < length ys → get_or ys k m ≡ m → is_in ys m ≡ true
    at [] k lt e = absurd (omega arith)
    at (y ∷ ys) zero lt e = here y (is_in ys m) e
    at (y ∷ ys) (suc k) lt e = or_right (nat_eq m y) (is_in ys m) (at ys k (omega arith) e)

pub in-contains : (xs : List ℕ) (m : ℕ) → is_in xs m ≡ true → Contains xs m
in-contains [] m e = cc
in-contains (x ∷ xs) m e =
    elim (or_cases (nat_eq m x) (is_in xs m) e) [
      | inl t ↦ (0, omega arith, sym (eqb-true m x t))
      | inr t ↦ let c : Contains xs m = in-contains xs m t in (suc c.0, omega (arith, c.1), c.2)
    ]

-- a trail's first step
pub trail-step : (leads : List (Option ℕ)) (n current next : ℕ) → 0 < n → at_place leads current ≡ Some next → trail leads n current ≡ next ∷ trail leads (n - 1) next
trail-step leads zero current next lt e = absurd (omega arith)
trail-step leads (suc n) current next lt e = let m : suc n - 1 ≡ n = omega arith in rw (e, m) refl

pub trail-end : (leads : List (Option ℕ)) (n current : ℕ) → at_place leads current ≡ None → trail leads n current ≡ []
trail-end leads zero current e = refl
trail-end leads (suc n) current e = rw e refl

pub before-other : (item next : ℕ) (t : List ℕ) → (next ≡ item → ⊥) → before item (next ∷ t) ≡ next ∷ before item t
before-other item next t ne =
    elim (decide (nat_eq item next)) [
      | inl e ↦ absurd (ne (sym (eqb-true item next e)))
      | inr f ↦ rw f refl
    ]

pub before-same : (item next : ℕ) (t : List ℕ) → next ≡ item → before item (next ∷ t) ≡ []
before-same item next t e = rw (eq-eqb item next (sym e)) refl

pub in-other : (item next : ℕ) (t : List ℕ) → (next ≡ item → ⊥) → is_in (next ∷ t) item ≡ true → is_in t item ≡ true
in-other item next t ne i =
    elim (or_cases (nat_eq item next) (is_in t item) i) [
      | inl e ↦ absurd (ne (sym (eqb-true item next e)))
      | inr f ↦ f
    ]

-- the least of the members after the others
pub marks : (around : List ℕ) (old now : List Place) (first : ℕ) → Contains around first → All (λ q. first ≤ q) around → All (λ q. q < length old) around → length now ≡ length old → ((q : ℕ) → q < length old → place_at now q ≡ cond (is_in around q) Member (place_at old q)) → Marked around old (set now first First)
marks around old now first c below range same was =
    record {
      least = first;
      member = contains-in around first c;
      below = recursion_from_All (λ q. first ≤ q) around below;
      count = length-set now first First ∙ same;
      each = each;
    }
  where
    each : (q : ℕ) → q < length old → place_at (set now first First) q ≡ cond (is_in around q) (place_by true (nat_eq q first)) (place_at old q)
    each q lt =
        elim (decide (nat_eq q first)) [
          | inl t ↦
              let e : q ≡ first = eqb-true q first t in
              let i : is_in around q ≡ true = rw e (contains-in around first c) in
              let s : first < length now = rw (same, ← e) lt in
              let g : place_at (set now first First) q ≡ First = rw e (get_or-set_same now first First Off s) in
              g ∙ rw (i, t) refl
          | inr f ↦
              get_or-set_other now first q First Off (λ e. clash (nat_eq q first) f (eq-eqb q first e)) ∙ (was q lt ∙ rw f refl)
        ]
