-- A compiler that is told what is told already.
use Rattle.std.proofs.Common.{◌≡◌, refl, sym, ap, ◌∙◌, subst, arith, ℕ, zero, suc, ◌+◌, ◌<◌, ◌≤◌, Bool, true, false, cond, ◌||◌, ◌&&◌, not, inl, inr, List, [], ◌∷◌, ◌++◌, length, take, get_or, filter, Option, Some, None, is_none, nat_eq, eqb-true, eq-eqb, Contains}
use Rattle.std.proofs.lemmas.List.Elements.{Contains-get_or}
use Rattle.std.proofs.lemmas.List.{take_more}
use Rattle.std.specs.List.{AllByRecursion, IsDistinct}
use Rattle.hk_chain.specs.declared.page.Page.{Page}
use Rattle.hk_fix.specs.Pages.{Pages, lacking}
use Rattle.hk_fix.specs.Facts.{is_in}
use Rattle.hk_fix.specs.Fix.{or_else}
use Rattle.hk_fix.specs.Meaning.{Meaning, told_page}
use Rattle.hk_fix.proofs.Orders.{or_cases, or_right}
use Rattle.hk_fix.proofs.Steps.{contains-in, in-contains}
use Rattle.hk_reuse.proofs.Lists.{all-at}
use Rattle.hk_replay.specs.Going.{tell_by, tell_all, SameKnown}

-- whether a pair isn't among those that were answered
abbrev pub stays : Pages → List ℕ → ℕ → Bool
stays k ps q = is_none (k q) || not (is_in ps q)

filter-twice : (P Q R : ℕ → Bool) → ((q : ℕ) → (Q q && P q) ≡ R q) → (l : List ℕ) → filter P (filter Q l) ≡ filter R l
filter-twice P Q R h [] = refl
filter-twice P Q R h (q ∷ l) = at (Q q) (h q) (filter-twice P Q R h l)
  where
    at : (a : Bool) → (a && P q) ≡ R q → filter P (filter Q l) ≡ filter R l → filter P (cond a (q ∷ filter Q l) (filter Q l)) ≡ cond (R q) (q ∷ filter R l) (filter R l)
    at true e rec = ap (λ b. cond b (q ∷ filter P (filter Q l)) (filter P (filter Q l))) e ∙ ap (λ r. cond (R q) (q ∷ r) r) rec
    at false e rec = rec ∙ ap (λ b. cond b (q ∷ filter R l) (filter R l)) e

pub filter-on : (P Q : ℕ → Bool) (l : List ℕ) → AllByRecursion (λ q. P q ≡ Q q) l → filter P l ≡ filter Q l
filter-on P Q [] h = refl
filter-on P Q (q ∷ l) h = rw (h.0, filter-on P Q l h.1) refl

pub filter-all : (P : ℕ → Bool) (l : List ℕ) → ((q : ℕ) → P q ≡ true) → filter P l ≡ l
filter-all P [] h = refl
filter-all P (q ∷ l) h = rw (h q) (ap (λ r. q ∷ r) (filter-all P l h))

pub in-filter : (P : ℕ → Bool) (l : List ℕ) (q : ℕ) → is_in l q ≡ true → P q ≡ true → is_in (filter P l) q ≡ true
in-filter P [] q i e = cc
in-filter P (x ∷ l) q i e =
    elim (or_cases (nat_eq q x) (is_in l q) i) [
      | inl t ↦ let s : q ≡ x = eqb-true q x t in rw (sym (ap P s) ∙ e, t) refl
      | inr t ↦ elim (P x) as (λ b. is_in (cond b (x ∷ filter P l) (filter P l)) q ≡ true) [
        | true ↦ or_right (nat_eq q x) (is_in (filter P l) q) (in-filter P l q t e)
        | false ↦ in-filter P l q t e
      ]
    ]

nat-swap : (p q : ℕ) → nat_eq p q ≡ nat_eq q p
nat-swap p q = grind arith

-- one more was answered, or couldn't be
some-stays : (k : Pages) (p : ℕ) (ps : List ℕ) (x : Page) → k p ≡ Some x → (q : ℕ) → (not (nat_eq p q) && stays k ps q) ≡ stays k (p ∷ ps) q
some-stays k p ps x e q = at (nat_eq p q) refl
  where
    at : (b : Bool) → nat_eq p q ≡ b → (not b && (is_none (k q) || not (is_in ps q))) ≡ (is_none (k q) || not (nat_eq q p || is_in ps q))
    at true w = let o : k q ≡ Some x = ap k (sym (eqb-true p q w)) ∙ e in rw (o, sym (nat-swap p q) ∙ w) refl
    at false w = rw (sym (nat-swap p q) ∙ w) refl

none-stays : (k : Pages) (p : ℕ) (ps : List ℕ) → k p ≡ None → (q : ℕ) → stays k ps q ≡ stays k (p ∷ ps) q
none-stays k p ps e q = at (nat_eq q p) refl
  where
    at : (b : Bool) → nat_eq q p ≡ b → (is_none (k q) || not (is_in ps q)) ≡ (is_none (k q) || not (b || is_in ps q))
    at true w = let o : k q ≡ None = ap k (eqb-true q p w) ∙ e in rw o refl
    at false w = refl

module _ {C : Type 0} (k : Pages) where
  pub tell-more : (m : Meaning C) (a : List ℕ) (p : ℕ) → tell_all k m (a ++ p ∷ []) ≡ tell_by (tell_all k m a) p (k p)
  tell-more m [] p = refl
  tell-more m (q ∷ a) p = tell-more (tell_by m q (k q)) a p

  -- what stays as it is
  by-same : {A : Type 0} (f : Meaning C → A) → ((m : Meaning C) (p : ℕ) (x : Page) → f (told_page m p x) ≡ f m) → (m : Meaning C) (p : ℕ) (o : Option Page) → f (tell_by m p o) ≡ f m
  by-same f h m p None = refl
  by-same f h m p (Some x) = h m p x

  pub all-same : {A : Type 0} (f : Meaning C → A) → ((m : Meaning C) (p : ℕ) (x : Page) → f (told_page m p x) ≡ f m) → (m : Meaning C) (ps : List ℕ) → f (tell_all k m ps) ≡ f m
  all-same f h m [] = refl
  all-same f h m (p ∷ ps) = all-same f h (tell_by m p (k p)) ps ∙ by-same f h m p (k p)

  pub all-awaits : (m : Meaning C) (ps : List ℕ) → (tell_all k m ps).awaits ≡ filter (stays k ps) m.awaits
  all-awaits m [] = sym (filter-all (stays k []) m.awaits (λ q. or-true (is_none (k q))))
    where
      or-true : (b : Bool) → (b || true) ≡ true
      or-true true = refl
      or-true false = refl
  all-awaits m (p ∷ ps) = all-awaits (tell_by m p (k p)) ps ∙ at (k p) refl
    where
      every : (P Q : ℕ → Bool) → ((q : ℕ) → P q ≡ Q q) → (l : List ℕ) → AllByRecursion (λ q. P q ≡ Q q) l
      every P Q h [] = tt
      every P Q h (q ∷ l) = (h q, every P Q h l)

      at : (o : Option Page) → k p ≡ o → filter (stays k ps) (tell_by m p o).awaits ≡ filter (stays k (p ∷ ps)) m.awaits
      at None e = filter-on (stays k ps) (stays k (p ∷ ps)) m.awaits (every (stays k ps) (stays k (p ∷ ps)) (none-stays k p ps e) m.awaits)
      at (Some x) e = filter-twice (stays k ps) (λ q. not (nat_eq p q)) (stays k (p ∷ ps)) (some-stays k p ps x e) m.awaits

  pub all-told : (m : Meaning C) (ps : List ℕ) (q : ℕ) → (tell_all k m ps).told q ≡ cond (is_in ps q) (or_else (k q) (m.told q)) (m.told q)
  all-told m [] q = refl
  all-told m (p ∷ ps) q = all-told (tell_by m p (k p)) ps q ∙ at (k p) refl (nat_eq p q) refl (is_in ps q)
    where
      at : (o : Option Page) → k p ≡ o → (b : Bool) → nat_eq p q ≡ b → (c : Bool) → cond c (or_else (k q) ((tell_by m p o).told q)) ((tell_by m p o).told q) ≡ cond (nat_eq q p || c) (or_else (k q) (m.told q)) (m.told q)
      at None e true w c = let u : k q ≡ None = ap k (sym (eqb-true p q w)) ∙ e in rw (sym (nat-swap p q) ∙ w, u) (either c)
        where
          either : (c : Bool) → cond c (m.told q) (m.told q) ≡ m.told q
          either true = refl
          either false = refl
      at None e false w c = rw (sym (nat-swap p q) ∙ w) refl
      at (Some x) e true w c = let u : k q ≡ Some x = ap k (sym (eqb-true p q w)) ∙ e in rw (w, sym (nat-swap p q) ∙ w, u) (either c)
        where
          either : (c : Bool) → cond c (Some x) (Some x) ≡ Some x
          either true = refl
          either false = refl
      at (Some x) e false w c = rw (w, sym (nat-swap p q) ∙ w) refl

  -- the open pairs are told
  module _ (m : Meaning C) (distinct : IsDistinct nat_eq m.awaits) (untold : AllByRecursion (λ p. m.told p ≡ None) m.awaits) where
    not-before : (l : List ℕ) (i p : ℕ) → IsDistinct nat_eq l → i < length l → p ≡ get_or l i p → is_in (take i l) p ≡ false
    unfolding IsDistinct
    not-before [] i p d lt e = absurd (omega (arith, lt))
    not-before (x ∷ l) zero p d lt e = refl
    not-before (x ∷ l) (suc i) p d lt e =
        let less : i < length l = omega (arith, lt) in
        let other : nat_eq x p ≡ false = subst (λ q. nat_eq x q ≡ false) (sym e) (at-place l i p d.0 less) in
        rw (nat-swap p x ∙ other) (not-before l i p d.1 less e)
      where
        at-place : (l : List ℕ) (i d : ℕ) → AllByRecursion (λ y. nat_eq x y ≡ false) l → i < length l → nat_eq x (get_or l i d) ≡ false
        at-place [] i d h lt = absurd (omega (arith, lt))
        at-place (y ∷ l) zero d h lt = h.0
        at-place (y ∷ l) (suc i) d h lt = at-place l i d h.1 (omega (arith, lt))

    pub still-open : (i p : ℕ) → i < length m.awaits → p ≡ get_or m.awaits i p → Contains (tell_all k m (take i m.awaits)).awaits p
    still-open i p lt e = in-contains (tell_all k m (take i m.awaits)).awaits p (ap (λ l. is_in l p) (all-awaits m (take i m.awaits)) ∙ in-filter (stays k (take i m.awaits)) m.awaits p (contains-in m.awaits p (subst (Contains m.awaits) (sym e) (Contains-get_or m.awaits i p lt))) (rw (not-before m.awaits i p distinct lt e) (or-yes (is_none (k p)))))
      where
        or-yes : (b : Bool) → (b || true) ≡ true
        or-yes true = refl
        or-yes false = refl

    untold-at : (l : List ℕ) (q : ℕ) → AllByRecursion (λ p. m.told p ≡ None) l → is_in l q ≡ true → m.told q ≡ None
    untold-at l q h i = all-at (λ p. m.told p ≡ None) l q h i

    pub same-known : (ps : List ℕ) → ((q : ℕ) → is_in ps q ≡ true → is_in m.awaits q ≡ true) → SameKnown k m (tell_all k m ps)
    same-known ps within =
        record {
          common = all-same (λ x. x.common) (λ x p y. refl) m ps;
          item = all-same (λ x. x.item) (λ x p y. refl) m ps;
          known = λ q. ap (λ o. or_else o (k q)) (all-told m ps q) ∙ at q (is_in ps q) refl;
        }
      where
        twice : (o : Option Page) → or_else (or_else o None) o ≡ o
        twice None = refl
        twice (Some x) = refl

        at : (q : ℕ) (b : Bool) → is_in ps q ≡ b → or_else (cond b (or_else (k q) (m.told q)) (m.told q)) (k q) ≡ or_else (m.told q) (k q)
        at q true w = rw (untold-at m.awaits q untold (within q w)) (twice (k q))
        at q false w = refl

    pub all-lacking : (tell_all k m m.awaits).awaits ≡ lacking k m.awaits
    all-lacking = all-awaits m m.awaits ∙ filter-on (stays k m.awaits) (λ q. is_none (k q)) m.awaits (each m.awaits (λ q i. i))
      where
        each : (l : List ℕ) → ((q : ℕ) → is_in l q ≡ true → is_in m.awaits q ≡ true) → AllByRecursion (λ q. stays k m.awaits q ≡ is_none (k q)) l
        each [] f = tt
        each (q ∷ l) f = (rw (f q (rw (eq-eqb q q refl) refl)) (or-false (is_none (k q))), each l (λ r i. f r (or_right (nat_eq r q) (is_in l r) i)))
          where
            or-false : (b : Bool) → (b || false) ≡ b
            or-false true = refl
            or-false false = refl

-- one more pair of a loop
pub told-turn : {C : Type 0} (k : Pages) (m : Meaning C) (i p : ℕ) (now later : Meaning C) → i < length m.awaits → p ≡ get_or m.awaits i p → now ≡ tell_all k m (take i m.awaits) → later ≡ tell_by now p (k p) → later ≡ tell_all k m (take (i + 1) m.awaits)
told-turn k m i p now later lt at was is =
    let next : take (i + 1) m.awaits ≡ take i m.awaits ++ p ∷ [] = take_more m.awaits i p lt ∙ ap (λ x. take i m.awaits ++ x ∷ []) (sym at) in
    is ∙ (ap (λ n. tell_by n p (k p)) was ∙ (sym (tell-more k m (take i m.awaits) p) ∙ sym (ap (tell_all k m) next)))

pub take-in : (l : List ℕ) (i q : ℕ) → is_in (take i l) q ≡ true → is_in l q ≡ true
take-in l zero q e = cc
take-in [] (suc i) q e = e
take-in (x ∷ l) (suc i) q e =
    elim (or_cases (nat_eq q x) (is_in (take i l) q) e) [
      | inl t ↦ rw t refl
      | inr t ↦ or_right (nat_eq q x) (is_in l q) (take-in l i q t)
    ]

pub take-whole : (l : List ℕ) (i : ℕ) → length l ≤ i → take i l ≡ l
take-whole [] zero e = refl
take-whole [] (suc i) e = refl
take-whole (x ∷ l) zero e = absurd (omega (arith, e))
take-whole (x ∷ l) (suc i) e = ap (λ r. x ∷ r) (take-whole l i (omega (arith, e)))
