-- Open pairs answered one after another.
use Rattle.std.proofs.Common.{◌≡◌, refl, sym, ap, ◌∙◌, ℕ, zero, suc, ◌<◌, ◌≤◌, Bool, true, false, cond, not, ◌||◌, inl, inr, List, [], ◌∷◌, length, filter, Option, Some, None, is_some, is_none, nat_eq, get_or, arith, eqb-true, eq-eqb}
use Rattle.hk_chain.specs.declared.page.Page.{Page}
use Rattle.hk_chain.specs.Kept.{at_place}
use Rattle.hk_fix.specs.Pages.{Pages, lacking}
use Rattle.hk_fix.specs.Facts.{is_in}
use Rattle.hk_fix.specs.Meaning.{Meaning, told_page}
use Rattle.hk_fix.proofs.Orders.{clash, decide}
use Rattle.hk_sched.specs.Standings.{told_with, all_told, SomeTold}

eqb-flip : (m n : ℕ) → nat_eq m n ≡ nat_eq n m
eqb-flip m n =
    elim (decide (nat_eq m n)) [
      | inl t ↦ t ∙ sym (eq-eqb n m (sym (eqb-true m n t)))
      | inr f ↦ elim (decide (nat_eq n m)) [
        | inl t ↦ clash (nat_eq m n) f (eq-eqb m n (sym (eqb-true n m t)))
        | inr g ↦ f ∙ sym g
      ]
    ]

-- a filter of a filter
filter-both : (ps : List ℕ) (p : ℕ) (xs : List ℕ) → filter (λ q. not (nat_eq p q)) (filter (λ q. not (is_in ps q)) xs) ≡ filter (λ q. not (is_in (p ∷ ps) q)) xs
filter-both ps p [] = refl
filter-both ps p (x ∷ xs) =
    rw (eqb-flip x p) (elim (is_in ps x) as (λ b. filter (λ q. not (nat_eq p q)) (cond (not b) (x ∷ filter (λ q. not (is_in ps q)) xs) (filter (λ q. not (is_in ps q)) xs)) ≡ cond (not (nat_eq p x || b)) (x ∷ filter (λ q. not (is_in (p ∷ ps) q)) xs) (filter (λ q. not (is_in (p ∷ ps) q)) xs)) [
      | true ↦ elim (nat_eq p x) as (λ c. filter (λ q. not (nat_eq p q)) (filter (λ q. not (is_in ps q)) xs) ≡ cond (not (c || true)) (x ∷ filter (λ q. not (is_in (p ∷ ps) q)) xs) (filter (λ q. not (is_in (p ∷ ps) q)) xs)) [
        | true ↦ filter-both ps p xs
        | false ↦ filter-both ps p xs
      ]
      | false ↦ elim (nat_eq p x) as (λ c. cond (not c) (x ∷ filter (λ q. not (nat_eq p q)) (filter (λ q. not (is_in ps q)) xs)) (filter (λ q. not (nat_eq p q)) (filter (λ q. not (is_in ps q)) xs)) ≡ cond (not (c || false)) (x ∷ filter (λ q. not (is_in (p ∷ ps) q)) xs) (filter (λ q. not (is_in (p ∷ ps) q)) xs)) [
        | true ↦ filter-both ps p xs
        | false ↦ ap (λ l. x ∷ l) (filter-both ps p xs)
      ]
    ])

pub filter-in : (test : ℕ → Bool) (xs : List ℕ) (q : ℕ) → is_in (filter test xs) q ≡ true → (is_in xs q ≡ true) × (test q ≡ true)
filter-in test [] q e = cc
filter-in test (x ∷ xs) q e =
    elim (decide (nat_eq q x)) [
      | inl t ↦ elim (decide (test x)) [
        | inl y ↦ (rw t refl, rw (eqb-true q x t) y)
        | inr n ↦ (let w = filter-in test xs q (rw n at e) in (rw t refl, w.1))
      ]
      | inr f ↦
          let w = filter-in test xs q (elim (test x) as (λ b. is_in (cond b (x ∷ filter test xs) (filter test xs)) q ≡ true → is_in (filter test xs) q ≡ true) [
            | true ↦ λ h. rw f at h
            | false ↦ λ h. h
          ] e) in
          (rw f w.0, w.1)
    ]

pub filter-has : (test : ℕ → Bool) (xs : List ℕ) (q : ℕ) → is_in xs q ≡ true → test q ≡ true → is_in (filter test xs) q ≡ true
filter-has test [] q e t = cc
filter-has test (x ∷ xs) q e t =
    elim (decide (nat_eq q x)) [
      | inl s ↦ rw (← eqb-true q x s, t, eq-eqb q q refl) refl
      | inr f ↦
          let w : is_in (filter test xs) q ≡ true = filter-has test xs q (rw f at e) t in
          elim (test x) as (λ b. is_in (cond b (x ∷ filter test xs) (filter test xs)) q ≡ true) [
            | true ↦ rw f w
            | false ↦ w
          ]
    ]

filter-all : (xs : List ℕ) → filter (λ q. not (is_in [] q)) xs ≡ xs
filter-all [] = refl
filter-all (x ∷ xs) = ap (λ l. x ∷ l) (filter-all xs)

pub filter-empty : (test : ℕ → Bool) (xs : List ℕ) → ((q : ℕ) → is_in xs q ≡ true → test q ≡ false) → filter test xs ≡ []
filter-empty test [] h = refl
filter-empty test (x ∷ xs) h = rw (h x (rw (eq-eqb x x refl) refl)) (filter-empty test xs (λ q e. h q (elim (nat_eq q x) as (λ b. (b || is_in xs q) ≡ true) [ true ↦ refl | false ↦ e ])))

filter-le : (test : ℕ → Bool) (xs : List ℕ) → length (filter test xs) ≤ length xs
filter-le test [] = omega arith
filter-le test (x ∷ xs) = elim (test x) as (λ b. length (cond b (x ∷ filter test xs) (filter test xs)) ≤ suc (length xs)) [ true ↦ omega (arith, filter-le test xs) | false ↦ omega (arith, filter-le test xs) ]

filter-less : (p : ℕ) (xs : List ℕ) → is_in xs p ≡ true → length (filter (λ q. not (nat_eq p q)) xs) < length xs
filter-less p [] e = cc
filter-less p (x ∷ xs) e =
    elim (decide (nat_eq p x)) [
      | inl t ↦ rw t (omega (arith, filter-le (λ q. not (nat_eq p q)) xs))
      | inr f ↦ rw f (omega (arith, filter-less p xs (rw f at e)))
    ]

pub first-in : (xs : List ℕ) (p : ℕ) → 0 < length xs → p ≡ get_or xs 0 p → is_in xs p ≡ true
first-in [] p lt e = absurd (omega arith)
first-in (x ∷ xs) p lt e = rw (eq-eqb p x e) refl

-- each of some pairs is known, where none is lacking
pub none-lacking : (k : Pages) (ps : List ℕ) → lacking k ps ≡ [] → (p : ℕ) → is_in ps p ≡ true → is_some (k p) ≡ true
none-lacking k [] e p h = cc
none-lacking k (q ∷ ps) e p h =
    elim (k q) as (λ o. k q ≡ o → cond (is_none o) (q ∷ lacking k ps) (lacking k ps) ≡ [] → is_some (k p) ≡ true) [
      | None ↦ λ w z. cc
      | Some x ↦ λ w z. elim (decide (nat_eq p q)) [
        | inl t ↦ ap (λ j. is_some (k j)) (eqb-true p q t) ∙ ap is_some w
        | inr f ↦ none-lacking k ps z p (rw f at h)
      ]
    ] refl e

pub empty-of : (xs : List ℕ) → true ≡ nat_eq (length xs) 0 → xs ≡ []
empty-of [] e = refl
empty-of (x ∷ xs) e = absurd (omega (arith, eqb-true (length (x ∷ xs)) 0 (sym e)))

pub some-of : (xs : List ℕ) → false ≡ nat_eq (length xs) 0 → 0 < length xs
some-of [] e = clash (nat_eq 0 0) (sym e) refl
some-of (x ∷ xs) e = omega arith

pub known-below : (known : List (Option Page)) (p : ℕ) → is_some (at_place known p) ≡ true → p < length known
known-below [] p e = cc
known-below (o ∷ os) zero e = omega arith
known-below (o ∷ os) (suc p) e = omega (arith, known-below os p e)

module _ {C : Type 0} (k : Pages) (first : Meaning C) where
  pub none-told : SomeTold k first first
  none-told = ([], λ p e. (let no : false ≡ true = e in cc), ap (λ (l : List ℕ). record first { awaits = l }) (sym (filter-all first.awaits)))

  module _ (m : Meaning C) (told : SomeTold k first m) where
    awaits-are : m.awaits ≡ filter (λ q. not (is_in told.0 q)) first.awaits
    awaits-are = ap (λ (n : Meaning C). n.awaits) told.2

    pub still-first : (p : ℕ) → is_in m.awaits p ≡ true → is_in first.awaits p ≡ true
    still-first p h = (filter-in (λ q. not (is_in told.0 q)) first.awaits p (rw awaits-are at h)).0

    pub one-more : (p : ℕ) (x : Page) → is_in m.awaits p ≡ true → k p ≡ Some x → SomeTold k first (told_page m p x)
    one-more p x h e = (
      p ∷ told.0,
      λ q w. elim (decide (nat_eq q p)) [
        | inl t ↦ ap (is_in first.awaits) (eqb-true q p t) ∙ still-first p h
        | inr f ↦ told.1 q (rw f at w)
      ],
      ap (λ (n : Meaning C). told_page n p x) told.2 ∙ told-both,
    )
      where
        told-as : ◌≡◌ {A = Pages} (λ q. cond (nat_eq p q) (Some x) (cond (is_in told.0 q) (k q) (first.told q))) (λ q. cond (is_in (p ∷ told.0) q) (k q) (first.told q))
        told-as = λ j q. here q j
          where
            here : (q : ℕ) → cond (nat_eq p q) (Some x) (cond (is_in told.0 q) (k q) (first.told q)) ≡ cond (nat_eq q p || is_in told.0 q) (k q) (first.told q)
            here q =
                rw (eqb-flip q p) (elim (decide (nat_eq p q)) [
                  | inl t ↦ rw t (sym e ∙ ap k (eqb-true p q t))
                  | inr f ↦ rw f refl
                ])

        told-both : told_page (told_with k told.0 first) p x ≡ told_with k (p ∷ told.0) first
        told-both = λ j. record first { told = told-as j; awaits = filter-both told.0 p first.awaits j }

    pub fewer-await : (p : ℕ) (x : Page) → is_in m.awaits p ≡ true → length (told_page m p x).awaits < length m.awaits
    fewer-await p x h = filter-less p m.awaits h

    pub told-all : m.awaits ≡ [] → m ≡ all_told k first
    told-all none = told.2 ∙ (λ j. record first { told = told-as j; awaits = awaits-as j })
      where
        in-told : (q : ℕ) → is_in first.awaits q ≡ true → is_in told.0 q ≡ true
        in-told q h =
            elim (decide (is_in told.0 q)) [
              | inl t ↦ t
              | inr f ↦
                  let here : is_in (filter (λ r. not (is_in told.0 r)) first.awaits) q ≡ true = filter-has (λ r. not (is_in told.0 r)) first.awaits q h (ap not f) in
                  clash (is_in m.awaits q) (rw none refl) (rw awaits-are here)
            ]

        same-in : (q : ℕ) → is_in told.0 q ≡ is_in first.awaits q
        same-in q =
            elim (decide (is_in first.awaits q)) [
              | inl t ↦ in-told q t ∙ sym t
              | inr f ↦ elim (decide (is_in told.0 q)) [
                | inl t ↦ clash (is_in first.awaits q) f (told.1 q t)
                | inr g ↦ g ∙ sym f
              ]
            ]

        told-as : ◌≡◌ {A = Pages} (λ q. cond (is_in told.0 q) (k q) (first.told q)) (λ q. cond (is_in first.awaits q) (k q) (first.told q))
        told-as = λ j q. cond (same-in q j) (k q) (first.told q)

        awaits-as : filter (λ q. not (is_in told.0 q)) first.awaits ≡ filter (λ q. not (is_in first.awaits q)) first.awaits
        awaits-as = sym awaits-are ∙ none ∙ sym (filter-empty (λ q. not (is_in first.awaits q)) first.awaits (λ q h. ap not h))
