-- Numbers at the place of their first use.
use Rattle.std.proofs.Common.{◌≡◌, refl, sym, ap, ◌∙◌, ℕ, Bool, true, false, cond, ◌||◌, List, [], ◌∷◌, ◌++◌, append-nil, nat_eq, eqb-true, arith}
use Rattle.std.specs.List.{AllByRecursion, IsDistinct}
use Rattle.hk_fix.specs.Facts.{is_in, firsts}
use Rattle.hk_fix.proofs.Trails.{in-append}

-- two lists have the same members
abbrev pub SameMembers : List ℕ → List ℕ → Type 0
SameMembers a b = (q : ℕ) → is_in a q ≡ is_in b q

or-cons : (n : ℕ) (a b : List ℕ) → SameMembers a b → SameMembers (n ∷ a) (n ∷ b)
or-cons n a b h = λ q. ap (λ t. nat_eq q n || t) (h q)

pub firsts-same : (a b xs : List ℕ) → SameMembers a b → firsts a xs ≡ firsts b xs
firsts-same a b [] h = refl
firsts-same a b (n ∷ ns) h =
    ap (λ t. cond t (firsts a ns) (n ∷ firsts (n ∷ a) ns)) (h n)
    ∙ (ap (λ l. cond (is_in b n) l (n ∷ firsts (n ∷ a) ns)) (firsts-same a b ns h) ∙ ap (λ l. cond (is_in b n) (firsts b ns) (n ∷ l)) (firsts-same (n ∷ a) (n ∷ b) ns (or-cons n a b h)))

swap-or : (a b c : Bool) → (a || (b || c)) ≡ (b || (a || c))
swap-or true true c = refl
swap-or true false c = refl
swap-or false true c = refl
swap-or false false c = refl

absorb : (a b : Bool) → (a ≡ true → b ≡ true) → b ≡ (a || b)
absorb true b h = h refl
absorb false b h = refl

-- a member that comes later, and one that is there already
later-member : (n : ℕ) (xs seen : List ℕ) → SameMembers (xs ++ n ∷ seen) (n ∷ xs ++ seen)
later-member n xs seen = λ q. in-append xs (n ∷ seen) q ∙ (swap-or (is_in xs q) (nat_eq q n) (is_in seen q) ∙ ap (λ t. nat_eq q n || t) (sym (in-append xs seen q)))

member-twice : (n : ℕ) (xs seen : List ℕ) → is_in seen n ≡ true → SameMembers (xs ++ seen) (n ∷ xs ++ seen)
member-twice n xs seen e = λ q. absorb (nat_eq q n) (is_in (xs ++ seen) q) (λ t. in-append xs seen q ∙ (ap (λ b. is_in xs q || b) (ap (is_in seen) (eqb-true q n t) ∙ e) ∙ or-true (is_in xs q)))
  where
    or-true : (b : Bool) → (b || true) ≡ true
    or-true true = refl
    or-true false = refl

pub firsts-append : (seen xs ys : List ℕ) → firsts seen (xs ++ ys) ≡ firsts seen xs ++ firsts (xs ++ seen) ys
firsts-append seen [] ys = refl
firsts-append seen (n ∷ ns) ys =
    elim (is_in seen n) as (λ b. is_in seen n ≡ b → cond b (firsts seen (ns ++ ys)) (n ∷ firsts (n ∷ seen) (ns ++ ys)) ≡ cond b (firsts seen ns) (n ∷ firsts (n ∷ seen) ns) ++ firsts (n ∷ ns ++ seen) ys) [
      | true ↦ λ e. firsts-append seen ns ys ∙ ap (λ l. firsts seen ns ++ l) (firsts-same (ns ++ seen) (n ∷ ns ++ seen) ys (member-twice n ns seen e))
      | false ↦ λ e. ap (λ l. n ∷ l) (firsts-append (n ∷ seen) ns ys ∙ ap (λ l. firsts (n ∷ seen) ns ++ l) (firsts-same (ns ++ n ∷ seen) (n ∷ ns ++ seen) ys (later-member n ns seen)))
    ] refl

-- the members after some uses
pub in-firsts : (seen xs : List ℕ) → SameMembers (seen ++ firsts seen xs) (xs ++ seen)
in-firsts seen [] = λ q. ap (λ l. is_in l q) (append-nil seen)
in-firsts seen (n ∷ ns) = λ q. in-append seen (firsts seen (n ∷ ns)) q ∙ elim (is_in seen n) as (λ b. is_in seen n ≡ b → (is_in seen q || is_in (cond b (firsts seen ns) (n ∷ firsts (n ∷ seen) ns)) q) ≡ is_in (n ∷ ns ++ seen) q) [
  | true ↦ λ e. sym (in-append seen (firsts seen ns) q) ∙ (in-firsts seen ns q ∙ member-twice n ns seen e q)
  | false ↦ λ e. swap-or (is_in seen q) (nat_eq q n) (is_in (firsts (n ∷ seen) ns) q) ∙ (or-assoc (nat_eq q n) (is_in seen q) (is_in (firsts (n ∷ seen) ns) q) ∙ (sym (in-append (n ∷ seen) (firsts (n ∷ seen) ns) q) ∙ (in-firsts (n ∷ seen) ns q ∙ later-member n ns seen q)))
] refl
  where
    or-assoc : (a b c : Bool) → (a || (b || c)) ≡ ((a || b) || c)
    or-assoc true b c = refl
    or-assoc false b c = refl

-- one more number
pub firsts-more : (seen xs : List ℕ) (n : ℕ) → firsts seen (xs ++ n ∷ []) ≡ firsts seen xs ++ firsts (seen ++ firsts seen xs) (n ∷ [])
firsts-more seen xs n = firsts-append seen xs (n ∷ []) ∙ ap (λ l. firsts seen xs ++ l) (firsts-same (xs ++ seen) (seen ++ firsts seen xs) (n ∷ []) (λ q. sym (in-firsts seen xs q)))

-- what holds of each number holds of each first one
pub firsts-all : (P : ℕ → Type 0) (seen ns : List ℕ) → AllByRecursion P ns → AllByRecursion P (firsts seen ns)
firsts-all P seen [] h = tt
firsts-all P seen (n ∷ ns) h =
    elim (is_in seen n) as (λ b. AllByRecursion P (cond b (firsts seen ns) (n ∷ firsts (n ∷ seen) ns))) [
      | true ↦ firsts-all P seen ns h.1
      | false ↦ (h.0, firsts-all P (n ∷ seen) ns h.1)
    ]

eqb-flip : (m n : ℕ) → nat_eq m n ≡ false → nat_eq n m ≡ false
eqb-flip m n e = grind (arith, e)

other-head : (n q : ℕ) (seen : List ℕ) → is_in (n ∷ seen) q ≡ false → (nat_eq n q ≡ false) × (is_in seen q ≡ false)
other-head n q seen e =
    elim (nat_eq q n) as (λ b. nat_eq q n ≡ b → (b || is_in seen q) ≡ false → (nat_eq n q ≡ false) × (is_in seen q ≡ false)) [
      | true ↦ λ t w. cc
      | false ↦ λ t w. (eqb-flip q n t, w)
    ] refl e

-- none of the first ones was seen before, and none stands twice
pub firsts-fresh : (seen ns : List ℕ) → AllByRecursion (λ q. is_in seen q ≡ false) (firsts seen ns)
firsts-fresh seen [] = tt
firsts-fresh seen (n ∷ ns) =
    elim (is_in seen n) as (λ b. is_in seen n ≡ b → AllByRecursion (λ q. is_in seen q ≡ false) (cond b (firsts seen ns) (n ∷ firsts (n ∷ seen) ns))) [
      | true ↦ λ e. firsts-fresh seen ns
      | false ↦ λ e. (e, seen-less (firsts (n ∷ seen) ns) (firsts-fresh (n ∷ seen) ns))
    ] refl
  where
    seen-less : (qs : List ℕ) → AllByRecursion (λ q. is_in (n ∷ seen) q ≡ false) qs → AllByRecursion (λ q. is_in seen q ≡ false) qs
    seen-less [] h = tt
    seen-less (q ∷ qs) h = ((other-head n q seen h.0).1, seen-less qs h.1)

pub firsts-distinct : (seen ns : List ℕ) → IsDistinct nat_eq (firsts seen ns)
unfolding IsDistinct
firsts-distinct seen [] = tt
firsts-distinct seen (n ∷ ns) =
    elim (is_in seen n) as (λ b. IsDistinct nat_eq (cond b (firsts seen ns) (n ∷ firsts (n ∷ seen) ns))) [
      | true ↦ firsts-distinct seen ns
      | false ↦ (others (firsts (n ∷ seen) ns) (firsts-fresh (n ∷ seen) ns), firsts-distinct (n ∷ seen) ns)
    ]
  where
    others : (qs : List ℕ) → AllByRecursion (λ q. is_in (n ∷ seen) q ≡ false) qs → AllByRecursion (λ q. nat_eq n q ≡ false) qs
    others [] h = tt
    others (q ∷ qs) h = ((other-head n q seen h.0).0, others qs h.1)

-- numbers without repeats, none of which was seen before, are all first ones
pub firsts-of_distinct : (seen ns : List ℕ) → IsDistinct nat_eq ns → AllByRecursion (λ q. is_in seen q ≡ false) ns → firsts seen ns ≡ ns
unfolding IsDistinct
firsts-of_distinct seen [] d h = refl
firsts-of_distinct seen (n ∷ ns) d h =
    ap (λ b. cond b (firsts seen ns) (n ∷ firsts (n ∷ seen) ns)) h.0 ∙ ap (λ l. n ∷ l) (firsts-of_distinct (n ∷ seen) ns d.1 (both ns d.0 h.1))
  where
    both : (qs : List ℕ) → AllByRecursion (λ q. nat_eq n q ≡ false) qs → AllByRecursion (λ q. is_in seen q ≡ false) qs → AllByRecursion (λ q. is_in (n ∷ seen) q ≡ false) qs
    both [] a b = tt
    both (q ∷ qs) a b = (ap (λ t. t || is_in seen q) (eqb-flip n q a.0) ∙ b.0, both qs a.1 b.1)
