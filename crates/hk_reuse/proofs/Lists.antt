-- Lists of numbers without repeats, and logs.
use Rattle.std.proofs.Common.{◌≡◌, refl, sym, ap, ◌∙◌, subst, ℕ, Bool, true, false, cond, ◌||◌, inl, inr, List, [], ◌∷◌, ◌++◌, map, is_none, nat_eq, eqb-true, eq-eqb}
use Rattle.std.specs.List.{AllByRecursion, IsDistinct}
use Rattle.hk_fix.specs.Pages.{Pages, lacking}
use Rattle.hk_fix.specs.Facts.{is_in, firsts}
use Rattle.hk_fix.proofs.Orders.{clash, or_cases, or_right}
use Rattle.hk_fix.proofs.Firsts.{SameMembers}
use Rattle.hk_fix.proofs.Trails.{in-left, in-here}

-- the same numbers are in both
pub same-on : (n : ℕ) (s t : List ℕ) → SameMembers s t → SameMembers (n ∷ s) (n ∷ t)
same-on n s t h m = ap (λ b. nat_eq m n || b) (h m)

pub same-more : (xs s t : List ℕ) → SameMembers s t → SameMembers (xs ++ s) (xs ++ t)
same-more [] s t h m = h m
same-more (x ∷ xs) s t h m = ap (λ b. nat_eq m x || b) (same-more xs s t h m)

swap : (a b c : Bool) → (a || (b || c)) ≡ (b || (a || c))
swap true true c = refl
swap true false c = refl
swap false b c = refl

pub same-swap : (x : ℕ) (xs s : List ℕ) → SameMembers (xs ++ x ∷ s) (x ∷ xs ++ s)
same-swap x [] s m = refl
same-swap x (y ∷ xs) s m = ap (λ b. nat_eq m y || b) (same-swap x xs s m) ∙ swap (nat_eq m y) (nat_eq m x) (is_in (xs ++ s) m)

is-there : (s : List ℕ) (x : ℕ) → is_in s x ≡ true → SameMembers (x ∷ s) s
is-there s x i m = at (nat_eq m x) refl
  where
    at : (b : Bool) → nat_eq m x ≡ b → (b || is_in s m) ≡ is_in s m
    at true e = sym (rw (eqb-true m x e) i)
    at false e = refl

-- what is seen after a list
pub seen-firsts : (s xs : List ℕ) → SameMembers (firsts s xs ++ s) (xs ++ s)
seen-firsts s [] = λ m. refl
seen-firsts s (x ∷ xs) =
    elim (is_in s x) as (λ b. is_in s x ≡ b → SameMembers (cond b (firsts s xs) (x ∷ firsts (x ∷ s) xs) ++ s) (x ∷ xs ++ s)) [
      | true ↦ λ e m. seen-firsts s xs m ∙ (sym (same-more xs (x ∷ s) s (is-there s x e) m) ∙ same-swap x xs s m)
      | false ↦ λ e m. sym (same-swap x (firsts (x ∷ s) xs) s m) ∙ (seen-firsts (x ∷ s) xs m ∙ same-swap x xs s m)
    ] refl

-- nothing is first where all is seen
pub firsts-seen : (s xs : List ℕ) → AllByRecursion (λ x. is_in s x ≡ true) xs → firsts s xs ≡ []
firsts-seen s [] h = refl
firsts-seen s (x ∷ xs) h = rw h.0 (firsts-seen s xs h.1)

pub all-in-left : (xs s : List ℕ) → AllByRecursion (λ x. is_in (xs ++ s) x ≡ true) xs
all-in-left xs s = go xs (λ x e. in-left xs s x e)
  where
    go : (ys : List ℕ) → ((x : ℕ) → is_in ys x ≡ true → is_in (xs ++ s) x ≡ true) → AllByRecursion (λ x. is_in (xs ++ s) x ≡ true) ys
    go [] f = tt
    go (y ∷ ys) f = (f y (in-here ys y), go ys (λ x e. f x (or_right (nat_eq x y) (is_in ys x) e)))

-- the firsts of firsts
pub firsts-twice : (s t xs : List ℕ) → SameMembers s t → firsts s (firsts t xs) ≡ firsts t xs
firsts-twice s t [] h = refl
firsts-twice s t (x ∷ xs) h =
    elim (is_in t x) as (λ b. is_in t x ≡ b → firsts s (cond b (firsts t xs) (x ∷ firsts (x ∷ t) xs)) ≡ cond b (firsts t xs) (x ∷ firsts (x ∷ t) xs)) [
      | true ↦ λ e. firsts-twice s t xs h
      | false ↦ λ e. rw (h x, e) (ap (λ l. x ∷ l) (firsts-twice (x ∷ s) (x ∷ t) xs (same-on x s t h)))
    ] refl

-- what holds of the seen and of the firsts holds of all
pub all-at : (P : ℕ → Type 0) (s : List ℕ) (x : ℕ) → AllByRecursion P s → is_in s x ≡ true → P x
all-at P [] x h i = cc
all-at P (y ∷ s) x h i =
    elim (or_cases (nat_eq x y) (is_in s x) i) [
      | inl e ↦ subst P (sym (eqb-true x y e)) h.0
      | inr e ↦ all-at P s x h.1 e
    ]

pub all-of-firsts : (P : ℕ → Type 0) (s xs : List ℕ) → AllByRecursion P s → AllByRecursion P (firsts s xs) → AllByRecursion P xs
all-of-firsts P s [] h f = tt
all-of-firsts P s (x ∷ xs) h f =
    elim (is_in s x) as (λ b. is_in s x ≡ b → AllByRecursion P (cond b (firsts s xs) (x ∷ firsts (x ∷ s) xs)) → P x × AllByRecursion P xs) [
      | true ↦ λ e g. (all-at P s x h e, all-of-firsts P s xs h g)
      | false ↦ λ e g. (g.0, all-of-firsts P (x ∷ s) xs (g.0, h) g.1)
    ] refl f

pub all-front : (P : ℕ → Type 0) (a b : List ℕ) → AllByRecursion P (a ++ b) → AllByRecursion P a
all-front P [] b h = tt
all-front P (p ∷ a) b h = (h.0, all-front P a b h.1)

pub all-back : (P : ℕ → Type 0) (a b : List ℕ) → AllByRecursion P (a ++ b) → AllByRecursion P b
all-back P [] b h = h
all-back P (p ∷ a) b h = all-back P a b h.1

pub all-append : (P : ℕ → Type 0) (a b : List ℕ) → AllByRecursion P a → AllByRecursion P b → AllByRecursion P (a ++ b)
all-append P [] b x y = y
all-append P (p ∷ a) b x y = (x.0, all-append P a b x.1 y)

-- a renaming that keeps apart
module _ (f : ℕ → ℕ) (Q : ℕ → Type 0) (apart : (a b : ℕ) → Q a → Q b → nat_eq (f a) (f b) ≡ nat_eq a b) where
  in-map : (s : List ℕ) (x : ℕ) → AllByRecursion Q s → Q x → is_in (map f s) (f x) ≡ is_in s x
  in-map [] x h q = refl
  in-map (y ∷ s) x h q = rw (apart x y q h.0, in-map s x h.1 q) refl

  pub firsts-map : (s xs : List ℕ) → AllByRecursion Q s → AllByRecursion Q xs → firsts (map f s) (map f xs) ≡ map f (firsts s xs)
  firsts-map s [] h g = refl
  firsts-map s (x ∷ xs) h g =
      rw (in-map s x h g.0)
      (elim (is_in s x) as (λ b. cond b (firsts (map f s) (map f xs)) (f x ∷ firsts (map f (x ∷ s)) (map f xs)) ≡ map f (cond b (firsts s xs) (x ∷ firsts (x ∷ s) xs))) [
        | true ↦ firsts-map s xs h g.1
        | false ↦ ap (λ l. f x ∷ l) (firsts-map (x ∷ s) xs (g.0, h) g.1)
      ])

-- the pairs that lack among the firsts are those that lack at all, where the seen are known
pub lacking-firsts : (k : Pages) (s xs : List ℕ) → IsDistinct nat_eq xs → AllByRecursion (λ x. is_in s x ≡ true → is_none (k x) ≡ false) xs → lacking k (firsts s xs) ≡ lacking k xs
unfolding IsDistinct
lacking-firsts k s [] d h = refl
lacking-firsts k s (x ∷ xs) d h =
    elim (is_in s x) as (λ b. is_in s x ≡ b → lacking k (cond b (firsts s xs) (x ∷ firsts (x ∷ s) xs)) ≡ lacking k (x ∷ xs)) [
      | true ↦ λ e. rw (h.0 e) (lacking-firsts k s xs d.1 h.1)
      | false ↦ λ e. rw (lacking-firsts k (x ∷ s) xs d.1 (more xs d.0 h.1)) refl
    ] refl
  where
    more : (ys : List ℕ) → AllByRecursion (λ y. nat_eq x y ≡ false) ys → AllByRecursion (λ y. is_in s y ≡ true → is_none (k y) ≡ false) ys
        → AllByRecursion (λ y. is_in (x ∷ s) y ≡ true → is_none (k y) ≡ false) ys
    more [] a b = tt
    more (y ∷ ys) a b = (λ e. elim (or_cases (nat_eq y x) (is_in s y) e) [ inl t ↦ clash (nat_eq x y) a.0 (eq-eqb x y (sym (eqb-true y x t))) | inr t ↦ b.0 t ], more ys a.1 b.1)
