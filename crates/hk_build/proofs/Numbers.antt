-- Lists over the numbers below another, and the layout of a plan.
use Rattle.std.proofs.Common.{◌≡◌, refl, sym, ap, ◌∙◌, subst, arith, ℕ, zero, suc, ◌+◌, ◌<◌, ◌≤◌, List, [], ◌∷◌, ◌++◌, append-nil, length, map, get_or, Some, ◌⊎◌, inl, inr}
use Rattle.std.specs.List.{slice_get, flat_map}
use Rattle.std.proofs.lemmas.Bool.{cases_lt}
use Rattle.std.proofs.lemmas.Grind.{flat_map-append}
use Rattle.std.proofs.lemmas.List.{same_lists, get_or_push, length-append, length-map, map-append}
use Rattle.std.proofs.lemmas.Option.{get_or_from_slice_get}
use Rattle.std.proofs.Math.ListN.{get_or-append}
use Rattle.hk_fix.specs.Report.{upto}
use Rattle.hk_machine.specs.Machine.{plan_shape}
use Rattle.hk_rules.specs.Pairs.{count_of, layout}
use Rattle.hk_rules.specs.Plan.{lookups}
use Rattle.hk_rules.specs.PlanView.{PlanView}

module _ {X : Type 0} (f : ℕ → X) where
  pub count-upto : (n : ℕ) → length (map f (upto n)) ≡ n
  count-upto zero = refl
  count-upto (suc n) = ap length (map-append f (upto n) (n ∷ [])) ∙ length-append (map f (upto n)) (f n ∷ []) ∙ omega (arith, count-upto n)

  pub at-upto : (n k : ℕ) (d : X) → k < n → get_or (map f (upto n)) k d ≡ f k
  at-upto zero k d lt = absurd (omega arith)
  at-upto (suc n) k d lt = ap (λ l. get_or l k d) (map-append f (upto n) (n ∷ [])) ∙ side (at-upto n k d) (cases_lt k n)
    where
      side : (k < n → get_or (map f (upto n)) k d ≡ f k) → (k < n) ⊎ (n ≤ k) → get_or (map f (upto n) ++ f n ∷ []) k d ≡ f k
      side before (inl l) = get_or-append (map f (upto n)) (f n ∷ []) d k (subst (λ m. k < m) (sym (count-upto n)) l) ∙ before l
      side before (inr l) = let e : n ≡ k = omega arith in get_or_push (map f (upto n)) (f n) d k (count-upto n ∙ e) ∙ ap f e

  -- the list that has these at its places
  pub all-upto : (n : ℕ) (xs : List X) → length xs ≡ n → ((i : ℕ) → i < n → slice_get xs i ≡ Some (f i)) → xs ≡ map f (upto n)
  all-upto n xs count each =
      same_lists xs (map f (upto n)) (count ∙ sym (count-upto n))
      (λ k d lt. let l : k < n = subst (λ m. k < m) count lt in get_or_from_slice_get xs k (f k) d (each k l) ∙ sym (at-upto n k d l))

pub map-upto : {X : Type 0} (f g : ℕ → X) (n : ℕ) → ((i : ℕ) → i < n → f i ≡ g i) → map f (upto n) ≡ map g (upto n)
map-upto f g zero each = refl
map-upto f g (suc n) each =
    map-append f (upto n) (n ∷ [])
    ∙ ap (λ l. l ++ f n ∷ []) (map-upto f g n (λ i lt. each i (omega arith)))
    ∙ ap (λ x. map g (upto n) ++ x ∷ []) (each n (omega arith))
    ∙ sym (map-append g (upto n) (n ∷ []))

module _ {X : Type 0} (f g : ℕ → List X) where
  pub flat-upto : (n : ℕ) → ((i : ℕ) → i < n → f i ≡ g i) → flat_map f (upto n) ≡ flat_map g (upto n)
  flat-upto zero each = refl
  flat-upto (suc n) each =
      flat_map-append f (upto n) (n ∷ [])
      ∙ ap (λ l. l ++ flat_map f (n ∷ [])) (flat-upto n (λ i lt. each i (omega arith)))
      ∙ ap (λ l. flat_map g (upto n) ++ (l ++ [])) (each n (omega arith))
      ∙ sym (flat_map-append g (upto n) (n ∷ []))

pub flat-more : {X : Type 0} (f : ℕ → List X) (i : ℕ) → flat_map f (upto (i + 1)) ≡ flat_map f (upto i) ++ f i
flat-more f i =
    let e : i + 1 ≡ suc i = omega arith in
    ap (λ n. flat_map f (upto n)) e ∙ flat_map-append f (upto i) (i ∷ []) ∙ ap (λ l. flat_map f (upto i) ++ l) (append-nil (f i))

pub shape-items : (plan : PlanView) → (plan_shape plan).items ≡ length plan.items
unfolding lookups
shape-items plan = length-map plan.items count_of

-- the layout of a plan, in its two forms
pub shape-is : (plan : PlanView) → plan_shape plan ≡ layout plan.items
unfolding lookups
shape-is plan = refl
