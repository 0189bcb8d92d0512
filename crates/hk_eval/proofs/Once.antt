-- A rendering asks for no pair twice in a group.
use Rattle.std.proofs.Common.{◌≡◌, refl, sym, ap, ◌∙◌, subst, ℕ, ◌<◌, List, [], ◌∷◌, length, Option, Some, None, Result, Ok, Err, true, false, nat_eq, eqb-true, eq-eqb}
use Rattle.std.specs.List.{AllByRecursion, IsDistinct}
use Rattle.hk_base.specs.Bytes.{Bytes}
use Rattle.hk_fix.specs.Chains.{AllGroups}
use Rattle.hk_rules.specs.Plan.{Lookups, lookups, pattern_at, pair_owner}
use Rattle.hk_rules.specs.PlanView.{PlanView}
use Rattle.hk_rules.proofs.ItemNumbers.{matches_in-below, matches_in-distinct}
use Rattle.hk_rules.proofs.PairNumbers.{pair_of-own}
use Rattle.hk_template.specs.Tree.{Nodes}
use Rattle.hk_eval.specs.Asking.{with_pair, pairs_of}
use Rattle.hk_eval.specs.Laws.{groups-render}
use Rattle.hk_eval.specs.Rendering.{render}
use Rattle.hk_eval.specs.declared.place.Place.{Place}

-- the pair of an item and those of the others
with-ok : (item : ℕ) (o : Option ℕ) (rest : Result (List ℕ) ℕ) (ps : List ℕ) → with_pair item o rest ≡ Ok ps → (p : ℕ) × (qs : List ℕ) × (o ≡ Some p) × (rest ≡ Ok qs) × (ps ≡ p ∷ qs)
with-ok item None rest ps e = cc
with-ok item (Some p) (Err other) ps e = cc
with-ok item (Some p) (Ok qs) ps e = (p, qs, refl, refl, cc)

-- each pair of an item of the plan has that owner
module _ (plan : Lookups) (items : ℕ) (owner : ℕ → ℕ) (owned : (i : ℕ) (name : Bytes) (p : ℕ) → i < items → plan.pair i name ≡ Some p → owner p ≡ i) where
  pairs-other : (name : Bytes) (i p : ℕ) (is ps : List ℕ) → i < items → plan.pair i name ≡ Some p → AllByRecursion (λ j. j < items) is → AllByRecursion (λ j. nat_eq i j ≡ false) is → pairs_of plan name is ≡ Ok ps → AllByRecursion (λ q. nat_eq p q ≡ false) ps
  pairs-other name i p [] ps lt at h d e = let q : [] ≡ ps = cc in subst (AllByRecursion (λ r. nat_eq p r ≡ false)) q tt
  pairs-other name i p (j ∷ is) ps lt at h d e =
      let w = with-ok j (plan.pair j name) (pairs_of plan name is) ps e in
      subst (AllByRecursion (λ r. nat_eq p r ≡ false)) (sym w.4) (other i j w.0 d.0 (owned i name p lt at) (owned j name w.0 h.0 w.2), pairs-other name i p is w.1 lt at h.1 d.1 w.3)
    where
      other : (a b q : ℕ) → nat_eq a b ≡ false → owner p ≡ a → owner q ≡ b → nat_eq p q ≡ false
      other a b q ne l r = elim (nat_eq p q) as (λ t. nat_eq p q ≡ t → t ≡ false) [
        | true ↦ λ t. let s : p ≡ q = eqb-true p q t in let z : a ≡ b = sym l ∙ (ap owner s ∙ r) in let y : nat_eq a b ≡ true = eq-eqb a b z in cc
        | false ↦ λ t. refl
      ] refl

  pub pairs-distinct : (name : Bytes) (is ps : List ℕ) → AllByRecursion (λ i. i < items) is → IsDistinct nat_eq is → pairs_of plan name is ≡ Ok ps → IsDistinct nat_eq ps
  unfolding IsDistinct
  pairs-distinct name [] ps h d e = let q : [] ≡ ps = cc in subst (IsDistinct nat_eq) q tt
  pairs-distinct name (i ∷ is) ps h d e =
      let w = with-ok i (plan.pair i name) (pairs_of plan name is) ps e in
      subst (IsDistinct nat_eq) (sym w.4) (pairs-other name i w.0 is w.1 h.0 w.2 h.1 d.0 w.3, pairs-distinct name is w.1 h.1 d.1 w.3)

one-distinct : (p : ℕ) → IsDistinct nat_eq (p ∷ [])
unfolding IsDistinct
one-distinct p = (tt, tt)

pub render-once : (plan : PlanView) (tree : Nodes) (here : Place) → AllGroups (IsDistinct nat_eq) (render (lookups plan) tree here)
unfolding lookups
render-once plan tree here =
    groups-render (IsDistinct nat_eq) (lookups plan) (λ id name i p f e. one-distinct p)
    (λ n name ps e. pairs-distinct (lookups plan) (length plan.items) (pair_owner plan) (λ i name p lt e. (pair_of-own plan i name p lt e).1) name ((lookups plan).matches n) ps (matches_in-below plan.items (pattern_at plan n)) (matches_in-distinct plan.items (pattern_at plan n)) e) tree here
