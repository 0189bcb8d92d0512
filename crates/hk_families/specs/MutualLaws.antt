-- The small family keeps the laws.
use Rattle.std.proofs.Common.{◌≡◌, ◌≢◌, refl, sym, ap, ◌∙◌, subst, arith, ℕ, zero, suc, ◌<◌, Bool, true, false, cond, List, [], ◌∷◌, length, Option, Some, None, is_some, nat_eq}
use Rattle.std.specs.List.{AllByRecursion, IsDistinct, list_any}
use Rattle.hk_chain.specs.declared.page.Page.{Page}
use Rattle.hk_chain.specs.Layout.{IsShape, pairs, item_of, final_of}
use Rattle.hk_chain.proofs.Layouts.{counts-layout}
use Rattle.hk_fix.specs.Run.{IsRun}
use Rattle.hk_fix.specs.Chains.{AllGroups, Saves}
use Rattle.hk_fix.specs.ChainLaws.{chains-run}
use Rattle.hk_families.specs.Mutual.{mutual_shape, own_pair, last_pair, other_pair, mutual_task, mutual_run}

pub mutual-is_shape : IsShape mutual_shape
mutual-is_shape = (counts-layout (1 ∷ 1 ∷ []) (omega arith) (omega arith)).shape

distinct : (c : Bool) (i : ℕ) → AllGroups (IsDistinct nat_eq) (mutual_task c i)
unfolding IsDistinct
distinct true i = ((tt, tt), λ xs. tt)
distinct false i = ((tt, tt), λ xs. tt)

within : (c : Bool) (i : ℕ) → AllGroups (AllByRecursion (λ p. p < pairs mutual_shape)) (mutual_task c i)
within true zero = ((omega arith, tt), λ xs. tt)
within true (suc n) = ((omega arith, tt), λ xs. tt)
within false zero = ((omega arith, tt), λ xs. tt)
within false (suc n) = ((omega arith, tt), λ xs. tt)

saving : (c : Bool) (i : ℕ) → Saves (own_pair i ∷ []) (mutual_task c i)
saving true i = (refl, λ xs. tt)
saving false i = λ xs. (refl, tt)

own-is : (i : ℕ) → i < 2 → (own_pair i < 4) × (item_of mutual_shape (own_pair i) ≡ i) × (own_pair i ≢ final_of mutual_shape i)
own-is zero lt = (omega arith, refl, λ e. omega arith)
own-is (suc zero) lt = (omega arith, refl, λ e. omega arith)
own-is (suc (suc n)) lt = absurd (omega arith)

all-are : (i p : ℕ) → p < 4 → item_of mutual_shape p ≡ i → p ≢ final_of mutual_shape i → list_any (nat_eq p) (own_pair i ∷ []) ≡ true
all-are i zero lt e ne = subst (λ (n : ℕ). list_any (nat_eq 0) (own_pair n ∷ []) ≡ true) e refl
all-are i (suc zero) lt e ne = absurd (subst (λ (n : ℕ). 1 ≢ final_of mutual_shape n) (sym e) ne refl)
all-are i (suc (suc zero)) lt e ne = subst (λ (n : ℕ). list_any (nat_eq 2) (own_pair n ∷ []) ≡ true) e refl
all-are i (suc (suc (suc zero))) lt e ne = absurd (subst (λ (n : ℕ). 3 ≢ final_of mutual_shape n) (sym e) ne refl)
all-are i (suc (suc (suc (suc n)))) lt e ne = absurd (omega arith)

pub mutual-is_run : (c : Bool) → IsRun mutual_shape (mutual_run c)
mutual-is_run c =
    chains-run mutual_shape (mutual_task c) (λ i. own_pair i ∷ []) (record {
      distinct = λ i lt. distinct c i;
      within = λ i lt. within c i;
      saves = λ i lt. saving c i;
      in_order = λ i lt. record {
        own = (own-is i lt, tt);
        rising = (tt, tt);
        all = λ p below of ne. all-are i p below of ne;
      };
    })
