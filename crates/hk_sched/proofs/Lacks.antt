-- The pairs that aren't known, and the first of them.
use Rattle.std.proofs.Common.{◌≡◌, refl, sym, ap, ◌∙◌, ℕ, zero, suc, ◌+◌, ◌<◌, true, false, cond, not, ◌⊎◌, inl, inr, List, [], ◌∷◌, length, take, Option, Some, None, is_some, is_none, nat_eq, arith, eqb-true, ne_eqb, slice_index}
use Rattle.hk_fix.specs.Pages.{Pages, lacking}
use Rattle.hk_fix.proofs.Orders.{clash, decide}
use Rattle.hk_sched.specs.declared.stacks.Stack.{Stack}
use Rattle.hk_sched.specs.declared.stacks.Stack.TheVariants.{Fresh, Woken, Waiting}
use Rattle.hk_sched.specs.Stacks.{is_on}
use Rattle.hk_sched.specs.Standings.{stack_at}

pub none-is : {A : Type 0} (o : Option A) → is_none o ≡ not (is_some o)
none-is None = refl
none-is (Some x) = refl

pub lacks-at : (k : Pages) (ps : List ℕ) (n : ℕ) → lacking k (take n ps) ≡ [] → n < length ps → k (slice_index ps n) ≡ None → stack_at (lacking k ps) ≡ Waiting (slice_index ps n)
lacks-at k [] n e lt none = absurd (omega arith)
lacks-at k (p ∷ ps) zero e lt none = rw none refl
lacks-at k (p ∷ ps) (suc n) e lt none =
    elim (is_none (k p)) as (λ b. cond b (p ∷ lacking k (take n ps)) (lacking k (take n ps)) ≡ [] → stack_at (cond b (p ∷ lacking k ps) (lacking k ps)) ≡ Waiting (slice_index ps n)) [
      | true ↦ λ q. cc
      | false ↦ λ q. lacks-at k ps n q (omega (arith, lt)) none
    ] e

pub lacks-first : (k : Pages) (ps : List ℕ) (q : ℕ) → stack_at (lacking k ps) ≡ Waiting q → k q ≡ None
lacks-first k [] q e = cc
lacks-first k (p ∷ ps) q e =
    elim (k p) as (λ o. k p ≡ o → stack_at (cond (is_none o) (p ∷ lacking k ps) (lacking k ps)) ≡ Waiting q → k q ≡ None) [
      | None ↦ λ h s. (let same : p ≡ q = cc in ap k (sym same) ∙ h)
      | Some x ↦ λ h s. lacks-first k ps q s
    ] refl e

-- a known pair is no first one that isn't
pub not-first : (k : Pages) (ps : List ℕ) (q : ℕ) → is_some (k q) ≡ true → is_on (Waiting q) (Some (stack_at (lacking k ps))) ≡ false
not-first k ps q has = go (stack_at (lacking k ps)) refl
  where
    go : (s : Stack) → stack_at (lacking k ps) ≡ s → is_on (Waiting q) (Some s) ≡ false
    go Fresh e = ne_eqb (q + 2) 0 (λ h. omega arith)
    go Woken e = ne_eqb (q + 2) 1 (λ h. omega arith)
    go (Waiting r) e =
        let none : k r ≡ None = lacks-first k ps r e in
        ne_eqb (q + 2) (r + 2) (λ h. let same : q ≡ r = omega arith in clash (is_some (k r)) (ap is_some none) (ap (λ j. is_some (k j)) (sym same) ∙ has))

pub lacks-fewer : (k m : Pages) (ps : List ℕ) → ((q : ℕ) → is_none (k q) ≡ false → is_none (m q) ≡ false) → lacking k ps ≡ [] → lacking m ps ≡ []
lacks-fewer k m [] f e = refl
lacks-fewer k m (p ∷ ps) f e =
    elim (is_none (k p)) as (λ b. is_none (k p) ≡ b → cond b (p ∷ lacking k ps) (lacking k ps) ≡ [] → lacking m (p ∷ ps) ≡ []) [
      | true ↦ λ h q. cc
      | false ↦ λ h q. rw (f p h) (lacks-fewer k m ps f q)
    ] refl e

-- where one more pair is known, only the stack of its own waiters changes
pub stack-moves : (k m : Pages) (p : ℕ) → ((q : ℕ) → nat_eq q p ≡ false → m q ≡ k q) → is_some (m p) ≡ true → (ps : List ℕ) → (stack_at (lacking k ps) ≡ stack_at (lacking m ps)) ⊎ (stack_at (lacking k ps) ≡ Waiting p)
stack-moves k m p others has [] = inl refl
stack-moves k m p others has (q ∷ ps) =
    elim (decide (nat_eq q p)) [
      | inl t ↦
          let known : is_none (m q) ≡ false = none-is (m q) ∙ ap (λ j. not (is_some (m j))) (eqb-true q p t) ∙ ap not has in
          elim (is_none (k q)) as (λ b. (stack_at (cond b (q ∷ lacking k ps) (lacking k ps)) ≡ stack_at (lacking m (q ∷ ps))) ⊎ (stack_at (cond b (q ∷ lacking k ps) (lacking k ps)) ≡ Waiting p)) [
            | true ↦ inr (ap Waiting (eqb-true q p t))
            | false ↦ rw known (stack-moves k m p others has ps)
          ]
      | inr f ↦
          rw (others q f) (elim (is_none (k q)) as (λ b. (stack_at (cond b (q ∷ lacking k ps) (lacking k ps)) ≡ stack_at (cond b (q ∷ lacking m ps) (lacking m ps))) ⊎ (stack_at (cond b (q ∷ lacking k ps) (lacking k ps)) ≡ Waiting p)) [
            | true ↦ inl refl
            | false ↦ stack-moves k m p others has ps
          ])
    ]
