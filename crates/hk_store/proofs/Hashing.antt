-- Hashes that are kept for the items of a chain, and lists to whose end is pushed.
use Rattle.std.proofs.Common.{◌≡◌, ap, arith, ℕ, zero, suc, ◌+◌, ◌<◌, List, [], ◌∷◌, ◌++◌, length, map, take, get_or, codes}
use Rattle.std.specs.List.{AllByRecursion}
use Rattle.hk_forms.specs.PatternText.{str}
use Rattle.hk_rules.specs.Plan.{lookups}
use Rattle.hk_rules.specs.PlanView.{PlanView}
use Rattle.hk_rules.specs.Recipe.{named_step, named_context, reached, recipe_of}
use Rattle.hk_store.specs.RecipeText.{chain_text, context_text, step_text}
use Rattle.hk_store.specs.Told.{many}

-- items of one chain have the same in front
pub same-front : (plan : PlanView) (i j : ℕ) → (lookups plan).chain i ≡ (lookups plan).chain j → chain_text (recipe_of plan i) ≡ chain_text (recipe_of plan j)
unfolding recipe_of
same-front plan i j e = ap (λ chain. str (codes "chain") ++ (many step_text (map (named_step (lookups plan)) chain) ++ many context_text (map (named_context (lookups plan)) (reached (lookups plan) (length plan.contexts) chain)))) e

pub all-taken : {A : Type 0} (P : A → Type 0) (n : ℕ) (xs : List A) → AllByRecursion P xs → AllByRecursion P (take n xs)
all-taken P zero xs h = tt
all-taken P (suc n) [] h = tt
all-taken P (suc n) (x ∷ xs) h = (h.0, all-taken P n xs h.1)

-- one more at the end
pub get-pushed : {A : Type 0} (xs : List A) (x d : A) (P : ℕ → A) → ((i : ℕ) → i < length xs → get_or xs i d ≡ P i) → x ≡ P (length xs) → (i : ℕ) → i < length xs + 1 → get_or (xs ++ x ∷ []) i d ≡ P i
get-pushed [] x d P h e zero lt = e
get-pushed [] x d P h e (suc i) lt = absurd (omega (arith, lt))
get-pushed (y ∷ xs) x d P h e zero lt = h 0 (omega arith)
get-pushed (y ∷ xs) x d P h e (suc i) lt = get-pushed xs x d (λ j. P (suc j)) (λ j l. h (suc j) (omega (arith, l))) e i (omega (arith, lt))
