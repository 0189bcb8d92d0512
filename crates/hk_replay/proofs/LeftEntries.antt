-- What a build leaves: a plan's keys, traits and matches, and one item's entry more at a time.
use Rattle.std.proofs.Common.{◌≡◌, refl, sym, ap, subst, ◌∙◌, arith, ℕ, zero, suc, ◌+◌, ◌<◌, List, [], ◌∷◌, ◌++◌, length, map, get_or, Option, Some, None, option_map}
use Rattle.std.specs.Prelude.{filter_map}
use Rattle.std.specs.List.{AllByRecursion, cons_option}
use Rattle.std.specs.Option.{unwrap_or}
use Rattle.std.proofs.lemmas.List.{get_or-map}
use Rattle.hk_base.specs.Bytes.{Bytes}
use Rattle.hk_chain.specs.Facts.{FactsView}
use Rattle.hk_eval.specs.PlanTable.{table_of, traits_at, pattern_texts}
use Rattle.hk_eval.proofs.PlanNames.{found-at, plan-is_told}
use Rattle.hk_fix.specs.Fix.{Ending, finished, faulted, waiting}
use Rattle.hk_fix.specs.Pages.{Pages}
use Rattle.hk_fix.specs.Report.{upto}
use Rattle.hk_fix.specs.Table.{Key, no_traits}
use Rattle.hk_pattern.specs.declared.pattern.Pattern.TheVariants.{HasNoVersion}
use Rattle.hk_rules.specs.LinkedPlan.{IsLinkedPlan}
use Rattle.hk_rules.specs.Pairs.{layout}
use Rattle.hk_rules.specs.PatternText.{text_of}
use Rattle.hk_rules.specs.Plan.{id_at, matches_in, pattern_at, pair_owner, pair_name_of, lookups}
use Rattle.hk_rules.specs.PlanView.{PlanView, IsPlan}
use Rattle.hk_store.specs.Digests.{Digests}
use Rattle.hk_store.specs.Entry.{EntryView}
use Rattle.hk_reuse.specs.Image.{entry_by, entry_with}
use Rattle.hk_reuse.specs.Site.{Items}
use Rattle.hk_replay.specs.Storing.{facts_by}

pub layout-lookups : (plan : PlanView) → (lookups plan).layout ≡ layout plan.items
unfolding lookups
layout-lookups plan = refl

pub key-same : (plan : PlanView) (p : ℕ) → (table_of plan).key p ≡ (let key : Key = record { id = id_at plan (pair_owner plan p); name = pair_name_of plan p } in key)
unfolding table_of
key-same plan p = refl

pub name-same : (plan : PlanView) (p : ℕ) → (lookups plan).pair_name p ≡ pair_name_of plan p
unfolding lookups
name-same plan p = refl

pub traits-own : (plan : PlanView) → IsPlan plan → (item : ℕ) → item < length plan.items → (table_of plan).traits (id_at plan item) ≡ traits_at plan item
unfolding table_of
traits-own plan is item lt = ap (λ o. unwrap_or (option_map (traits_at plan) o) no_traits) (found-at plan is item lt)

pub pattern-own : (plan : PlanView) (n : ℕ) → (table_of plan).pattern n ≡ text_of (pattern_at plan n)
unfolding table_of
pattern-own plan n = refl

pub matches-own : (plan : PlanView) → IsPlan plan → IsLinkedPlan plan → (n : ℕ) → n < length plan.patterns → (table_of plan).matches (text_of (pattern_at plan n)) ≡ map (id_at plan) (matches_in plan.items (pattern_at plan n))
unfolding lookups
matches-own plan is linked n lt = (plan-is_told plan is linked).matches n lt

pub text-at : (plan : PlanView) (texts : List Bytes) (n : ℕ) → texts ≡ pattern_texts plan → n < length plan.patterns → get_or texts n [] ≡ text_of (pattern_at plan n)
text-at plan texts n e lt = ap (λ l. get_or l n []) e ∙ get_or-map text_of plan.patterns n HasNoVersion [] lt

pub all-mapped : {A B : Type 0} (P : B → Type 0) (f : A → B) (xs : List A) (i : ℕ) (x : A) → AllByRecursion P (map f xs) → i < length xs → x ≡ get_or xs i x → P (f x)
all-mapped P f [] i x h lt e = absurd (omega (arith, lt))
all-mapped P f (y ∷ xs) zero x h lt e = subst (λ z. P (f z)) (sym e) h.0
all-mapped P f (y ∷ xs) (suc i) x h lt e = all-mapped P f xs i x h.1 (omega (arith, lt)) e

map-filter-append : {A B : Type 0} (f : A → Option B) (xs ys : List A) → filter_map f (xs ++ ys) ≡ filter_map f xs ++ filter_map f ys
map-filter-append f [] ys = refl
map-filter-append f (x ∷ xs) ys = at (f x) (map-filter-append f xs ys)
  where
    at : (o : Option _) → filter_map f (xs ++ ys) ≡ filter_map f xs ++ filter_map f ys → cons_option o (filter_map f (xs ++ ys)) ≡ cons_option o (filter_map f xs) ++ filter_map f ys
    at None e = e
    at (Some y) e = ap (λ l. y ∷ l) e

module _ (dig : Digests) (items : Items) (ends : ℕ → Ending) (k : Pages) where
  entry-is : (i : ℕ) (end : Ending) → entry_by dig items ends k i end ≡ option_map (entry_with dig items ends k i) (facts_by end)
  entry-is i (finished facts) = refl
  entry-is i (faulted e) = refl
  entry-is i (waiting ps) = refl

  -- the entry of one item more, if it is done
  pub leaves-turn : (n : ℕ) (o : Option FactsView) → o ≡ facts_by (ends n) → filter_map (λ i. entry_by dig items ends k i (ends i)) (upto (n + 1)) ≡ filter_map (λ i. entry_by dig items ends k i (ends i)) (upto n) ++ cons_option (option_map (entry_with dig items ends k n) o) []
  leaves-turn n o e =
      let f : ℕ → Option EntryView = λ i. entry_by dig items ends k i (ends i) in
      let next : n + 1 ≡ suc n = omega arith in
      ap (λ m. filter_map f (upto m)) next ∙ (map-filter-append f (upto n) (n ∷ []) ∙ ap (λ x. filter_map f (upto n) ++ cons_option x []) (entry-is n (ends n) ∙ ap (option_map (entry_with dig items ends k n)) (sym e)))
