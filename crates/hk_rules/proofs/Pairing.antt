-- The pairs of items and the items of a pattern, one after another.
use Rattle.std.proofs.Common.{◌≡◌, ℕ, suc, ◌+◌, ◌*◌, ◌<◌, ◌≤◌, Bool, cond, List, [], ◌∷◌, ◌++◌, length, take, get_or, replicate, Option, Some, None, refl, sym, ap, ◌∙◌, arith, zero-add, filter, length-append}
use Rattle.std.specs.List.{AllByRecursion, range_with_len, cons_option}
use Rattle.std.specs.Option.{is_some, option_map}
use Rattle.std.proofs.lemmas.List.{take_more, map-id, map-append, length-replicate}
use Rattle.std.proofs.lemmas.List.Elements.{filter_map-append, filter-append}
use Rattle.std.proofs.lemmas.List.FromFn.{map-range_with_len_more}
use Rattle.hk_base.specs.Bytes.{Bytes}
use Rattle.hk_base.specs.Identifier.{Ident}
use Rattle.hk_chain.specs.Counts.{pair_items, layout_of}
use Rattle.hk_chain.specs.Layout.{pairs}
use Rattle.hk_chain.specs.declared.chain.Step.{Step}
use Rattle.hk_rules.specs.Pairs.{saved, saves, IsShort, count_of, counts}
use Rattle.hk_rules.specs.declared.owner.Owner.{Owner}

pub is_some-map : {A B : Type 0} (f : A → B) (o : Option A) → is_some (option_map f o) ≡ is_some o
is_some-map f None = refl
is_some-map f (Some x) = refl

one : (o : Option Bytes) → length (cons_option o []) ≡ cond (is_some o) 1 0
one None = refl
one (Some x) = refl

-- one more step
pub count-turn : (steps : List Step) (i : ℕ) (step : Step) (b : Bool) → i < length steps → step ≡ get_or steps i step → is_some (saved step) ≡ b → length (saves (take (i + 1) steps)) ≡ length (saves (take i steps)) + cond b 1 0
count-turn steps i step b h at is =
    ap (λ xs. length (saves xs)) (take_more steps i step h)
    ∙ ap length (filter_map-append saved (take i steps) (get_or steps i step ∷ []))
    ∙ length-append (saves (take i steps)) (saves (get_or steps i step ∷ []))
    ∙ ap (λ s. length (saves (take i steps)) + length (saves (s ∷ []))) (sym at)
    ∙ ap (λ n. length (saves (take i steps)) + n) (one (saved step) ∙ ap (λ c. cond c 1 0) is)

range-push : (n : ℕ) → range_with_len 0 (n + 1) ≡ range_with_len 0 n ++ n ∷ []
range-push n = sym (map-id (range_with_len 0 (n + 1))) ∙ map-range_with_len_more (λ k. k) 0 n n (zero-add n) ∙ ap (λ r. r ++ n ∷ []) (map-id (range_with_len 0 n))

-- one more number
pub filter-turn : (test : ℕ → Bool) (n : ℕ) (b : Bool) → test n ≡ b → filter test (range_with_len 0 (n + 1)) ≡ filter test (range_with_len 0 n) ++ cond b (n ∷ []) []
filter-turn test n b is =
    ap (filter test) (range-push n)
    ∙ filter-append test (range_with_len 0 n) (n ∷ [])
    ∙ ap (λ c. filter test (range_with_len 0 n) ++ cond c (n ∷ []) []) is

-- one more item
pub counts-turn : (items : List (Ident × Owner)) (i : ℕ) (item : Ident × Owner) (old new : List ℕ) (count : ℕ) → i < length items → item ≡ get_or items i item → count ≡ count_of item → old ≡ counts (take i items) → new ≡ old ++ count ∷ [] → new ≡ counts (take (i + 1) items)
counts-turn items i item old new count h at is so_far put =
    put
    ∙ ap (λ o. o ++ count ∷ []) so_far
    ∙ ap (λ n. counts (take i items) ++ n ∷ []) (is ∙ ap count_of at)
    ∙ sym (map-append count_of (take i items) (get_or items i item ∷ []))
    ∙ ap counts (sym (take_more items i item h))

-- ---- how many pairs there are

cons_option-short : (o : Option Bytes) (names : List Bytes) (n : ℕ) → length names ≤ n → length (cons_option o names) ≤ suc n
cons_option-short None names n h = omega (arith, h)
cons_option-short (Some name) names n h = omega (arith, h)

saves-short : (steps : List Step) → length (saves steps) ≤ length steps
saves-short [] = omega arith
saves-short (step ∷ steps) = cons_option-short (saved step) (saves steps) (length steps) (saves-short steps)

pairs-few : (items : List (Ident × Owner)) (i : ℕ) → AllByRecursion IsShort items → length (pair_items i (counts items)) ≤ 65 * length items
pairs-few [] i h = omega arith
pairs-few (item ∷ items) i h =
    omega (arith, length-append (replicate (count_of item + 1) i) (pair_items (i + 1) (counts items)), length-replicate (count_of item + 1) i, saves-short item.1.rule.chain, h.0, pairs-few items (i + 1) h.1)

-- the pairs of so many items with short chains have numbers
pub pairs-fit : (items : List (Ident × Owner)) → length items ≤ 65535 → AllByRecursion IsShort items → pairs (layout_of (counts items)) < 4294967296
pairs-fit items few h = omega (arith, few, pairs-few items 0 h)
