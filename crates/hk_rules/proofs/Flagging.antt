-- Flags for items: merged, looked up, and read as numbers.
use Rattle.std.proofs.Common.{◌≡◌, ℕ, suc, ◌+◌, ◌-◌, ◌<◌, ◌≤◌, Bool, true, false, not, cond, List, [], ◌∷◌, ◌++◌, length, map, take, drop, get_or, set, filter, Option, Some, None, refl, sym, ap, subst, ◌∙◌, arith, append-nil, append_assoc, zero-add}
use Rattle.std.specs.Prelude.{◌&&◌, ◌||◌, Result, Ok, Err, IfOk}
use Rattle.std.specs.List.{list_all, list_any, range_with_len, position_from, AllByRecursion}
use Rattle.std.specs.List.Sorted.{IsStrictlySortedBy}
use Rattle.std.specs.Map.{keys_of}
use Rattle.std.specs.Option.{option_cmp, unwrap_or}
use Rattle.std.specs.Ordering.{nat_cmp, is_eq, ordering_then}
use Rattle.std.specs.Cmp.Lexicographic.{slice_cmp}
use Rattle.std.specs.declared.cmp.Ordering.{Ordering}
use Rattle.std.specs.declared.cmp.Ordering.TheVariants.{Less, Equal, Greater}
use Rattle.std.proofs.Math.ListN.{get_or-map}
use Rattle.std.proofs.lemmas.List.{take_more, drop_more, at_drop_all, length-map}
use Rattle.std.proofs.lemmas.List.Folds.{list_all-append, list_any-append}
use Rattle.std.proofs.lemmas.Map.Text.{is_eq-slice_cmp}
use Rattle.hk_base.specs.Bytes.{Bytes}
use Rattle.hk_base.specs.Identifier.{Ident, ident_cmp}
use Rattle.hk_base.specs.IdentTies.{ident_cmp_total}
use Rattle.hk_base.specs.Ties.{is-equal}
use Rattle.hk_pattern.specs.Pattern.{same_version}
use Rattle.hk_pattern.specs.declared.pattern.Pattern.{Pattern}
use Rattle.hk_pattern.specs.declared.pattern.Pattern.TheVariants.{Ids, And, Or, Not}
use Rattle.hk_pattern.proofs.Matching.{matches-ids, matches-and, matches-or, matches-not}
use Rattle.hk_rules.specs.declared.owner.Owner.{Owner}
use Rattle.hk_rules.specs.Flags.{is_chosen, is_item, merged}
use Rattle.hk_rules.specs.Plan.{find_in, matches_in, no_item}
use Rattle.hk_rules.proofs.Searching.{none-all}

abbrev Item : Type 0
Item = Ident × Owner

and-true : (a : Bool) → (a && true) ≡ a
and-true true = refl
and-true false = refl

or-false : (a : Bool) → (a || false) ≡ a
or-false true = refl
or-false false = refl

or-true : (a : Bool) → (a || true) ≡ true
or-true true = refl
or-true false = refl

merged-map : {X : Type 0} (by : Bool → Bool → Bool) (f g : X → Bool) (xs : List X) → merged by (map f xs) (map g xs) ≡ map (λ x. by (f x) (g x)) xs
merged-map by f g [] = refl
merged-map by f g (x ∷ xs) = ap (λ t. by (f x) (g x) ∷ t) (merged-map by f g xs)

-- one more pair of flags
pub merged-turn : (by : Bool → Bool → Bool) (flags more : List Bool) (i : ℕ) (old new total : List Bool) → i < length flags → length more ≡ length flags → new ≡ old ++ by (get_or flags i false) (get_or more i false) ∷ [] → old ++ merged by (drop i flags) (drop i more) ≡ total → new ++ merged by (drop (i + 1) flags) (drop (i + 1) more) ≡ total
merged-turn by flags more i old new total h same put so_far =
    ap (λ o. o ++ merged by (drop (i + 1) flags) (drop (i + 1) more)) put
    ∙ append_assoc old (by (get_or flags i false) (get_or more i false) ∷ []) (merged by (drop (i + 1) flags) (drop (i + 1) more))
    ∙ (λ k. old ++ merged by (sym (drop_more flags i false h) k) (sym (drop_more more i false (subst (λ n. i < n) (sym same) h)) k))
    ∙ so_far

pub merged-end : (by : Bool → Bool → Bool) (flags more : List Bool) (i : ℕ) (old total : List Bool) → length flags ≤ i → old ++ merged by (drop i flags) (drop i more) ≡ total → old ≡ total
merged-end by flags more i old total h so_far =
    sym (append-nil old)
    ∙ ap (λ t. old ++ t) (sym (at_drop_all (λ fs. merged by fs (drop i more)) flags i h))
    ∙ so_far

-- whether the items pass one more of some tests
pub all-turn : {X : Type 0} (test : X → Item → Bool) (items : List Item) (xs : List X) (i : ℕ) (x : X) (flags more new : List Bool) → i < length xs → x ≡ get_or xs i x → flags ≡ map (λ item. list_all (λ y. test y item) (take i xs)) items → more ≡ map (test x) items → new ≡ merged (λ a b. a && b) flags more → new ≡ map (λ item. list_all (λ y. test y item) (take (i + 1) xs)) items
all-turn test items xs i x flags more new h at so_far next put =
    put
    ∙ (λ k. merged (λ a b. a && b) (so_far k) (next k))
    ∙ merged-map (λ a b. a && b) (λ item. list_all (λ y. test y item) (take i xs)) (test x) items
    ∙ (λ k. map (λ item. step item k) items)
  where
    step : (item : Item) → (list_all (λ y. test y item) (take i xs) && test x item) ≡ list_all (λ y. test y item) (take (i + 1) xs)
    step item =
        ap (λ b. list_all (λ y. test y item) (take i xs) && b) (sym (and-true (test x item)))
        ∙ sym (list_all-append (λ y. test y item) (take i xs) (x ∷ []))
        ∙ ap (λ y. list_all (λ y. test y item) (take i xs ++ y ∷ [])) at
        ∙ ap (list_all (λ y. test y item)) (sym (take_more xs i x h))

-- or whether they pass one
pub any-turn : {X : Type 0} (test : X → Item → Bool) (items : List Item) (xs : List X) (i : ℕ) (x : X) (flags more new : List Bool) → i < length xs → x ≡ get_or xs i x → flags ≡ map (λ item. list_any (λ y. test y item) (take i xs)) items → more ≡ map (test x) items → new ≡ merged (λ a b. a || b) flags more → new ≡ map (λ item. list_any (λ y. test y item) (take (i + 1) xs)) items
any-turn test items xs i x flags more new h at so_far next put =
    put
    ∙ (λ k. merged (λ a b. a || b) (so_far k) (next k))
    ∙ merged-map (λ a b. a || b) (λ item. list_any (λ y. test y item) (take i xs)) (test x) items
    ∙ (λ k. map (λ item. step item k) items)
  where
    step : (item : Item) → (list_any (λ y. test y item) (take i xs) || test x item) ≡ list_any (λ y. test y item) (take (i + 1) xs)
    step item =
        ap (λ b. list_any (λ y. test y item) (take i xs) || b) (sym (or-false (test x item)))
        ∙ sym (list_any-append (λ y. test y item) (take i xs) (x ∷ []))
        ∙ ap (λ y. list_any (λ y. test y item) (take i xs ++ y ∷ [])) at
        ∙ ap (list_any (λ y. test y item)) (sym (take_more xs i x h))

is_eq-then : (a b : Ordering) → is_eq (ordering_then a b) ≡ (is_eq a && is_eq b)
is_eq-then Less b = refl
is_eq-then Equal b = refl
is_eq-then Greater b = refl

is_eq-versions : (a b : Option Bytes) → is_eq (option_cmp (slice_cmp nat_cmp) a b) ≡ same_version a b
is_eq-versions None None = refl
is_eq-versions None (Some b) = refl
is_eq-versions (Some a) None = refl
is_eq-versions (Some a) (Some b) = is_eq-slice_cmp a b

-- the two tests of identifiers agree
same_item : (id : Ident) (item : Item) → is_eq (ident_cmp id item.0) ≡ is_item id item
same_item id item =
    is_eq-then (slice_cmp nat_cmp id.path item.0.path) (option_cmp (slice_cmp nat_cmp) id.version item.0.version)
    ∙ (λ k. is_eq-slice_cmp id.path item.0.path k && is_eq-versions id.version item.0.version k)

none-flagged : (id : Ident) (k : ℕ) (items : List Item) (flags : List Bool) → length flags ≡ length items → position_from (λ item. is_eq (ident_cmp id item.0)) k items ≡ None → flags ≡ merged (λ a b. a || b) flags (map (is_item id) items)
none-flagged id k [] [] same none = refl
none-flagged id k [] (flag ∷ flags) same none = absurd (omega arith)
none-flagged id k (item ∷ items) [] same none = absurd (omega arith)
none-flagged id k (item ∷ items) (flag ∷ flags) same none =
    let tail : length flags ≡ length items = omega arith in
    elim (is_eq (ident_cmp id item.0)) as (λ b. is_eq (ident_cmp id item.0) ≡ b → cond b (Some k) (position_from (λ item. is_eq (ident_cmp id item.0)) (k + 1) items) ≡ None → (flag ∷ flags) ≡ merged (λ a b. a || b) (flag ∷ flags) (map (is_item id) (item ∷ items))) [
      | true ↦ λ t e. cc
      | false ↦ λ t e. λ j. (sym (or-false flag) ∙ ap (λ b. flag || b) (sym t ∙ same_item id item)) j ∷ none-flagged id (k + 1) items flags tail e j
    ] refl none

all-tied : (q x : Ident) (ys : List Ident) → ident_cmp q x ≡ Equal → AllByRecursion (λ y. ident_cmp x y ≡ Less) ys → AllByRecursion (λ y. ident_cmp q y ≡ Less) ys
all-tied q x [] t h = h
all-tied q x (y ∷ ys) t h = (ident_cmp_total.congr q x y t ∙ h.0, all-tied q x ys t h.1)

-- an identifier is found within the items
pub found-within : (id : Ident) (k : ℕ) (items : List Item) (n : ℕ) → position_from (λ item. is_eq (ident_cmp id item.0)) k items ≡ Some n → (k ≤ n) × (n < k + length items)
found-within id k [] n e = cc
found-within id k (item ∷ items) n e =
    elim (is_eq (ident_cmp id item.0)) as (λ b. cond b (Some k) (position_from (λ item. is_eq (ident_cmp id item.0)) (k + 1) items) ≡ Some n → (k ≤ n) × (n < k + length (item ∷ items))) [
      | true ↦ λ e. let is : k ≡ n = ap (λ o. unwrap_or o k) e in (omega (arith, is), omega (arith, is))
      | false ↦ λ e. let rest = found-within id (k + 1) items n e in (omega (arith, rest.0), omega (arith, rest.1))
    ] e

one-flagged : (id : Ident) (k : ℕ) (items : List Item) (flags : List Bool) (n i : ℕ) → IsStrictlySortedBy ident_cmp (keys_of items) → length flags ≡ length items → position_from (λ item. is_eq (ident_cmp id item.0)) k items ≡ Some n → n ≡ k + i → set flags i true ≡ merged (λ a b. a || b) flags (map (is_item id) items)
unfolding IsStrictlySortedBy
one-flagged id k [] [] n i s same e at = refl
one-flagged id k [] (flag ∷ flags) n i s same e at = absurd (omega arith)
one-flagged id k (item ∷ items) [] n i s same e at = absurd (omega arith)
one-flagged id k (item ∷ items) (flag ∷ flags) n i s same e at =
    let tail : length flags ≡ length items = omega arith in
    elim (is_eq (ident_cmp id item.0)) as (λ b. is_eq (ident_cmp id item.0) ≡ b → cond b (Some k) (position_from (λ item. is_eq (ident_cmp id item.0)) (k + 1) items) ≡ Some n → set (flag ∷ flags) i true ≡ merged (λ a b. a || b) (flag ∷ flags) (map (is_item id) (item ∷ items))) [
      | true ↦ λ t e.
          let is : k ≡ n = ap (λ o. unwrap_or o k) e in
          let first : i ≡ 0 = omega (arith, is) in
          let none = none-all id (k + 1) items (all-tied id item.0 (keys_of items) (is-equal _ t) s.0) in
          ap (λ m. set (flag ∷ flags) m true) first
          ∙ λ j. (sym (or-true flag) ∙ ap (λ b. flag || b) (sym t ∙ same_item id item)) j ∷ none-flagged id (k + 1) items flags tail none j
      | false ↦ λ t e.
          let past = (found-within id (k + 1) items n e).0 in
          let next : i ≡ suc (i - 1) = omega (arith, past) in
          let there : n ≡ (k + 1) + (i - 1) = omega (arith, past) in
          ap (λ m. set (flag ∷ flags) m true) next
          ∙ λ j. (sym (or-false flag) ∙ ap (λ b. flag || b) (sym t ∙ same_item id item)) j ∷ one-flagged id (k + 1) items flags n (i - 1) s.1 tail e there j
    ] refl e

-- the flag of an item that is found
pub flagged-found : (id : Ident) (items : List Item) (flags : List Bool) (n : ℕ) → IsStrictlySortedBy ident_cmp (keys_of items) → length flags ≡ length items → find_in items id ≡ Some n → set flags n true ≡ merged (λ a b. a || b) flags (map (is_item id) items)
flagged-found id items flags n s same e = one-flagged id 0 items flags n n s same e (sym (zero-add n))

-- and no flag where none is found
pub flagged-none : (id : Ident) (items : List Item) (flags : List Bool) → length flags ≡ length items → find_in items id ≡ None → flags ≡ merged (λ a b. a || b) flags (map (is_item id) items)
flagged-none id items flags same e = none-flagged id 0 items flags same e

-- flags for the same items are as many
pub as-many : (items : List Item) (f g : Item → Bool) (flags more : List Bool) → flags ≡ map f items → more ≡ map g items → length more ≡ length flags
as-many items f g flags more e h = ap length h ∙ length-map items g ∙ sym (ap length e ∙ length-map items f)

-- what a list of patterns, a list of identifiers and a pattern that doesn't match choose
pub chosen-ids : (ids : List Ident) (items : List Item) → map (λ item. list_any (λ id. is_item id item) ids) items ≡ map (is_chosen (Ids ids)) items
chosen-ids ids items = λ k. map (λ item. sym (matches-ids item.0.path item.0.version ids) k) items

pub chosen-and : (ps : List Pattern) (items : List Item) → map (λ item. list_all (λ p. is_chosen p item) ps) items ≡ map (is_chosen (And ps)) items
chosen-and ps items = λ k. map (λ item. sym (matches-and item.0.path item.0.version ps) k) items

pub chosen-or : (ps : List Pattern) (items : List Item) → map (λ item. list_any (λ p. is_chosen p item) ps) items ≡ map (is_chosen (Or ps)) items
chosen-or ps items = λ k. map (λ item. sym (matches-or item.0.path item.0.version ps) k) items

pub chosen-not : (p : Pattern) (items : List Item) → map not (map (is_chosen p) items) ≡ map (is_chosen (Not p)) items
chosen-not p [] = refl
chosen-not p (item ∷ items) = λ k. sym (matches-not item.0.path item.0.version p) k ∷ chosen-not p items k

-- the numbers of the flags are those of the items
pub chosen-numbers : (p : Pattern) (items : List Item) (flags : List Bool) → flags ≡ map (is_chosen p) items → filter (λ i. get_or flags i (is_chosen p no_item)) (range_with_len 0 (length flags)) ≡ matches_in items p
chosen-numbers p items flags e =
    (λ k. filter (λ i. get_or (e k) i (is_chosen p no_item)) (range_with_len 0 (length (e k))))
    ∙ (λ k. filter (λ i. get_or-map (is_chosen p) items i no_item k) (range_with_len 0 (length-map items (is_chosen p) k)))

pub if_ok-map : {A E : Type 0} (r : Result A E) (P Q : A → Type 0) → IfOk r P → ((v : A) → P v → Q v) → IfOk r Q
if_ok-map (Ok v) P Q p f = f v p
if_ok-map (Err e) P Q p f = tt
