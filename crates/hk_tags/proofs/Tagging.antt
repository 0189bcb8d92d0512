-- Each member of a table for tags stands on exactly the pages of its tags.
use Rattle.std.proofs.Common.{◌≡◌, ℕ, zero, suc, ◌+◌, ◌<◌, ◌≤◌, Bool, true, false, cond, List, [], ◌∷◌, ◌++◌, map, filter, Some, refl, sym, ap, subst, inl, inr, arith}
use Rattle.std.specs.Prelude.{◌⊎◌, ◌||◌, bytes_eq, fold, unwrap_or}
use Rattle.std.specs.BTreeMap.{insert_entry, is_at}
use Rattle.std.specs.Cmp.{nat_cmp_is}
use Rattle.std.specs.List.{AllByRecursion, list_any, range_with_len}
use Rattle.std.specs.List.Sorted.{IsStrictlySortedBy}
use Rattle.std.specs.Map.{keys_of, lookup}
use Rattle.std.specs.Ordering.{nat_cmp, match_ordering}
use Rattle.std.specs.declared.cmp.Ordering.TheVariants.{Less, Equal, Greater}
use Rattle.hk_base.specs.Bytes.{Bytes}
use Rattle.hk_base.specs.Ties.{bytes-same, bytes-self}
use Rattle.hk_rules.specs.Plan.{Lookups}
use Rattle.hk_rules_file.specs.declared.tables.TagRule.{TagRule}
use Rattle.hk_tags.specs.Listings.{IsOne, ArePagesOf, ListsByTag, ArePagesWithin}
use Rattle.hk_tags.specs.Members.{is_member, members, tags_at}
use Rattle.hk_tags.specs.Pages.{group_at, ends_with, with_last, with_tag, with_tags_of, grouped, group_page, tag_pages}
use Rattle.hk_tags.proofs.Filters.{filter-all}
use Rattle.hk_tags.proofs.Grouping.{Entry, Up, IsGroup, AreGroups, More, same-groups, with_tag-groups}
use Rattle.hk_tags.proofs.Regrouping.{R}

-- ---- the items of groups are items of the plan

module _ (P : ℕ → Type 0) where
  abbrev Within : List Entry → Type 0
  Within groups = AllByRecursion (λ (g : Entry). AllByRecursion P g.1) groups

  within-insert : (es : List Entry) (k : Bytes) (v : List ℕ) → AllByRecursion P v → Within es → Within (insert_entry R es k v)
  within-insert [] k v p h = (p, tt)
  within-insert (e ∷ es) k v p h = elim (R k e.0) as (λ o. Within (match_ordering o ((k, v) ∷ e ∷ es) ((e.0, v) ∷ es) (e ∷ insert_entry R es k v))) [
    | Less ↦ (p, h)
    | Equal ↦ (p, h.1)
    | Greater ↦ (h.0, within-insert es k v p h.1)
  ]

  within-at : (es : List Entry) (k : Bytes) → Within es → AllByRecursion P (group_at es k)
  within-at [] k h = tt
  within-at (e ∷ es) k h = elim (is_at (R k) e.0) as (λ b. AllByRecursion P (unwrap_or (cond b (Some e.1) (lookup (is_at (R k)) es)) [])) [
    | true ↦ h.0
    | false ↦ within-at es k h.1
  ]

  within-push : (xs : List ℕ) (x : ℕ) → AllByRecursion P xs → P x → AllByRecursion P (xs ++ x ∷ [])
  within-push [] x h p = (p, tt)
  within-push (y ∷ xs) x h p = (h.0, within-push xs x h.1 p)

  within-last : (xs : List ℕ) (x : ℕ) → AllByRecursion P xs → P x → AllByRecursion P (with_last xs x)
  within-last xs x h p = elim (ends_with xs x) as (λ b. AllByRecursion P (cond b xs (xs ++ x ∷ []))) [
    | true ↦ h
    | false ↦ within-push xs x h p
  ]

  within-tags : (item : ℕ) → P item → (tags : List Bytes) (groups : List Entry) → Within groups → Within (fold (with_tag item) groups tags)
  within-tags item p [] groups h = h
  within-tags item p (tag ∷ tags) groups h = within-tags item p tags (with_tag item groups tag) (within-insert groups tag (with_last (group_at groups tag) item) (within-last (group_at groups tag) item (within-at groups tag h) p) h)

  within-items : (plan : Lookups) (field : Bytes) (items : List ℕ) (groups : List Entry) → AllByRecursion P items → Within groups → Within (fold (with_tags_of plan field) groups items)
  within-items plan field [] groups a h = h
  within-items plan field (item ∷ items) groups a h = within-items plan field items (with_tags_of plan field groups item) a.1 (within-tags item a.0 (tags_at plan field item) groups h)

pages-within : (count : ℕ) (table : TagRule) (groups : List Entry) → AllByRecursion (λ (g : Entry). AllByRecursion (λ item. item < count) g.1) groups → ArePagesWithin count (map (group_page table) groups)
pages-within count table [] h = tt
pages-within count table (g ∷ groups) h = (h.0, pages-within count table groups h.1)

pub tag_pages-within : (plan : Lookups) (table : TagRule) → ArePagesWithin plan.count (tag_pages plan table)
unfolding tag_pages
tag_pages-within plan table =
    pages-within plan.count table (grouped plan table.field (members plan table.of))
    (within-items (λ item. item < plan.count) plan table.field (members plan table.of) [] (filter-all (is_member plan table.of) (λ item. item < plan.count) plan.count (λ q lt. lt)) tt)

-- ---- the law

-- numbers that don't fall, from one on
abbrev From : ℕ → List ℕ → Type 0
From most [] = Unit {0}
From most (x ∷ xs) = (most ≤ x) × From x xs

from-lower : (a b : ℕ) (xs : List ℕ) → a ≤ b → From b xs → From a xs
from-lower a b [] le h = tt
from-lower a b (x ∷ xs) le h = (omega (arith, le, h.0), h.1)

from-filter : (test : ℕ → Bool) (a n : ℕ) → From a (filter test (range_with_len a n))
from-filter test a zero = tt
from-filter test a (suc n) = elim (test a) as (λ b. From a (cond b (a ∷ filter test (range_with_len (a + 1) n)) (filter test (range_with_len (a + 1) n)))) [
  | true ↦ (omega arith, from-lower a (a + 1) (filter test (range_with_len (a + 1) n)) (omega arith) (from-filter test (a + 1) n))
  | false ↦ from-lower a (a + 1) (filter test (range_with_len (a + 1) n)) (omega arith) (from-filter test (a + 1) n)
]

tags-groups : (item : ℕ) (tags : List Bytes) (has : Bytes → ℕ → Type 0) (most : ℕ) → most ≤ item → (groups : List Entry) → AreGroups has most groups → AreGroups (λ t i. has t i ⊎ (IsOne tags t × (item ≡ i))) item (fold (with_tag item) groups tags)
tags-groups item [] has most le groups h = same-groups has (λ t i. has t i ⊎ (⊥ × (item ≡ i))) most item le (λ t i k. inl k) (λ t i k. elim k [
  | inl a ↦ a
  | inr b ↦ absurd b.0
]) groups h
tags-groups item (tag ∷ tags) has most le groups h =
    same-groups (λ t i. More has item tag t i ⊎ (IsOne tags t × (item ≡ i))) (λ t i. has t i ⊎ (IsOne (tag ∷ tags) t × (item ≡ i))) item item (omega arith)
    (λ t i k. elim k [
      | inl a ↦ elim a [
        | inl b ↦ inl b
        | inr p ↦ inr (inl p.0, p.1)
      ]
      | inr p ↦ inr (inr p.0, p.1)
    ])
    (λ t i k. elim k [
      | inl b ↦ inl (inl b)
      | inr p ↦ elim p.0 [
        | inl same ↦ inl (inr (same, p.1))
        | inr r ↦ inr (r, p.1)
      ]
    ])
    (fold (with_tag item) (with_tag item groups tag) tags)
    (tags-groups item tags (More has item tag) item (omega arith) (with_tag item groups tag) (with_tag-groups has most item le tag groups h))

module _ (plan : Lookups) (field : Bytes) where
  items-groups : (items : List ℕ) (has : Bytes → ℕ → Type 0) (most : ℕ) → From most items → (groups : List Entry) → AreGroups has most groups
      → (high : ℕ) × AreGroups (λ t i. has t i ⊎ (IsOne items i × IsOne (tags_at plan field i) t)) high (fold (with_tags_of plan field) groups items)
  items-groups [] has most from groups h = (
    most,
    same-groups has (λ t i. has t i ⊎ (⊥ × IsOne (tags_at plan field i) t)) most most (omega arith) (λ t i k. inl k) (λ t i k. elim k [
      | inl a ↦ a
      | inr b ↦ absurd b.0
    ]) groups h,
  )
  items-groups (item ∷ items) has most from groups h =
      let first = tags-groups item (tags_at plan field item) has most from.0 groups h in
      let rest = items-groups items (λ t i. has t i ⊎ (IsOne (tags_at plan field item) t × (item ≡ i))) item from.1 (with_tags_of plan field groups item) first in (
        rest.0,
        same-groups (λ t i. (has t i ⊎ (IsOne (tags_at plan field item) t × (item ≡ i))) ⊎ (IsOne items i × IsOne (tags_at plan field i) t)) (λ t i. has t i ⊎ (IsOne (item ∷ items) i × IsOne (tags_at plan field i) t)) rest.0 rest.0 (omega arith)
            (λ t i k. elim k [
              | inl a ↦ elim a [
                | inl b ↦ inl b
                | inr p ↦ inr (inl p.1, subst (λ j. IsOne (tags_at plan field j) t) p.1 p.0)
              ]
              | inr p ↦ inr (inr p.0, p.1)
            ])
            (λ t i k. elim k [
              | inl b ↦ inl (inl b)
              | inr p ↦ elim p.0 [
                | inl same ↦ inl (inr (subst (λ j. IsOne (tags_at plan field j) t) (sym same) p.1, same))
                | inr r ↦ inr (r, p.1)
              ]
            ])
            (fold (with_tags_of plan field) (with_tags_of plan field groups item) items) rest.1,
      )

-- whether a tag is one of some
one-tag : (tags : List Bytes) (tag : Bytes) → IsOne tags tag → list_any (λ own. bytes_eq own tag) tags ≡ true
one-tag [] tag h = absurd h
one-tag (t ∷ tags) tag h = elim h [
  | inl same ↦ ap (λ b. b || list_any (λ own. bytes_eq own tag) tags) (subst (λ x. bytes_eq t x ≡ true) same (bytes-self t))
  | inr r ↦ either (bytes_eq t tag) (list_any (λ own. bytes_eq own tag) tags) (one-tag tags tag r)
]
  where
    either : (a b : Bool) → b ≡ true → (a || b) ≡ true
    either true b e = refl
    either false b e = e

tag-one : (tags : List Bytes) (tag : Bytes) → list_any (λ own. bytes_eq own tag) tags ≡ true → IsOne tags tag
tag-one [] tag e = cc
tag-one (t ∷ tags) tag e = elim (bytes_eq t tag) as (λ b. bytes_eq t tag ≡ b → (b || list_any (λ own. bytes_eq own tag) tags) ≡ true → IsOne (t ∷ tags) tag) [
  | true ↦ λ h any. inl (bytes-same t tag h)
  | false ↦ λ h any. inr (tag-one tags tag any)
] refl e

up-sorted : (xs : List ℕ) → Up xs → IsStrictlySortedBy nat_cmp xs
unfolding IsStrictlySortedBy
up-sorted [] u = tt
up-sorted (x ∷ xs) u = (less xs u.0, up-sorted xs u.1)
  where
    less : (ys : List ℕ) → AllByRecursion (λ y. x < y) ys → AllByRecursion (λ y. nat_cmp x y ≡ Less) ys
    less [] h = tt
    less (y ∷ ys) h = (sym (nat_cmp_is x y Less h.0), less ys h.1)

abbrev Has : Lookups → TagRule → Bytes → ℕ → Type 0
Has plan table tag item = ⊥ ⊎ (IsOne (members plan table.of) item × IsOne (tags_at plan table.field item) tag)

group-lists : (plan : Lookups) (table : TagRule) (most : ℕ) (groups : List Entry) → AllByRecursion (λ (g : Entry). IsGroup (Has plan table) most g.0 g.1) groups → ArePagesOf plan table (keys_of groups) (map (group_page table) groups)
group-lists plan table most [] h = tt
group-lists plan table most (g ∷ groups) h = (
  record {
    lists = λ item. (
      λ one. elim (h.0.holds item one) [
        | inl none ↦ absurd none
        | inr p ↦ (p.0, one-tag (tags_at plan table.field item) g.0 p.1)
      ],
      λ p. h.0.all item (inr (p.0, tag-one (tags_at plan table.field item) g.0 p.1)),
    );
    ascends = up-sorted g.1 h.0.up;
  },
  group-lists plan table most groups h.1,
)

pub lists-by-tag : (plan : Lookups) (table : TagRule) → ListsByTag plan table
unfolding tag_pages IsStrictlySortedBy
lists-by-tag plan table =
    let none : AreGroups (λ t i. ⊥) 0 [] = record { ordered = tt; each = tt; covers = λ t i h. absurd h; own = λ t h. absurd h } in
    let found = items-groups plan table.field (members plan table.of) (λ t i. ⊥) 0 (from-filter (is_member plan table.of) 0 plan.count) [] none in
    let groups = grouped plan table.field (members plan table.of) in
    record {
      tags = keys_of groups;
      ascend = found.1.ordered;
      own = λ tag. (
        λ one. let w = found.1.own tag one in elim w.1 [
          | inl none ↦ absurd none
          | inr p ↦ (w.0, p.0, one-tag (tags_at plan table.field w.0) tag p.1)
        ],
        λ w. found.1.covers tag w.0 (inr (w.1, tag-one (tags_at plan table.field w.0) tag w.2)),
      );
      pages = group-lists plan table found.0 groups found.1.each;
    }

pub all-by-tag : (plan : Lookups) (tables : List TagRule) → AllByRecursion (ListsByTag plan) tables
all-by-tag plan [] = tt
all-by-tag plan (table ∷ tables) = (lists-by-tag plan table, all-by-tag plan tables)
