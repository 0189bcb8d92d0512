-- The groups of tags list the items that have them, and no others.
use Rattle.std.proofs.Common.{◌≡◌, ◌≢◌, ◌∙◌, ℕ, zero, suc, ◌-◌, ◌<◌, ◌≤◌, Bool, true, false, cond, List, [], ◌∷◌, ◌++◌, length, Some, refl, sym, ap, subst, inl, inr, arith}
use Rattle.std.specs.Prelude.{◌⊎◌, unwrap_or}
use Rattle.std.specs.BTreeMap.{insert_entry, is_at}
use Rattle.std.specs.Cmp.{tied_itself}
use Rattle.std.specs.Cmp.Lexicographic.{nat_list_cmp_total}
use Rattle.std.specs.List.{AllByRecursion, slice_get}
use Rattle.std.specs.List.Sorted.{IsStrictlySortedBy}
use Rattle.std.specs.Map.{keys_of, lookup}
use Rattle.std.specs.Ordering.{is_eq, match_ordering, ordering_reverse}
use Rattle.std.specs.declared.cmp.Ordering.{Ordering}
use Rattle.std.specs.declared.cmp.Ordering.TheVariants.{Less, Equal, Greater}
use Rattle.std.proofs.lemmas.Bool.{eqb-true, eq-eqb}
use Rattle.std.proofs.lemmas.Map.Lookups.{exact_bytes}
use Rattle.hk_base.specs.Bytes.{Bytes}
use Rattle.hk_tags.specs.Listings.{IsOne}
use Rattle.hk_tags.specs.Pages.{group_at, is_item, ends_with, with_last, with_tag}
use Rattle.hk_tags.proofs.Regrouping.{R, all-below}

abbrev pub Entry : Type 0
Entry = Bytes × List ℕ

-- ---- one of some

pub one-left : {X : Type 0} (xs ys : List X) (x : X) → IsOne xs x → IsOne (xs ++ ys) x
one-left [] ys x h = absurd h
one-left (y ∷ xs) ys x h = elim h [
  | inl e ↦ inl e
  | inr r ↦ inr (one-left xs ys x r)
]

pub one-last : {X : Type 0} (xs : List X) (x : X) → IsOne (xs ++ x ∷ []) x
one-last [] x = inl refl
one-last (y ∷ xs) x = inr (one-last xs x)

pub one-split : {X : Type 0} (xs : List X) (y x : X) → IsOne (xs ++ y ∷ []) x → IsOne xs x ⊎ (y ≡ x)
one-split [] y x h = elim h [
  | inl e ↦ inr e
  | inr r ↦ absurd r
]
one-split (z ∷ xs) y x h = elim h [
  | inl e ↦ inl (inl e)
  | inr r ↦ elim (one-split xs y x r) [
    | inl a ↦ inl (inr a)
    | inr b ↦ inr b
  ]
]

-- ---- numbers that rise

abbrev pub Up : List ℕ → Type 0
Up [] = Unit {0}
Up (x ∷ xs) = AllByRecursion (λ y. x < y) xs × Up xs

all-push : (P : ℕ → Type 0) (xs : List ℕ) (y : ℕ) → AllByRecursion P xs → P y → AllByRecursion P (xs ++ y ∷ [])
all-push P [] y h k = (k, tt)
all-push P (x ∷ xs) y h k = (h.0, all-push P xs y h.1 k)

all-more : (P Q : ℕ → Type 0) → ((x : ℕ) → P x → Q x) → (xs : List ℕ) → AllByRecursion P xs → AllByRecursion Q xs
all-more P Q f [] h = tt
all-more P Q f (x ∷ xs) h = (f x h.0, all-more P Q f xs h.1)

up-push : (xs : List ℕ) (y : ℕ) → Up xs → AllByRecursion (λ x. x < y) xs → Up (xs ++ y ∷ [])
up-push [] y u h = (tt, tt)
up-push (x ∷ xs) y u h = (all-push (λ z. x < z) xs y u.0 h.0, up-push xs y u.1 h.1)

ends-tail : (x y : ℕ) (ys : List ℕ) (item : ℕ) → ends_with (x ∷ y ∷ ys) item ≡ ends_with (y ∷ ys) item
ends-tail x y ys item =
    let e : length (x ∷ y ∷ ys) - 1 ≡ suc (length ys) = omega arith in
    let f : length (y ∷ ys) - 1 ≡ length ys = omega arith in
    ap (λ k. is_item item (slice_get (x ∷ y ∷ ys) k)) e ∙ sym (ap (λ k. is_item item (slice_get (y ∷ ys) k)) f)

cases : (x item : ℕ) → x ≤ item → (x < item) ⊎ (x ≡ item)
cases zero zero le = inr refl
cases zero (suc item) le = inl (omega arith)
cases (suc x) zero le = absurd (omega arith)
cases (suc x) (suc item) le = elim (cases x item (omega arith)) [
  | inl lt ↦ inl (omega arith)
  | inr same ↦ inr (ap (λ k. suc k) same)
]

-- the last one isn't this, so all are below it
last-below : (xs : List ℕ) (item : ℕ) → Up xs → AllByRecursion (λ x. x ≤ item) xs → ends_with xs item ≡ false → AllByRecursion (λ x. x < item) xs
last-below [] item u h e = tt
last-below (x ∷ []) item u h e = (other x item h.0 e, tt)
  where
    other : (x item : ℕ) → x ≤ item → is_item item (Some x) ≡ false → x < item
    other x item le ne = elim (cases x item le) [
      | inl lt ↦ lt
      | inr same ↦ let yes : is_item item (Some x) ≡ true = eq-eqb x item same in let clash : true ≡ false = sym yes ∙ ne in cc
    ]
last-below (x ∷ y ∷ ys) item u h e =
    let rest = last-below (y ∷ ys) item u.1 h.1 (sym (ends-tail x y ys item) ∙ e) in
    (omega (arith, u.0.0, rest.0), rest)

last-one : (xs : List ℕ) (item : ℕ) → ends_with xs item ≡ true → IsOne xs item
last-one [] item e = cc
last-one (x ∷ []) item e = inl (eqb-true x item e)
last-one (x ∷ y ∷ ys) item e = inr (last-one (y ∷ ys) item (sym (ends-tail x y ys item) ∙ e))

-- ---- the groups so far

-- the items of a tag are those that have it, and rise; none is above this one
pub record IsGroup (has : Bytes → ℕ → Type 0) (most : ℕ) (tag : Bytes) (items : List ℕ) : Type 0 where
  pub holds : (item : ℕ) → IsOne items item → has tag item
  pub all : (item : ℕ) → has tag item → IsOne items item
  pub up : Up items
  pub low : AllByRecursion (λ x. x ≤ most) items

-- the tags ascend, each has its items, and each that an item has is there
pub record AreGroups (has : Bytes → ℕ → Type 0) (most : ℕ) (groups : List Entry) : Type 0 where
  pub ordered : IsStrictlySortedBy R (keys_of groups)
  pub each : AllByRecursion (λ (g : Entry). IsGroup has most g.0 g.1) groups
  pub covers : (tag : Bytes) (item : ℕ) → has tag item → IsOne (keys_of groups) tag
  pub own : (tag : Bytes) → IsOne (keys_of groups) tag → (item : ℕ) × has tag item

-- what holds of them by other words
pub same-groups : (has other : Bytes → ℕ → Type 0) (most high : ℕ) → most ≤ high → ((t : Bytes) (i : ℕ) → has t i → other t i) → ((t : Bytes) (i : ℕ) → other t i → has t i) → (groups : List Entry) → AreGroups has most groups → AreGroups other high groups
same-groups has other most high le to back groups h = record {
  ordered = h.ordered;
  each = each groups h.each;
  covers = λ t i o. h.covers t i (back t i o);
  own = λ t k. let w = h.own t k in (w.0, to t w.0 w.1);
}
  where
    each : (gs : List Entry) → AllByRecursion (λ (g : Entry). IsGroup has most g.0 g.1) gs → AllByRecursion (λ (g : Entry). IsGroup other high g.0 g.1) gs
    each [] a = tt
    each (g ∷ gs) a = (
      record {
        holds = λ i k. to g.0 i (a.0.holds i k);
        all = λ i o. a.0.all i (back g.0 i o);
        up = a.0.up;
        low = all-more (λ x. x ≤ most) (λ x. x ≤ high) (λ x l. omega arith) g.1 a.0.low;
      },
      each gs a.1,
    )

-- ---- keys

apart : (k x : Bytes) (o : Ordering) → R k x ≡ o → o ≢ Equal → k ≢ x
apart k x o e ne same = ne (sym e ∙ (ap (λ y. R k y) (sym same) ∙ tied_itself nat_list_cmp_total k))

less-is-not : Less ≢ Equal
less-is-not e = cc

greater-is-not : Greater ≢ Equal
greater-is-not e = cc

keys-old : (es : List Entry) (k : Bytes) (v : List ℕ) (t : Bytes) → IsOne (keys_of es) t → IsOne (keys_of (insert_entry R es k v)) t
keys-old [] k v t h = absurd h
keys-old (e ∷ es) k v t h = elim (R k e.0) as (λ o. IsOne (keys_of (match_ordering o ((k, v) ∷ e ∷ es) ((e.0, v) ∷ es) (e ∷ insert_entry R es k v))) t) [
  | Less ↦ inr h
  | Equal ↦ h
  | Greater ↦ elim h [
    | inl same ↦ inl same
    | inr r ↦ inr (keys-old es k v t r)
  ]
]

keys-new : (es : List Entry) (k : Bytes) (v : List ℕ) → IsOne (keys_of (insert_entry R es k v)) k
keys-new [] k v = inl refl
keys-new (e ∷ es) k v = elim (R k e.0) as (λ o. R k e.0 ≡ o → IsOne (keys_of (match_ordering o ((k, v) ∷ e ∷ es) ((e.0, v) ∷ es) (e ∷ insert_entry R es k v))) k) [
  | Less ↦ λ h. inl refl
  | Equal ↦ λ h. inl (sym (exact_bytes k e.0 h))
  | Greater ↦ λ h. inr (keys-new es k v)
] refl

keys-back : (es : List Entry) (k : Bytes) (v : List ℕ) (t : Bytes) → IsOne (keys_of (insert_entry R es k v)) t → IsOne (keys_of es) t ⊎ (k ≡ t)
keys-back [] k v t h = elim h [
  | inl e ↦ inr e
  | inr r ↦ absurd r
]
keys-back (e ∷ es) k v t one = elim (R k e.0) as (λ o. IsOne (keys_of (match_ordering o ((k, v) ∷ e ∷ es) ((e.0, v) ∷ es) (e ∷ insert_entry R es k v))) t → IsOne (keys_of (e ∷ es)) t ⊎ (k ≡ t)) [
  | Less ↦ λ h. elim h [
    | inl same ↦ inr same
    | inr r ↦ inl r
  ]
  | Equal ↦ λ h. inl h
  | Greater ↦ λ h. elim h [
    | inl same ↦ inl (inl same)
    | inr r ↦ elim (keys-back es k v t r) [
      | inl a ↦ inl (inr a)
      | inr b ↦ inr b
    ]
  ]
] one

below-insert : (x : Bytes) (es : List Entry) (k : Bytes) (v : List ℕ) → R x k ≡ Less → AllByRecursion (λ y. R x y ≡ Less) (keys_of es) → AllByRecursion (λ y. R x y ≡ Less) (keys_of (insert_entry R es k v))
below-insert x [] k v l h = (l, tt)
below-insert x (e ∷ es) k v l h = elim (R k e.0) as (λ o. AllByRecursion (λ y. R x y ≡ Less) (keys_of (match_ordering o ((k, v) ∷ e ∷ es) ((e.0, v) ∷ es) (e ∷ insert_entry R es k v)))) [
  | Less ↦ (l, h)
  | Equal ↦ h
  | Greater ↦ (h.0, below-insert x es k v l h.1)
]

insert-sorted : (es : List Entry) (k : Bytes) (v : List ℕ) → IsStrictlySortedBy R (keys_of es) → IsStrictlySortedBy R (keys_of (insert_entry R es k v))
unfolding IsStrictlySortedBy
insert-sorted [] k v s = (tt, tt)
insert-sorted (e ∷ es) k v s = elim (R k e.0) as (λ o. R k e.0 ≡ o → IsStrictlySortedBy R (keys_of (match_ordering o ((k, v) ∷ e ∷ es) ((e.0, v) ∷ es) (e ∷ insert_entry R es k v)))) [
  | Less ↦ λ h. ((h, all-below k e.0 (keys_of es) h s.0), s)
  | Equal ↦ λ h. s
  | Greater ↦ λ h. (below-insert e.0 es k v (nat_list_cmp_total.antisymm e.0 k ∙ ap ordering_reverse h) s.0, insert-sorted es k v s.1)
] refl

-- ---- one more item with a tag

abbrev pub More : (Bytes → ℕ → Type 0) → ℕ → Bytes → Bytes → ℕ → Type 0
More has item tag t i = has t i ⊎ ((tag ≡ t) × (item ≡ i))

module _ (has : Bytes → ℕ → Type 0) (most item : ℕ) (le : most ≤ item) (tag : Bytes) where
  -- the group of the tag, also where there is none yet
  group-from : (groups : List Entry) → AllByRecursion (λ (g : Entry). IsGroup has most g.0 g.1) groups → ((i : ℕ) → has tag i → IsOne (keys_of groups) tag) → IsGroup has most tag (group_at groups tag)
  group-from [] a covers = record { holds = λ i h. absurd h; all = λ i h. covers i h; up = tt; low = tt }
  group-from (e ∷ es) a covers = elim (R tag e.0) as (λ o. R tag e.0 ≡ o → IsGroup has most tag (unwrap_or (cond (is_eq o) (Some e.1) (lookup (is_at (R tag)) es)) [])) [
    | Less ↦ λ h. group-from es a.1 (past (apart tag e.0 Less h less-is-not))
    | Equal ↦ λ h. subst (λ t. IsGroup has most t e.1) (sym (exact_bytes tag e.0 h)) a.0
    | Greater ↦ λ h. group-from es a.1 (past (apart tag e.0 Greater h greater-is-not))
  ] refl
    where
      past : tag ≢ e.0 → (i : ℕ) → has tag i → IsOne (keys_of es) tag
      past ne i h = elim (covers i h) [
        | inl same ↦ absurd (ne (sym same))
        | inr r ↦ r
      ]

  grown-by : (items : List ℕ) (b : Bool) → ends_with items item ≡ b → IsGroup has most tag items → IsGroup (More has item tag) item tag (cond b items (items ++ item ∷ []))
  grown-by items true e g = record {
    holds = λ i h. inl (g.holds i h);
    all = λ i m. elim m [
      | inl h ↦ g.all i h
      | inr p ↦ subst (IsOne items) p.1 (last-one items item e)
    ];
    up = g.up;
    low = all-more (λ x. x ≤ most) (λ x. x ≤ item) (λ x l. omega (arith, le)) items g.low;
  }
  grown-by items false e g =
      let low : AllByRecursion (λ x. x ≤ item) items = all-more (λ x. x ≤ most) (λ x. x ≤ item) (λ x l. omega (arith, le)) items g.low in
      record {
        holds = λ i h. elim (one-split items item i h) [
          | inl k ↦ inl (g.holds i k)
          | inr same ↦ inr (refl, same)
        ];
        all = λ i m. elim m [
          | inl h ↦ one-left items (item ∷ []) i (g.all i h)
          | inr p ↦ subst (IsOne (items ++ item ∷ [])) p.1 (one-last items item)
        ];
        up = up-push items item g.up (last-below items item g.up low e);
        low = all-push (λ x. x ≤ item) items item low (omega arith);
      }

  -- the group of another tag
  other-group : (t : Bytes) (items : List ℕ) → tag ≢ t → IsGroup has most t items → IsGroup (More has item tag) item t items
  other-group t items ne g = record {
    holds = λ i h. inl (g.holds i h);
    all = λ i m. elim m [
      | inl h ↦ g.all i h
      | inr p ↦ absurd (ne p.0)
    ];
    up = g.up;
    low = all-more (λ x. x ≤ most) (λ x. x ≤ item) (λ x l. omega (arith, le)) items g.low;
  }

  other-groups : (es : List Entry) → AllByRecursion (λ y. R tag y ≡ Less) (keys_of es) → AllByRecursion (λ (g : Entry). IsGroup has most g.0 g.1) es → AllByRecursion (λ (g : Entry). IsGroup (More has item tag) item g.0 g.1) es
  other-groups [] h a = tt
  other-groups (e ∷ es) h a = (other-group e.0 e.1 (apart tag e.0 Less h.0 less-is-not) a.0, other-groups es h.1 a.1)

  equal-below : (x : Bytes) (ys : List Bytes) → R tag x ≡ Equal → AllByRecursion (λ y. R x y ≡ Less) ys → AllByRecursion (λ y. R tag y ≡ Less) ys
  equal-below x [] e h = tt
  equal-below x (y ∷ ys) e h = (nat_list_cmp_total.congr tag x y e ∙ h.0, equal-below x ys e h.1)

  each-insert : (es : List Entry) (v : List ℕ) → IsGroup (More has item tag) item tag v → IsStrictlySortedBy R (keys_of es) → AllByRecursion (λ (g : Entry). IsGroup has most g.0 g.1) es → AllByRecursion (λ (g : Entry). IsGroup (More has item tag) item g.0 g.1) (insert_entry R es tag v)
  unfolding IsStrictlySortedBy
  each-insert [] v own s a = (own, tt)
  each-insert (e ∷ es) v own s a = elim (R tag e.0) as (λ o. R tag e.0 ≡ o → AllByRecursion (λ (g : Entry). IsGroup (More has item tag) item g.0 g.1) (match_ordering o ((tag, v) ∷ e ∷ es) ((e.0, v) ∷ es) (e ∷ insert_entry R es tag v))) [
    | Less ↦ λ h. (own, other-groups (e ∷ es) (h, all-below tag e.0 (keys_of es) h s.0) a)
    | Equal ↦ λ h. (subst (λ t. IsGroup (More has item tag) item t v) (exact_bytes tag e.0 h) own, other-groups es (equal-below e.0 (keys_of es) h s.0) a.1)
    | Greater ↦ λ h. (other-group e.0 e.1 (apart tag e.0 Greater h greater-is-not) a.0, each-insert es v own s.1 a.1)
  ] refl

  pub with_tag-groups : (groups : List Entry) → AreGroups has most groups → AreGroups (More has item tag) item (with_tag item groups tag)
  with_tag-groups groups h =
      let old = group_at groups tag in
      let new = with_last old item in
      let own : IsGroup (More has item tag) item tag new = grown-by old (ends_with old item) refl (group-from groups h.each (λ i k. h.covers tag i k)) in
      record {
        ordered = insert-sorted groups tag new h.ordered;
        each = each-insert groups new own h.ordered h.each;
        covers = λ t i m. elim m [
          | inl k ↦ keys-old groups tag new t (h.covers t i k)
          | inr p ↦ subst (IsOne (keys_of (insert_entry R groups tag new))) p.0 (keys-new groups tag new)
        ];
        own = λ t k. elim (keys-back groups tag new t k) [
          | inl old_key ↦ let w = h.own t old_key in (w.0, inl w.1)
          | inr same ↦ (item, inr (same, refl))
        ];
      }
