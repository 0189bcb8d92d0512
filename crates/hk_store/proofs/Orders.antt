-- Lists in strict order, and lists in which nothing stands twice, grown by one and cut.
use Rattle.std.proofs.Common.{◌≡◌, refl, sym, ap, ◌∙◌, subst, arith, ℕ, zero, suc, ◌+◌, ◌-◌, ◌<◌, ◌≤◌, ◌⊎◌, Bool, true, false, inl, inr, List, [], ◌∷◌, ◌++◌, append_assoc, length, length-append, get_or, Some, None}
use Rattle.std.specs.Prelude.{◌||◌, ◌&&◌, bytes_eq}
use Rattle.std.specs.Cmp.{IsEquivalence}
use Rattle.std.specs.List.{AllByRecursion, IsDistinct, list_any, slice_get}
use Rattle.std.specs.List.Sorted.{IsStrictlySortedBy}
use Rattle.std.specs.Ordering.{is_lt}
use Rattle.std.specs.declared.cmp.Ordering.{Ordering}
use Rattle.std.specs.declared.cmp.Ordering.TheVariants.{Less, Equal, Greater}
use Rattle.std.proofs.Math.ListN.{get_or-append}
use Rattle.std.proofs.Math.Seq.{get_or-append_seam}
use Rattle.std.proofs.lemmas.Bool.{cases_lt}
use Rattle.std.proofs.lemmas.Cmp.{nat_list_eq_equiv}
use Rattle.std.proofs.lemmas.Map.Keys.{Less-from_sorted, sorted_from_all_adjacent, IsDistinct-push}
use Rattle.std.proofs.lemmas.Option.{slice_get-get_or}
use Rattle.hk_base.specs.Bytes.{Bytes}
use Rattle.hk_base.specs.Identifier.{Ident, ident_cmp}
use Rattle.hk_base.specs.IdentTies.{ident_cmp_total}
use Rattle.hk_fix.specs.Table.{Key, same_key}
use Rattle.hk_store.specs.StoreReading.{is_above, last_of}
use Rattle.hk_store.proofs.Keys.{keys-same, key-self, same-bool}

-- ---- what holds of all

module _ {A : Type 0} (P Q : A → Type 0) where
  pub all-both : (xs : List A) → AllByRecursion P xs → AllByRecursion Q xs → AllByRecursion (λ x. P x × Q x) xs
  all-both [] p q = tt
  all-both (x ∷ xs) p q = ((p.0, q.0), all-both xs p.1 q.1)

  pub all-first : (xs : List A) → AllByRecursion (λ x. P x × Q x) xs → AllByRecursion P xs
  all-first [] h = tt
  all-first (x ∷ xs) h = (h.0.0, all-first xs h.1)

  pub all-second : (xs : List A) → AllByRecursion (λ x. P x × Q x) xs → AllByRecursion Q xs
  all-second [] h = tt
  all-second (x ∷ xs) h = (h.0.1, all-second xs h.1)

all-front : {A : Type 0} (P : A → Type 0) (xs ys : List A) → AllByRecursion P (xs ++ ys) → AllByRecursion P xs
all-front P [] ys h = tt
all-front P (x ∷ xs) ys h = (h.0, all-front P xs ys h.1)

all-seam : {A : Type 0} (P : A → Type 0) (xs : List A) (y : A) (ys : List A) → AllByRecursion P (xs ++ y ∷ ys) → P y
all-seam P [] y ys h = h.0
all-seam P (x ∷ xs) y ys h = all-seam P xs y ys h.1

-- ---- identifiers in strict order

pub sorted-none : IsStrictlySortedBy ident_cmp []
unfolding IsStrictlySortedBy
sorted-none = tt

is-less : (o : Ordering) → is_lt o ≡ true → o ≡ Less
is-less Less e = refl
is-less Equal e = cc
is-less Greater e = cc

last-is : (ids : List Ident) (d : Ident) → 0 < length ids → last_of ids ≡ Some (get_or ids (length ids - 1) d)
last-is ids d some = slice_get-get_or ids (length ids - 1) d (omega (arith, some))

module _ (ids : List Ident) (id : Ident) where
  grown-adjacent : IsStrictlySortedBy ident_cmp ids → is_above (last_of ids) id ≡ true → (k : ℕ) → k + 1 < length ids + 1 → (k + 1 < length ids) ⊎ (length ids ≤ k + 1) → ident_cmp (get_or (ids ++ id ∷ []) k id) (get_or (ids ++ id ∷ []) (k + 1) id) ≡ Less
  grown-adjacent sorted above k within (inl lt) =
      (λ i. ident_cmp (get_or-append ids (id ∷ []) id k (omega (arith, lt)) i) (get_or-append ids (id ∷ []) id (k + 1) lt i))
      ∙ Less-from_sorted ident_cmp ids k (k + 1) id sorted (omega arith) lt
  grown-adjacent sorted above k within (inr past) =
      let at : k + 1 ≡ length ids = omega (arith, within, past) in
      let front : get_or (ids ++ id ∷ []) k id ≡ get_or ids k id = get_or-append ids (id ∷ []) id k (omega (arith, at)) in
      let seam : get_or (ids ++ id ∷ []) (k + 1) id ≡ id = ap (λ n. get_or (ids ++ id ∷ []) n id) at ∙ get_or-append_seam ids id [] id in
      let place : k ≡ length ids - 1 = omega (arith, at) in
      let up : is_above (Some (get_or ids k id)) id ≡ true = ap (λ n. is_above (Some (get_or ids n id)) id) place ∙ (ap (λ o. is_above o id) (sym (last-is ids id (omega (arith, at)))) ∙ above) in
      (λ i. ident_cmp (front i) (seam i)) ∙ is-less (ident_cmp (get_or ids k id) id) up

  -- one more above the last one
  pub ascends : IsStrictlySortedBy ident_cmp ids → is_above (last_of ids) id ≡ true → IsStrictlySortedBy ident_cmp (ids ++ id ∷ [])
  ascends sorted above = sorted_from_all_adjacent ident_cmp_total (ids ++ id ∷ []) id
      (λ k lt. grown-adjacent sorted above k (omega (arith, lt, length-append ids (id ∷ []))) (cases_lt (k + 1) (length ids)))

-- and each is above the last one before it
pub ascended : (before : List Ident) (id : Ident) (later : List Ident) → IsStrictlySortedBy ident_cmp (before ++ id ∷ later) → is_above (last_of before) id ≡ true
ascended [] id later sorted = refl
ascended (x ∷ xs) id later sorted =
    let ids : List Ident = x ∷ xs in
    let at : ℕ = length ids - 1 in
    let less = Less-from_sorted ident_cmp (ids ++ id ∷ later) at (length ids) id sorted (omega arith) (omega (arith, length-append ids (id ∷ later))) in
    let front : get_or (ids ++ id ∷ later) at id ≡ get_or ids at id = get_or-append ids (id ∷ later) id at (omega arith) in
    let seam : get_or (ids ++ id ∷ later) (length ids) id ≡ id = get_or-append_seam ids id later id in
    let up : ident_cmp (get_or ids at id) id ≡ Less = (λ i. ident_cmp (sym front i) (sym seam i)) ∙ less in
    ap (λ o. is_above o id) (last-is ids id (omega arith)) ∙ ap is_lt up

-- ---- keys and names that differ

keys-swap : (a b : Key) → same_key a b ≡ same_key b a
keys-swap a b = same-bool (same_key a b) (same_key b a)
    (λ e. ap (λ k. same_key k a) (sym (keys-same a b e)) ∙ key-self a)
    (λ e. ap (λ k. same_key k b) (sym (keys-same b a e)) ∙ key-self b)

keys-equiv : IsEquivalence same_key
keys-equiv = record { refl = key-self; symm = keys-swap; congr = λ a b c e. ap (λ k. same_key k c) (keys-same a b e) }

pub distinct-none : {A : Type 0} (e : A → A → Bool) → IsDistinct e []
unfolding IsDistinct
distinct-none e = tt

pub keys-more : (keys : List Key) (key : Key) → IsDistinct same_key keys → list_any (same_key key) keys ≡ false → IsDistinct same_key (keys ++ key ∷ [])
keys-more keys key apart new = IsDistinct-push keys-equiv keys key apart new

pub names-more : (names : List Bytes) (name : Bytes) → IsDistinct bytes_eq names → list_any (bytes_eq name) names ≡ false → IsDistinct bytes_eq (names ++ name ∷ [])
names-more names name apart new = IsDistinct-push nat_list_eq_equiv names name apart new

pub distinct-front : {A : Type 0} (e : A → A → Bool) (xs ys : List A) → IsDistinct e (xs ++ ys) → IsDistinct e xs
unfolding IsDistinct
distinct-front e [] ys h = tt
distinct-front e (x ∷ xs) ys h = (all-front (λ y. e x y ≡ false) xs ys h.0, distinct-front e xs ys h.1)

neither : (a b : Bool) → a ≡ false → b ≡ false → (a || b) ≡ false
neither true b e f = e
neither false b e f = f

distinct-new : {A : Type 0} (e : A → A → Bool) → ((a b : A) → e a b ≡ e b a) → (xs : List A) (x : A) (ys : List A) → IsDistinct e (xs ++ x ∷ ys) → list_any (e x) xs ≡ false
unfolding IsDistinct
distinct-new e swap [] x ys h = refl
distinct-new e swap (y ∷ xs) x ys h = neither (e x y) (list_any (e x) xs) (swap x y ∙ all-seam (λ z. e y z ≡ false) xs x ys h.0) (distinct-new e swap xs x ys h.1)

pub keys-new : (xs : List Key) (x : Key) (ys : List Key) → IsDistinct same_key (xs ++ x ∷ ys) → list_any (same_key x) xs ≡ false
keys-new = distinct-new same_key keys-swap

pub names-new : (xs : List Bytes) (x : Bytes) (ys : List Bytes) → IsDistinct bytes_eq (xs ++ x ∷ ys) → list_any (bytes_eq x) xs ≡ false
names-new = distinct-new bytes_eq (nat_list_eq_equiv).symm

-- ---- the last of a list

pub last-same : {A : Type 0} (xs : List A) (x : A) (ys : List A) (y : A) → xs ++ x ∷ [] ≡ ys ++ y ∷ [] → x ≡ y
last-same [] x [] y e = cc
last-same [] x (z ∷ ys) y e = absurd (omega (arith, ap length e, length-append ys (y ∷ [])))
last-same (z ∷ xs) x [] y e = absurd (omega (arith, ap length e, length-append xs (x ∷ [])))
last-same (z ∷ xs) x (w ∷ ys) y e = let t : xs ++ x ∷ [] ≡ ys ++ y ∷ [] = cc in last-same xs x ys y t
