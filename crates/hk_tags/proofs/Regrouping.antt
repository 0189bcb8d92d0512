-- A group that is taken out and put back.
use Rattle.std.proofs.Common.{◌≡◌, refl, ap, ◌∙◌, cond, List, [], ◌∷◌}
use Rattle.std.specs.List.{AllByRecursion}
use Rattle.std.specs.List.Sorted.{IsStrictlySortedBy}
use Rattle.std.specs.Map.{keys_of, remove_entry}
use Rattle.std.specs.BTreeMap.{insert_entry, is_at}
use Rattle.std.specs.Ordering.{nat_cmp, is_eq, match_ordering}
use Rattle.std.specs.Cmp.Lexicographic.{slice_cmp, nat_list_cmp_total}
use Rattle.std.specs.declared.cmp.Ordering.{Ordering}
use Rattle.std.specs.declared.cmp.Ordering.TheVariants.{Less, Equal, Greater}
use Rattle.std.proofs.lemmas.Map.Lookups.{exact_bytes}
use Rattle.hk_base.specs.Bytes.{Bytes}

abbrev pub R : Bytes → Bytes → Ordering
R = slice_cmp nat_cmp

pub all-below : (k x : Bytes) (ys : List Bytes) → R k x ≡ Less → AllByRecursion (λ y. R x y ≡ Less) ys → AllByRecursion (λ y. R k y ≡ Less) ys
all-below k x [] l h = tt
all-below k x (y ∷ ys) l h = (nat_list_cmp_total.trans k x y l h.0, all-below k x ys l h.1)

all-equal : (k x : Bytes) (ys : List Bytes) → R k x ≡ Equal → AllByRecursion (λ y. R x y ≡ Less) ys → AllByRecursion (λ y. R k y ≡ Less) ys
all-equal k x [] l h = tt
all-equal k x (y ∷ ys) l h = (nat_list_cmp_total.congr k x y l ∙ h.0, all-equal k x ys l h.1)

module _ {X : Type 0} where
  remove-below : (k : Bytes) (es : List (Bytes × X)) → AllByRecursion (λ y. R k y ≡ Less) (keys_of es) → remove_entry (is_at (R k)) es ≡ es
  remove-below k [] h = refl
  remove-below k (e ∷ es) h = ap (λ o. cond (is_eq o) es (e ∷ remove_entry (is_at (R k)) es)) h.0 ∙ ap (λ l. e ∷ l) (remove-below k es h.1)

  insert-below : (k : Bytes) (v : X) (es : List (Bytes × X)) → AllByRecursion (λ y. R k y ≡ Less) (keys_of es) → insert_entry R es k v ≡ (k, v) ∷ es
  insert-below k v [] h = refl
  insert-below k v (e ∷ es) h = ap (λ o. match_ordering o ((k, v) ∷ e ∷ es) ((e.0, v) ∷ es) (e ∷ insert_entry R es k v)) h.0

  -- it doesn't matter that the old one was taken out before
  pub insert-removed : (k : Bytes) (v : X) (es : List (Bytes × X)) → IsStrictlySortedBy R (keys_of es) → insert_entry R (remove_entry (is_at (R k)) es) k v ≡ insert_entry R es k v
  unfolding IsStrictlySortedBy
  insert-removed k v [] s = refl
  insert-removed k v (e ∷ es) s =
      elim (R k e.0) as (λ o. R k e.0 ≡ o → insert_entry R (cond (is_eq o) es (e ∷ remove_entry (is_at (R k)) es)) k v ≡ match_ordering o ((k, v) ∷ e ∷ es) ((e.0, v) ∷ es) (e ∷ insert_entry R es k v)) [
        | Less ↦ λ h.
            ap (λ o. match_ordering o ((k, v) ∷ e ∷ remove_entry (is_at (R k)) es) ((e.0, v) ∷ remove_entry (is_at (R k)) es) (e ∷ insert_entry R (remove_entry (is_at (R k)) es) k v)) h
            ∙ ap (λ l. (k, v) ∷ e ∷ l) (remove-below k es (all-below k e.0 (keys_of es) h s.0))
        | Equal ↦ λ h. insert-below k v es (all-equal k e.0 (keys_of es) h s.0) ∙ ap (λ x. (x, v) ∷ es) (exact_bytes k e.0 h)
        | Greater ↦ λ h.
            ap (λ o. match_ordering o ((k, v) ∷ e ∷ remove_entry (is_at (R k)) es) ((e.0, v) ∷ remove_entry (is_at (R k)) es) (e ∷ insert_entry R (remove_entry (is_at (R k)) es) k v)) h
            ∙ ap (λ l. e ∷ l) (insert-removed k v es s.1)
      ] refl
