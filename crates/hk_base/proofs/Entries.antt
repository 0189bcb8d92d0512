-- Entries in the order of their paths, and the map that they make.
use Rattle.std.proofs.Common.{◌≡◌, true, false, List, [], ◌∷◌, Option, Some, None, cond, refl, sym, ap, subst, ◌∙◌, length, arith}
use Rattle.std.specs.Ordering.{nat_cmp, is_lt, is_eq, eq_by_cmp}
use Rattle.std.specs.Cmp.Lexicographic.{slice_cmp, nat_list_cmp_total}
use Rattle.std.specs.Prelude.{T}
use Rattle.std.specs.declared.cmp.Ordering.{Ordering}
use Rattle.std.specs.declared.cmp.Ordering.TheVariants.{Less, Equal, Greater}
use Rattle.std.specs.FinMap.{from_entries, get, insert, entries, same_map, get-insert, entries-insert, len-entries, len-empty, empty}
use Rattle.std.specs.FinMap.Entries.{find, put, is_sorted, below_all, by_order}
use Rattle.hk_base.specs.Bytes.{Bytes, Files}
use Rattle.hk_base.specs.Ties.{only_equal_tie, ties-same, ties-self}
use Rattle.hk_base.proofs.Both.{both-left, both-right, not-both}

abbrev R : Bytes → Bytes → Ordering
R = slice_cmp nat_cmp

pub is-less : (o : Ordering) → T (is_lt o) → o ≡ Less
is-less Less p = refl
is-less Equal p = absurd p
is-less Greater p = absurd p

pub put-below : (k v : Bytes) (es : List (Bytes × Bytes)) → T (below_all R k es) → put R k v es ≡ (k, v) ∷ es
put-below k v [] h = refl
put-below k v (e ∷ es) h = ap (λ o. by_order o ((k, v) ∷ e ∷ es) ((e.0, v) ∷ es) (e ∷ put R k v es)) (is-less _ (both-left _ _ h))

no-length : (es : List (Bytes × Bytes)) → length es ≡ 0 → es ≡ []
no-length [] e = refl
no-length (e ∷ es) h = absurd (omega arith)

-- entries in order are those of their map
pub entries-from_entries : (es : List (Bytes × Bytes)) → T (is_sorted R es) → entries (from_entries {R = R} es) ≡ es
entries-from_entries [] h = no-length _ (sym (len-entries (empty {X = Bytes} {R = R})) ∙ len-empty R Bytes)
entries-from_entries (e ∷ es) h = entries-insert nat_list_cmp_total (from_entries es) e.0 e.1 ∙ ap (put R e.0 e.1) (entries-from_entries es (both-right _ _ h)) ∙ put-below e.0 e.1 es (both-left _ _ h)

-- a path below all others is not among them
pub find-below : (q k : Bytes) (es : List (Bytes × Bytes)) → k ≡ q → T (below_all R k es) → find R q es ≡ None
find-below q k [] s h = refl
find-below q k (e ∷ es) s h = subst (λ o. cond (is_eq o) (Some e.1) (find R q es) ≡ None) (sym (subst (λ x. R x e.0 ≡ Less) s (is-less _ (both-left _ _ h)))) (find-below q k es s (both-right _ _ h))

-- without the first entry of a path
unfoldable pub removed : Bytes → List (Bytes × Bytes) → List (Bytes × Bytes)
removed k [] = []
removed k (e ∷ es) = cond (eq_by_cmp R k e.0) es (e ∷ removed k es)

pub find-removed : (q k : Bytes) (es : List (Bytes × Bytes)) → T (is_sorted R es) → find R q (removed k es) ≡ cond (eq_by_cmp R q k) None (find R q es)
unfolding removed
find-removed q k [] h = elim (eq_by_cmp R q k) as (λ b. ◌≡◌ {A = Option Bytes} None (cond b None None)) [ true ↦ refl | false ↦ refl ]
find-removed q k (e ∷ es) h =
    elim (eq_by_cmp R k e.0) as (λ b. eq_by_cmp R k e.0 ≡ b → find R q (cond b es (e ∷ removed k es)) ≡ cond (eq_by_cmp R q k) None (cond (eq_by_cmp R q e.0) (Some e.1) (find R q es))) [
      | true ↦ λ t. at (ties-same k e.0 t)
      | false ↦ λ t. past t (find-removed q k es (both-right _ _ h))
    ] refl
  where
    at : k ≡ e.0 → find R q es ≡ cond (eq_by_cmp R q k) None (cond (eq_by_cmp R q e.0) (Some e.1) (find R q es))
    at s = subst (λ x. find R q es ≡ cond (eq_by_cmp R q x) None (cond (eq_by_cmp R q e.0) (Some e.1) (find R q es))) (sym s)
        (elim (eq_by_cmp R q e.0) as (λ b. eq_by_cmp R q e.0 ≡ b → find R q es ≡ cond b None (cond b (Some e.1) (find R q es))) [
          | true ↦ λ t. find-below q e.0 es (sym (ties-same q e.0 t)) (both-left _ _ h)
          | false ↦ λ t. refl
        ] refl)

    apart : eq_by_cmp R k e.0 ≡ false → q ≡ e.0 → eq_by_cmp R q k ≡ false
    apart t s = elim (eq_by_cmp R q k) as (λ b. eq_by_cmp R q k ≡ b → b ≡ false) [
      | true ↦ λ u. not-both _ (ties-self e.0) (ap (λ x. eq_by_cmp R x e.0) (sym s ∙ ties-same q k u) ∙ t)
      | false ↦ λ u. refl
    ] refl

    past : eq_by_cmp R k e.0 ≡ false → find R q (removed k es) ≡ cond (eq_by_cmp R q k) None (find R q es) → cond (eq_by_cmp R q e.0) (Some e.1) (find R q (removed k es)) ≡ cond (eq_by_cmp R q k) None (cond (eq_by_cmp R q e.0) (Some e.1) (find R q es))
    past t rest = elim (eq_by_cmp R q e.0) as (λ b. eq_by_cmp R q e.0 ≡ b → cond b (Some e.1) (find R q (removed k es)) ≡ cond (eq_by_cmp R q k) None (cond b (Some e.1) (find R q es))) [
      | true ↦ λ u. ap (λ b. cond b None (Some e.1)) (sym (apart t (ties-same q e.0 u)))
      | false ↦ λ u. rest
    ] refl

-- to put what is there changes nothing
pub insert-same : (m : Files) (k v : Bytes) → get m k ≡ Some v → insert m k v ≡ m
insert-same m k v e = same_map nat_list_cmp_total only_equal_tie _ _ (λ q. get-insert nat_list_cmp_total m k v q
    ∙ elim (eq_by_cmp R q k) as (λ b. eq_by_cmp R q k ≡ b → cond b (Some v) (get m q) ≡ get m q) [ true ↦ λ t. sym (ap (get m) (ties-same q k t) ∙ e) | false ↦ λ t. refl ] refl)
