-- Paths that ascend are determined by which paths they are.
use Rattle.std.proofs.Common.{◌≡◌, Bool, true, false, cond, List, [], ◌∷◌, map, Some, None, refl, sym, ap, ◌∙◌, ◌||◌}
use Rattle.std.specs.Ordering.{nat_cmp, eq_by_cmp}
use Rattle.std.specs.Cmp.Lexicographic.{slice_cmp, nat_list_cmp_total}
use Rattle.std.specs.List.{list_any}
use Rattle.std.specs.declared.cmp.Ordering.{Ordering}
use Rattle.std.specs.FinMap.Entries.{find, same_entries}
use Rattle.hk_base.specs.Bytes.{Bytes, ascends}
use Rattle.hk_base.specs.Ties.{only_equal_tie, ties-same}
use Rattle.hk_base.proofs.Both.{holds-of}

abbrev R : Bytes → Bytes → Ordering
R = slice_cmp nat_cmp

abbrev twice : Bytes → Bytes × Bytes
twice k = (k, k)

abbrev is_among : Bytes → List Bytes → Bool
is_among q ks = list_any (eq_by_cmp R q) ks

find-twice : (q : Bytes) (ks : List Bytes) → find R q (map twice ks) ≡ cond (is_among q ks) (Some q) None
find-twice q [] = refl
find-twice q (k ∷ ks) = elim (eq_by_cmp R q k) as (λ b. eq_by_cmp R q k ≡ b → cond b (Some k) (find R q (map twice ks)) ≡ cond (b || is_among q ks) (Some q) None) [ true ↦ λ t. ap Some (sym (ties-same q k t)) | false ↦ λ t. find-twice q ks ] refl

once : (ks : List Bytes) → map (λ (e : Bytes × Bytes). e.0) (map twice ks) ≡ ks
once [] = refl
once (k ∷ ks) = ap (λ t. k ∷ t) (once ks)

pub same-paths : (xs ys : List Bytes) → ascends xs ≡ true → ascends ys ≡ true → ((q : Bytes) → is_among q xs ≡ is_among q ys) → xs ≡ ys
same-paths xs ys s t same =
    sym (once xs) ∙ ap (map (λ (e : Bytes × Bytes). e.0)) (same_entries R nat_list_cmp_total only_equal_tie (map twice xs) (map twice ys) (holds-of _ s) (holds-of _ t)
    (λ q. find-twice q xs ∙ ap (λ b. cond b (Some q) None) (same q) ∙ sym (find-twice q ys))) ∙ once ys
