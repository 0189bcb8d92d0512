-- A map from texts to their first places, put together from the last text on.
use Rattle.std.proofs.Common.{◌≡◌, ℕ, ◌+◌, ◌<◌, true, false, cond, List, [], ◌∷◌, length, map, drop, get_or, Some, refl, sym, ap, ◌∙◌, Vec}
use Rattle.std.specs.Prelude.{bytes_eq}
use Rattle.std.specs.BTreeMap.{insert_entry}
use Rattle.std.specs.Cmp.Lexicographic.{slice_cmp, nat_list_cmp_total}
use Rattle.std.specs.FinMap.Entries.{find, put, find-put, by_order}
use Rattle.std.specs.List.{position_from}
use Rattle.std.specs.Ordering.{nat_cmp, is_eq, match_ordering}
use Rattle.std.specs.declared.alloc.Global.{Global}
use Rattle.std.specs.declared.cmp.Ordering.{Ordering}
use Rattle.std.specs.declared.cmp.Ordering.TheVariants.{Less, Equal, Greater}
use Rattle.std.proofs.lemmas.List.{drop_more}
use Rattle.hk_base.specs.Bytes.{Bytes}
use Rattle.hk_base.specs.Ties.{same_test}
use Rattle.hk_replay.specs.Places.{place_in}

abbrev Owned : Type 0
Owned = Vec ℕ Global

abbrev R : Bytes → Bytes → Ordering
R = slice_cmp nat_cmp

abbrev vec_cmp : Owned → Owned → Ordering
vec_cmp x y = slice_cmp nat_cmp x.items y.items

abbrev seen : Owned × ℕ → Bytes × ℕ
seen e = (e.0.items, e.1)

find-seen : (q : Bytes) (es : List (Owned × ℕ)) → find R q (map seen es) ≡ place_in es q
find-seen q [] = refl
find-seen q (e ∷ es) = elim (is_eq (slice_cmp nat_cmp q e.0.items)) as (λ b. cond b (Some e.1) (find R q (map seen es)) ≡ cond b (Some e.1) (place_in es q)) [ true ↦ refl | false ↦ find-seen q es ]

seen-insert : (es : List (Owned × ℕ)) (k : Owned) (v : ℕ) → map seen (insert_entry vec_cmp es k v) ≡ put R k.items v (map seen es)
seen-insert [] k v = refl
seen-insert (e ∷ es) k v = elim (slice_cmp nat_cmp k.items e.0.items) as (λ o. map seen (match_ordering o ((k, v) ∷ e ∷ es) ((e.0, v) ∷ es) (e ∷ insert_entry vec_cmp es k v)) ≡ by_order o ((k.items, v) ∷ map seen (e ∷ es)) ((e.0.items, v) ∷ map seen es) (seen e ∷ put R k.items v (map seen es))) [ Less ↦ refl | Equal ↦ refl | Greater ↦ ap (λ t. seen e ∷ t) (seen-insert es k v) ]

place-put : (es : List (Owned × ℕ)) (k : Owned) (v : ℕ) (q : Bytes) → place_in (insert_entry vec_cmp es k v) q ≡ cond (bytes_eq k.items q) (Some v) (place_in es q)
place-put es k v q =
    sym (find-seen q (insert_entry vec_cmp es k v)) ∙ ap (find R q) (seen-insert es k v) ∙ find-put R nat_list_cmp_total q k.items v (map seen es)
    ∙ (λ i. cond (same_test q k.items i) (Some v) (find-seen q es i))

-- the text before those that were put
pub first-turn : (texts : List Bytes) (at : ℕ) (x : Bytes) (es new : List (Owned × ℕ)) (k : Owned) → at < length texts → x ≡ get_or texts at x → k.items ≡ x → new ≡ insert_entry vec_cmp es k at
    → ((q : Bytes) → place_in es q ≡ position_from (λ own. bytes_eq own q) (at + 1) (drop (at + 1) texts))
    → (q : Bytes) → place_in new q ≡ position_from (λ own. bytes_eq own q) at (drop at texts)
first-turn texts at x es new k lt here same is before q =
    ap (λ t. place_in t q) is ∙ place-put es k at q ∙ (λ i. cond (bytes_eq (same i) q) (Some at) (before q i))
    ∙ sym (ap (position_from (λ own. bytes_eq own q) at) (drop_more texts at x lt ∙ ap (λ y. y ∷ drop (at + 1) texts) (sym here)))
