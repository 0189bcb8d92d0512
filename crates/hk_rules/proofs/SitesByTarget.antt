-- A map of sites with one more, looked up by paths.
use Rattle.std.proofs.Common.{◌≡◌, ℕ, true, false, List, [], ◌∷◌, map, Some, cond, refl, sym, ap, ◌∙◌, Vec}
use Rattle.std.specs.Prelude.{bytes_eq}
use Rattle.std.specs.Ordering.{nat_cmp, is_eq, match_ordering}
use Rattle.std.specs.Cmp.Lexicographic.{slice_cmp, nat_list_cmp_total}
use Rattle.std.specs.BTreeMap.{insert_entry}
use Rattle.std.specs.declared.cmp.Ordering.{Ordering}
use Rattle.std.specs.declared.cmp.Ordering.TheVariants.{Less, Equal, Greater}
use Rattle.std.specs.declared.alloc.Global.{Global}
use Rattle.std.specs.FinMap.Entries.{find, put, find-put, by_order}
use Rattle.hk_base.specs.Bytes.{Bytes}
use Rattle.hk_base.specs.Ties.{same_test}
use Rattle.hk_rules.specs.SiteMap.{site_in}
use Rattle.hk_rules.specs.declared.site.Site.{Site}

abbrev Target : Type 0
Target = Vec ℕ Global

abbrev target_cmp : Target → Target → Ordering
target_cmp x y = slice_cmp nat_cmp x.items y.items

abbrev seen : Target × Site → Bytes × Site
seen e = (e.0.items, e.1)

find-seen : (q : Bytes) (es : List (Target × Site)) → find (slice_cmp nat_cmp) q (map seen es) ≡ site_in es q
find-seen q [] = refl
find-seen q (e ∷ es) = elim (is_eq (slice_cmp nat_cmp q e.0.items)) as (λ b. cond b (Some e.1) (find (slice_cmp nat_cmp) q (map seen es)) ≡ cond b (Some e.1) (site_in es q)) [ true ↦ refl | false ↦ find-seen q es ]

seen-insert_entry : (es : List (Target × Site)) (k : Target) (v : Site) → map seen (insert_entry target_cmp es k v) ≡ put (slice_cmp nat_cmp) k.items v (map seen es)
seen-insert_entry [] k v = refl
seen-insert_entry (e ∷ es) k v = elim (slice_cmp nat_cmp k.items e.0.items) as (λ o. map seen (match_ordering o ((k, v) ∷ e ∷ es) ((e.0, v) ∷ es) (e ∷ insert_entry target_cmp es k v)) ≡ by_order o ((k.items, v) ∷ map seen (e ∷ es)) ((e.0.items, v) ∷ map seen es) (seen e ∷ put (slice_cmp nat_cmp) k.items v (map seen es))) [ Less ↦ refl | Equal ↦ refl | Greater ↦ ap (λ t. seen e ∷ t) (seen-insert_entry es k v) ]

pub site_in-insert_entry : (es : List (Target × Site)) (k : Target) (v : Site) (path : Bytes) → site_in (insert_entry target_cmp es k v) path ≡ cond (bytes_eq k.items path) (Some v) (site_in es path)
site_in-insert_entry es k v path =
    sym (find-seen path (insert_entry target_cmp es k v))
    ∙ ap (find (slice_cmp nat_cmp) path) (seen-insert_entry es k v)
    ∙ find-put (slice_cmp nat_cmp) nat_list_cmp_total path k.items v (map seen es)
    ∙ (λ i. cond (same_test path k.items i) (Some v) (find-seen path es i))
