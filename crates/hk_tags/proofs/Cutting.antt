-- The pieces of a list are the list again, and none is too long.
use Rattle.std.proofs.Common.{◌≡◌, ◌∙◌, ℕ, zero, suc, ◌+◌, ◌-◌, ◌*◌, ◌/◌, ◌<◌, ◌≤◌, cond, List, [], ◌∷◌, ◌++◌, length, map, take, drop, drop-drop, take-add, take_all, Result, Ok, sym, ap, subst, arith}
use Rattle.std.specs.List.{AllByRecursion, flat_map, range_with_len}
use Rattle.std.proofs.Math.Nat.{lt-div-mul-add}
use Rattle.std.proofs.lemmas.Bool.{ne_eqb}
use Rattle.hk_rules.specs.Plan.{Lookups}
use Rattle.hk_rules_file.specs.Linked.{ArePagesLinked}
use Rattle.hk_rules_file.specs.declared.tables.PageRule.{PageRule}
use Rattle.hk_tags.specs.Dates.{ordered}
use Rattle.hk_tags.specs.Listings.{ListsOnce, ListsByPiece, listed}
use Rattle.hk_tags.specs.Members.{members}
use Rattle.hk_tags.specs.Pages.{PageView, count_of_pieces, piece_at, page_at, pages_of_items, pages_by, piece_pages}

pages-whole : (table : PageRule) (items : List ℕ) (n a : ℕ) → flat_map listed (map (page_at table items) (range_with_len a n)) ≡ take (n * table.per) (drop (a * table.per) items)
pages-whole table items zero a = let e : 0 ≡ 0 * table.per = omega arith in ap (λ k. take k (drop (a * table.per) items)) e
pages-whole table items (suc n) a =
    let next : a * table.per + table.per ≡ (a + 1) * table.per = omega arith in
    let more : table.per + n * table.per ≡ suc n * table.per = omega arith in
    ap (λ l. piece_at table.per items a ++ l) (pages-whole table items n (a + 1) ∙ ap (take (n * table.per)) (ap (λ k. drop k items) (sym next) ∙ sym (drop-drop table.per (a * table.per) items)))
    ∙ (sym (take-add table.per (n * table.per) (drop (a * table.per) items)) ∙ ap (λ k. take k (drop (a * table.per) items)) more)

-- the pieces are enough
enough : (per count : ℕ) → 0 < per → count ≤ count_of_pieces per count * per
enough per zero le = omega arith
enough per (suc count) le =
    let h = lt-div-mul-add {a = count} {b = per} le in
    let f : (count / per + 1) * per ≡ count / per * per + per = omega arith in
    let few : suc count ≤ (count / per + 1) * per = omega (arith, h, f) in
    let e : suc count - 1 ≡ count = omega arith in
    let some : count_of_pieces per (suc count) ≡ count / per + 1 = ap (λ b. cond b 1 ((suc count - 1) / per + 1)) (ne_eqb (suc count) 0 (λ none. omega (arith, none))) ∙ ap (λ k. k / per + 1) e in
    subst (λ pieces. suc count ≤ pieces * per) (sym some) few

all-short : (table : PageRule) (items : List ℕ) (n a : ℕ) → AllByRecursion (λ page. length page.members ≤ table.per) (map (page_at table items) (range_with_len a n))
all-short table items zero a = tt
all-short table items (suc n) a = (short table.per (drop (a * table.per) items), all-short table items n (a + 1))
  where
    short : (per : ℕ) (xs : List ℕ) → length (take per xs) ≤ per
    short zero xs = omega arith
    short (suc per) [] = omega arith
    short (suc per) (x ∷ xs) = let h = short per xs in omega arith

pages-once : (plan : Lookups) (table : PageRule) (items : List ℕ) → 1 ≤ table.per → ListsOnce plan table items (pages_of_items table items)
pages-once plan table items le =
    let n = count_of_pieces table.per (length items) in
    record {
      whole = pages-whole table items n 0 ∙ (let e : 0 * table.per ≡ 0 = omega arith in ap (λ k. take (n * table.per) (drop k items)) e ∙ take_all (n * table.per) items (enough table.per (length items) (omega (arith, le))));
      short = all-short table items n 0;
    }

pub lists-by-piece : (plan : Lookups) (table : PageRule) → 1 ≤ table.per → ListsByPiece plan table
unfolding piece_pages
lists-by-piece plan table le items pages is are =
    subst (ListsOnce plan table items) (same (pages_by table (ordered plan table.order (members plan table.of))) (pages_of_items table items) pages (ap (pages_by table) is) are) (pages-once plan table items le)
  where
    same : (r : Result (List PageView) ℕ) (x y : List PageView) → r ≡ Ok x → r ≡ Ok y → x ≡ y
    same r x y d e = cc

pub all-by-piece : (contexts patterns : ℕ) (plan : Lookups) (tables : List PageRule) → AllByRecursion (ArePagesLinked contexts patterns) tables → AllByRecursion (ListsByPiece plan) tables
all-by-piece contexts patterns plan [] h = tt
all-by-piece contexts patterns plan (table ∷ tables) h = (lists-by-piece plan table h.0.1.0, all-by-piece contexts patterns plan tables h.1)
