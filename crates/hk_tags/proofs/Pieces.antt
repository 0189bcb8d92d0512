-- The pages of pieces, one after another.
use Rattle.std.proofs.Common.{◌≡◌, sym, ap, ◌∙◌, arith, ℕ, ◌+◌, ◌-◌, ◌*◌, ◌<◌, cond, List, [], ◌∷◌, ◌++◌, length, map, take, drop, drop-drop, zero-add}
use Rattle.std.specs.Prelude.{codes}
use Rattle.std.specs.List.{range_with_len}
use Rattle.std.proofs.lemmas.Bool.{ne_eqb, lt-ltb}
use Rattle.std.proofs.lemmas.List.FromFn.{map-range_with_len_more}
use Rattle.hk_base.specs.Bytes.{Bytes}
use Rattle.hk_rules_file.specs.declared.tables.PageRule.{PageRule}
use Rattle.hk_tags.specs.Pages.{PageView, count_of_pieces, piece_page, page_at, pages_of_items, piece_path, newer, older}

-- the items that are left after one more piece
pub drop-turn : (per : ℕ) (items rest new : List ℕ) (place : ℕ) → rest ≡ drop (place * per) items → new ≡ drop per rest → new ≡ drop ((place + 1) * per) items
drop-turn per items rest new place was more =
    let e : place * per + per ≡ (place + 1) * per = omega arith in
    more ∙ (ap (drop per) was ∙ (drop-drop per (place * per) items ∙ ap (λ k. drop k items) e))

-- one more page
pub page-turn : (table : PageRule) (items : List ℕ) (place : ℕ) (old new : List PageView) (page : PageView) (count : ℕ) (members rest : List ℕ)
    → count ≡ count_of_pieces table.per (length items) → rest ≡ drop (place * table.per) items → members ≡ take table.per rest → page ≡ piece_page table count (place + 1) members
    → old ≡ map (page_at table items) (range_with_len 0 place) → new ≡ old ++ page ∷ [] → new ≡ map (page_at table items) (range_with_len 0 (place + 1))
page-turn table items place old new page count members rest counted left front is so_far more =
    let here : page ≡ page_at table items place =
    is ∙ (ap (λ c. piece_page table c (place + 1) members) counted ∙ ap (piece_page table (count_of_pieces table.per (length items)) (place + 1)) (front ∙ ap (take table.per) left)) in
    more ∙ (ap (λ l. l ++ page ∷ []) so_far ∙ (ap (λ p. map (page_at table items) (range_with_len 0 place) ++ p ∷ []) here ∙ sym (map-range_with_len_more (page_at table items) 0 place place (zero-add place))))

pub pages-all : (table : PageRule) (items : List ℕ) (place count : ℕ) (pages : List PageView) → count ≡ count_of_pieces table.per (length items) → place ≡ count → pages ≡ map (page_at table items) (range_with_len 0 place) → pages ≡ pages_of_items table items
pages-all table items place count pages counted over so_far = so_far ∙ ap (λ n. map (page_at table items) (range_with_len 0 n)) (over ∙ counted)

-- ---- the pages beside a page

pub newer-pushed : (table : PageRule) (number : ℕ) (old new : List (Bytes × Bytes)) (path : Bytes) → (number ≡ 1 → ⊥) → path ≡ piece_path table (number - 1) → new ≡ old ++ (codes "newerPath", path) ∷ [] → new ≡ old ++ newer table number
newer-pushed table number old new path ne is more =
    more
    ∙ (ap (λ p. old ++ (codes "newerPath", p) ∷ []) is
    ∙ ap (λ b. old ++ cond b [] ((codes "newerPath", piece_path table (number - 1)) ∷ [])) (sym (ne_eqb number 1 ne)))

pub older-pushed : (table : PageRule) (count number : ℕ) (old new : List (Bytes × Bytes)) (path : Bytes) → number < count → path ≡ piece_path table (number + 1) → new ≡ old ++ (codes "olderPath", path) ∷ [] → new ≡ old ++ older table count number
older-pushed table count number old new path lt is more =
    more
    ∙ (ap (λ p. old ++ (codes "olderPath", p) ∷ []) is
    ∙ ap (λ b. old ++ cond b ((codes "olderPath", piece_path table (number + 1)) ∷ []) []) (sym (lt-ltb number count lt)))
