-- The pages that tables give.
use Rattle.std.specs.Prelude.{ℕ, ◌+◌, ◌-◌, ◌*◌, ◌/◌, Bool, false, ◌==◌, nat_lt, List, [], ◌∷◌, ◌++◌, length, map, fold, take, drop, Option, Some, None, unwrap_or, Result, Ok, Err, codes, if◌then◌else◌}
use Rattle.std.specs.Fmt.{decimal}
use Rattle.std.specs.List.{range_with_len, slice_get}
use Rattle.std.specs.Map.{lookup}
use Rattle.std.specs.Ordering.{nat_cmp}
use Rattle.std.specs.Cmp.Lexicographic.{slice_cmp}
use Rattle.std.specs.BTreeMap.{insert_entry, is_at}
use Rattle.hk_base.specs.Bytes.{Bytes}
use Rattle.hk_rules.specs.Plan.{Lookups}
use Rattle.hk_rules_file.specs.declared.tables.PageRule.{PageRule}
use Rattle.hk_rules_file.specs.declared.tables.TagRule.{TagRule}
use Rattle.hk_tags.specs.Dates.{ordered}
use Rattle.hk_tags.specs.Members.{members, tags_at}
use Rattle.hk_tags.specs.TagTexts.{slug}

-- a page's path, the items that it lists, in order, and the keys and texts of its own
pub record PageView : Type 0 where
  pub path : Bytes
  pub members : List ℕ
  pub own : List (Bytes × Bytes)

abbrev pub html : Bytes
html = codes ".html"

-- ---- a page for each tag

-- the items of a tag, so far
abbrev pub group_at : List (Bytes × List ℕ) → Bytes → List ℕ
group_at groups tag = unwrap_or (lookup (is_at (slice_cmp nat_cmp tag)) groups) []

abbrev pub is_item : ℕ → Option ℕ → Bool
is_item item None = false
is_item item (Some last) = last == item

abbrev pub ends_with : List ℕ → ℕ → Bool
ends_with items item = is_item item (slice_get items (length items - 1))

-- the items with one more, unless it is the last one already
abbrev pub with_last : List ℕ → ℕ → List ℕ
with_last items item = if ends_with items item then items else items ++ item ∷ []

-- the groups with an item more in that of a tag
abbrev pub with_tag : ℕ → List (Bytes × List ℕ) → Bytes → List (Bytes × List ℕ)
with_tag item groups tag = insert_entry (slice_cmp nat_cmp) groups tag (with_last (group_at groups tag) item)

-- and in those of all its tags
abbrev pub with_tags_of : Lookups → Bytes → List (Bytes × List ℕ) → ℕ → List (Bytes × List ℕ)
with_tags_of plan field groups item = fold (with_tag item) groups (tags_at plan field item)

-- for each tag of items, in byte order, those that have it
abbrev pub grouped : Lookups → Bytes → List ℕ → List (Bytes × List ℕ)
grouped plan field items = fold (with_tags_of plan field) [] items

abbrev pub group_page : TagRule → Bytes × List ℕ → PageView
group_page table group = record { path = table.prefix ++ (slug group.0 ++ html); members = group.1; own = (codes "tag", group.0) ∷ [] }

-- the pages of a table for tags: one for each tag, which lists the items that have it
unfoldable pub tag_pages : Lookups → TagRule → List PageView
tag_pages plan table = map (group_page table) (grouped plan table.field (members plan table.of))

-- ---- numbered pages

-- how many pages so many items have; without items there is one
abbrev pub count_of_pieces : ℕ → ℕ → ℕ
count_of_pieces per count = if count == 0 then 1 else (count - 1) / per + 1

-- the items of the page of this place, from 0
abbrev pub piece_at : ℕ → List ℕ → ℕ → List ℕ
piece_at per items place = take per (drop (place * per) items)

-- the path of the page of a number, from 1
abbrev pub piece_path : PageRule → ℕ → Bytes
piece_path table number = if number == 1 then table.first else table.prefix ++ (decimal number ++ html)

-- the page before, where there is one, and the page after
abbrev pub newer : PageRule → ℕ → List (Bytes × Bytes)
newer table number = if number == 1 then [] else (codes "newerPath", piece_path table (number - 1)) ∷ []

abbrev pub older : PageRule → ℕ → ℕ → List (Bytes × Bytes)
older table count number = if nat_lt number count then (codes "olderPath", piece_path table (number + 1)) ∷ [] else []

-- the number of a page, and how many there are
abbrev pub numbers : ℕ → ℕ → List (Bytes × Bytes)
numbers count number = (codes "page", decimal number) ∷ (codes "pages", decimal count) ∷ []

-- the page of a piece of this number, of so many
abbrev pub piece_page : PageRule → ℕ → ℕ → List ℕ → PageView
piece_page table count number piece =
    record {
      path = piece_path table number;
      members = piece;
      own = (numbers count number ++ newer table number) ++ older table count number;
    }

abbrev pub page_at : PageRule → List ℕ → ℕ → PageView
page_at table items place = piece_page table (count_of_pieces table.per (length items)) (place + 1) (piece_at table.per items place)

-- a page for each piece of so many items; the last one may have fewer
abbrev pub pages_of_items : PageRule → List ℕ → List PageView
pages_of_items table items = map (page_at table items) (range_with_len 0 (count_of_pieces table.per (length items)))

abbrev pub pages_by : PageRule → Result (List ℕ) ℕ → Result (List PageView) ℕ
pages_by table (Ok items) = Ok (pages_of_items table items)
pages_by table (Err item) = Err item

-- the pages of a table for numbered pages, or the first member whose date is wanting
unfoldable pub piece_pages : Lookups → PageRule → Result (List PageView) ℕ
piece_pages plan table = pages_by table (ordered plan table.order (members plan table.of))
