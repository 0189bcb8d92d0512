-- Which items the pages of tables list: a member stands on exactly the pages of its tags, and on exactly one piece.
use Rattle.std.specs.Prelude.{◌≡◌, ◌<◌, ◌≤◌, ◌↔◌, ◌⊎◌, ℕ, true, List, [], ◌∷◌, length, flat_map, Ok}
use Rattle.std.specs.List.{AllByRecursion}
use Rattle.std.specs.List.Sorted.{IsStrictlySortedBy}
use Rattle.std.specs.Ordering.{nat_cmp}
use Rattle.std.specs.Cmp.Lexicographic.{slice_cmp}
use Rattle.hk_base.specs.Bytes.{Bytes}
use Rattle.hk_rules.specs.Plan.{Lookups}
use Rattle.hk_rules_file.specs.declared.tables.PageRule.{PageRule}
use Rattle.hk_rules_file.specs.declared.tables.TagRule.{TagRule}
use Rattle.hk_tags.specs.Dates.{ordered}
use Rattle.hk_tags.specs.Members.{members, has_tag}
use Rattle.hk_tags.specs.Pages.{PageView, tag_pages, piece_pages}

-- one of these
abbrev pub IsOne : {X : Type 0} → List X → X → Type 0
IsOne [] x = ⊥
IsOne (y ∷ ys) x = (y ≡ x) ⊎ IsOne ys x

-- the page of a tag lists the members that have it, and no others
pub record IsPageOf (plan : Lookups) (table : TagRule) (tag : Bytes) (page : PageView) : Type 0 where
  pub lists : (item : ℕ) → IsOne page.members item ↔ (IsOne (members plan table.of) item × (has_tag plan table.field tag item ≡ true))
  pub ascends : IsStrictlySortedBy nat_cmp page.members

abbrev pub ArePagesOf : Lookups → TagRule → List Bytes → List PageView → Type 0
ArePagesOf plan table [] [] = Unit {0}
ArePagesOf plan table [] (page ∷ pages) = ⊥
ArePagesOf plan table (tag ∷ tags) [] = ⊥
ArePagesOf plan table (tag ∷ tags) (page ∷ pages) = IsPageOf plan table tag page × ArePagesOf plan table tags pages

-- a table gives one page for each tag that a member has, in the byte order of the tags
pub record ListsByTag (plan : Lookups) (table : TagRule) : Type 0 where
  pub tags : List Bytes
  pub ascend : IsStrictlySortedBy (slice_cmp nat_cmp) tags
  pub own : (tag : Bytes) → IsOne tags tag ↔ ((item : ℕ) × IsOne (members plan table.of) item × (has_tag plan table.field tag item ≡ true))
  pub pages : ArePagesOf plan table tags (tag_pages plan table)

-- the pages list items of which there are so many
abbrev pub ArePagesWithin : ℕ → List PageView → Type 0
ArePagesWithin count pages = AllByRecursion (λ page. AllByRecursion (λ item. item < count) page.members) pages

abbrev pub listed : PageView → List ℕ
listed page = page.members

-- the pieces are the members in their order, cut: each member is on exactly one, and none has too many
pub record ListsOnce (plan : Lookups) (table : PageRule) (items : List ℕ) (pages : List PageView) : Type 0 where
  pub whole : flat_map listed pages ≡ items
  pub short : AllByRecursion (λ page. length page.members ≤ table.per) pages

abbrev pub ListsByPiece : Lookups → PageRule → Type 0
ListsByPiece plan table =
    (items : List ℕ) (pages : List PageView) → ordered plan table.order (members plan table.of) ≡ Ok items → piece_pages plan table ≡ Ok pages → ListsOnce plan table items pages
