-- The names under which items save pages, and their numbers.
use Rattle.std.specs.Prelude.{ℕ, ◌-◌, ◌≤◌, List, map, length, Option, option_map, bytes_eq}
use Rattle.std.specs.List.{position_from, slice_index_or}
use Rattle.hk_base.specs.Bytes.{Bytes}
use Rattle.hk_base.specs.Identifier.{Ident}
use Rattle.hk_chain.specs.Counts.{layout_of}
use Rattle.hk_chain.specs.Layout.{Shape}
use Rattle.hk_chain.specs.declared.chain.Step.{Step}
use Rattle.hk_rules.specs.declared.owner.Owner.{Owner}
pub use Rattle.hk_rules_file.specs.Saves.{saved, saves, page_names}
use Rattle.hk_chain.specs.Names.{final_name}

-- an item's chain has 64 steps at most
abbrev pub IsShort : Ident × Owner → Type 0
IsShort item = length item.1.rule.chain ≤ 64

abbrev pub count_of : Ident × Owner → ℕ
count_of item = length (saves item.1.rule.chain)

abbrev pub counts : List (Ident × Owner) → List ℕ
counts items = map count_of items

-- the pairs of the items, item after item
abbrev pub layout : List (Ident × Owner) → Shape
layout items = layout_of (counts items)

-- the place of a name among those of a chain
abbrev pub place_of_save : List Step → Bytes → Option ℕ
place_of_save steps name = position_from (λ own. bytes_eq own name) 0 (page_names steps)

-- the pair of an item with a name, counted back from the item's last pair
abbrev pub pair_at : ℕ → List Step → Bytes → Option ℕ
pair_at last steps name = option_map (λ place. last - (length (saves steps) - place)) (place_of_save steps name)

-- the name at a place, the finished page's after all others
abbrev pub name_at : List Step → ℕ → Bytes
name_at steps place = slice_index_or (saves steps) place final_name

-- the name of a pair of an item whose last pair is `last`
abbrev pub name_before : ℕ → List Step → ℕ → Bytes
name_before last steps pair = name_at steps (length (saves steps) - (last - pair))
