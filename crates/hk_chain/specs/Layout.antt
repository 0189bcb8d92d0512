-- Which pairs each item has.
use Rattle.std.specs.Prelude.{◌≡◌, ℕ, ◌<◌, ◌≤◌, ◌^◌, List, length, slice_index}

-- the item of each pair, and the pair of each item's finished page
pub record Shape : Type 0 where
  pub items : ℕ
  pub pair_item : List ℕ
  pub final_pair : List ℕ

abbrev pub pairs : Shape → ℕ
pairs lay = length lay.pair_item

abbrev pub item_of : Shape → ℕ → ℕ
item_of lay p = slice_index lay.pair_item p

abbrev pub final_of : Shape → ℕ → ℕ
final_of lay i = slice_index lay.final_pair i

-- the pairs stand item after item, and each item's finished page is the last of its pairs
pub record IsShape (lay : Shape) : Type 0 where
  pub in_items : (p : ℕ) → p < pairs lay → item_of lay p < lay.items
  pub in_order : (p q : ℕ) → p ≤ q → q < pairs lay → item_of lay p ≤ item_of lay q
  pub finals : length lay.final_pair ≡ lay.items
  pub in_pairs : (i : ℕ) → i < lay.items → final_of lay i < pairs lay
  pub own_final : (i : ℕ) → i < lay.items → item_of lay (final_of lay i) ≡ i
  pub final_last : (p : ℕ) → p < pairs lay → p ≤ final_of lay (item_of lay p)

-- and their numbers fit
pub record IsLayout (lay : Shape) : Type 0 where
  pub shape : IsShape lay
  pub few_items : lay.items < 2 ^ 32
  pub few_pairs : pairs lay < 2 ^ 32
