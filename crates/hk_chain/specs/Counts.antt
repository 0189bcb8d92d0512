-- The layout of items by how many pages each saves on its way.
use Rattle.std.specs.Prelude.{ℕ, ◌+◌, List, [], ◌∷◌, ◌++◌, length, replicate}
use Rattle.hk_chain.specs.Layout.{Shape}

-- the items of the pairs, from item i on
abbrev pub pair_items : ℕ → List ℕ → List ℕ
pair_items i [] = []
pair_items i (c ∷ cs) = replicate (c + 1) i ++ pair_items (i + 1) cs

-- the last pairs of the items, from pair p on
abbrev pub last_pairs : ℕ → List ℕ → List ℕ
last_pairs p [] = []
last_pairs p (c ∷ cs) = (p + c) ∷ last_pairs (p + c + 1) cs

abbrev pub layout_of : List ℕ → Shape
layout_of counts = record { items = length counts; pair_item = pair_items 0 counts; final_pair = last_pairs 0 counts }
