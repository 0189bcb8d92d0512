-- What is repeated at the places of a list.
use Rattle.std.specs.Prelude.{◌≡◌, ℕ}
use Rattle.hk_template.specs.Tree.{Nodes}
use Rattle.hk_eval.specs.Blocks.{block_nodes}
use Rattle.hk_eval.specs.declared.frame.Repeat.{Repeat}
use Rattle.hk_eval.specs.declared.place.Place.{Place}

-- these nodes at each place, and those between two, at this place
pub record Repeats (r : Repeat) (each between : Nodes) (levels : ℕ) (place : Place) : Type 0 where
  pub nodes : block_nodes r.each ≡ each
  pub apart : block_nodes r.sep ≡ between
  pub below : r.left ≡ levels
  pub at : r.here ≡ place
