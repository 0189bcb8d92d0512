-- The nodes of a block, one after another.
use Rattle.std.proofs.Common.{◌≡◌, refl, sym, ap, ◌∙◌, subst, arith, add-one, ◌<◌, ◌≤◌, length, get_or, ℕ, zero, suc, ◌+◌, List, [], ◌∷◌, Option, Some, None, map}
use Rattle.std.specs.Arc.{arc_value}
use Rattle.std.specs.Option.{option_map}
use denote.Hole.Carrier.{roll}
use Rattle.hk_base.specs.Bytes.{Bytes}
use Rattle.hk_template.specs.Tree.{Node, Nodes, no_nodes, node, text_node, key_node, partial_node, dollar_node}
use Rattle.hk_template.specs.View.{nodes_of}
use Rattle.hk_eval.specs.declared.block.Part.{Part, roll-Part, fold-roll-Part}
use Rattle.hk_eval.specs.declared.block.Part.TheOpen.{Part-F}
use Rattle.hk_eval.specs.declared.block.Part.TheVariants.{Text, Dollar, Key, If, For, Partial}
use Rattle.hk_eval.specs.declared.block.Block.{Block, out-Block, fold_out-Block}
use Rattle.hk_eval.specs.Blocks.{if_of, for_of, part_step, block_step, part_node, block_nodes, nodes_from}

module _ (f : Part → Node) where
  past : (ps : List Part) (k : ℕ) → length ps ≤ k → nodes_from k (nodes_of (map f ps)) ≡ no_nodes
  past [] zero h = refl
  past [] (suc k) h = refl
  past (p ∷ ps) zero h = absurd (omega arith)
  past (p ∷ ps) (suc k) h = past ps k (omega arith)

  here : (ps : List Part) (k : ℕ) (p : Part) → k < length ps → p ≡ get_or ps k p → nodes_from k (nodes_of (map f ps)) ≡ node (f p) (nodes_from (suc k) (nodes_of (map f ps)))
  here [] k p h e = absurd (omega arith)
  here (q ∷ ps) zero p h e = ap (λ r. node (f r) (nodes_of (map f ps))) (sym e)
  here (q ∷ ps) (suc k) p h e = here ps k p (omega arith) e

parts_nodes : (b : Block) → block_nodes b ≡ nodes_of (map part_node (arc_value (out-Block b).parts).items)
parts_nodes b = fold_out-Block Node Nodes part_step block_step b

pub part_past : (b : Block) (k : ℕ) → length (arc_value (out-Block b).parts).items ≤ k → nodes_from k (block_nodes b) ≡ no_nodes
part_past b k h = rw (parts_nodes b) (past part_node (arc_value (out-Block b).parts).items k h)

pub part_here : (b : Block) (k : ℕ) (p : Part) → k < length (arc_value (out-Block b).parts).items → p ≡ get_or (arc_value (out-Block b).parts).items k p → nodes_from k (block_nodes b) ≡ node (part_node p) (nodes_from (k + 1) (block_nodes b))
part_here b k p h e = rw (parts_nodes b, add-one) (here part_node (arc_value (out-Block b).parts).items k p h e)

module _ (p : Part) where
  pub text_part : (bytes : Bytes) → p ≡ Text bytes → part_node p ≡ text_node bytes
  unfolding roll-Part roll
  text_part bytes e = ap part_node e ∙ fold-roll-Part Node Nodes part_step block_step (Part-F.Text bytes)

  pub dollar_part : p ≡ Dollar → part_node p ≡ dollar_node
  unfolding roll-Part roll
  dollar_part e = ap part_node e ∙ fold-roll-Part Node Nodes part_step block_step Part-F.Dollar

  pub key_part : (key : Bytes) → p ≡ Key key → part_node p ≡ key_node key
  unfolding roll-Part roll
  key_part key e = ap part_node e ∙ fold-roll-Part Node Nodes part_step block_step (Part-F.Key key)

  pub partial_part : (path : Bytes) → p ≡ Partial path → part_node p ≡ partial_node path
  unfolding roll-Part roll
  partial_part path e = ap part_node e ∙ fold-roll-Part Node Nodes part_step block_step (Part-F.Partial path)

  pub if_part : (key : Bytes) (first : Block) (second : Option Block) → p ≡ If key first second → part_node p ≡ if_of key (block_nodes first) (option_map block_nodes second)
  unfolding roll-Part roll
  if_part key first None e = ap part_node e ∙ fold-roll-Part Node Nodes part_step block_step (Part-F.If key first None)
  if_part key first (Some second) e = ap part_node e ∙ fold-roll-Part Node Nodes part_step block_step (Part-F.If key first (Some second))

  pub for_part : (key : Bytes) (each : Block) (between : Option Block) → p ≡ For key each between → part_node p ≡ for_of key (block_nodes each) (option_map block_nodes between)
  unfolding roll-Part roll
  for_part key each None e = ap part_node e ∙ fold-roll-Part Node Nodes part_step block_step (Part-F.For key each None)
  for_part key each (Some between) e = ap part_node e ∙ fold-roll-Part Node Nodes part_step block_step (Part-F.For key each (Some between))
