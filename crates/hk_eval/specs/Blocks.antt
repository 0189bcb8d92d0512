-- The shared form of a template as the tree that definitions speak of.
use Rattle.std.specs.Prelude.{ℕ, zero, suc, List, [], ◌∷◌, Option, Some, None}
use Rattle.std.specs.Arc.{arc_value}
use Rattle.hk_base.specs.Bytes.{Bytes}
use Rattle.hk_template.specs.Tree.{Node, Nodes, text_node, dollar_node, key_node, if_node, if_else_node, for_node, for_sep_node, partial_node, no_nodes, node}
use Rattle.hk_template.specs.View.{nodes_of}
use Rattle.hk_eval.specs.declared.block.Part.{Part, fold-Part}
use Rattle.hk_eval.specs.declared.block.Part.TheOpen.{Part-F, Block-F}
use Rattle.hk_eval.specs.declared.block.Block.{Block, fold-Block}

abbrev pub if_of : Bytes → Nodes → Option Nodes → Node
if_of k yes_ None = if_node k yes_
if_of k yes_ (Some no_) = if_else_node k yes_ no_

abbrev pub for_of : Bytes → Nodes → Option Nodes → Node
for_of k each None = for_node k each
for_of k each (Some between) = for_sep_node k each between

abbrev pub part_step : Part-F Node Nodes → Node
part_step (Part-F.Text bytes) = text_node bytes
part_step Part-F.Dollar = dollar_node
part_step (Part-F.Key k) = key_node k
part_step (Part-F.If k yes_ no_) = if_of k yes_ no_
part_step (Part-F.For k each between) = for_of k each between
part_step (Part-F.Partial path) = partial_node path

abbrev pub block_step : Block-F Node Nodes → Nodes
block_step b = nodes_of (arc_value b.parts).items

abbrev pub part_node : Part → Node
part_node = fold-Part Node Nodes part_step block_step

-- the nodes of a block
abbrev pub block_nodes : Block → Nodes
block_nodes = fold-Block Node Nodes part_step block_step

-- the nodes from a place on
abbrev pub nodes_from : ℕ → Nodes → Nodes
nodes_from zero ns = ns
nodes_from (suc k) no_nodes = no_nodes
nodes_from (suc k) (node n ns) = nodes_from k ns

-- no nodes where there are none
abbrev pub nodes_or_none : Option Nodes → Nodes
nodes_or_none None = no_nodes
nodes_or_none (Some ns) = ns
