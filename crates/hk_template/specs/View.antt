-- The code's trees as those that definitions speak of.
use Rattle.std.specs.Prelude.{List, [], ◌∷◌, map, Option, Some, None, Vec}
use Rattle.std.specs.declared.alloc.Global.{Global}
use Rattle.hk_base.specs.Bytes.{Bytes}
use Rattle.hk_template.specs.declared.node.Node.{Node as Code, fold-Node}
use Rattle.hk_template.specs.declared.node.Node.TheOpen.{Node-F}
use Rattle.hk_template.specs.Tree.{Node, Nodes, text_node, dollar_node, key_node, if_node, if_else_node, for_node, for_sep_node, partial_node, no_nodes, node}

abbrev pub nodes_of : List Node → Nodes
nodes_of [] = no_nodes
nodes_of (n ∷ ns) = node n (nodes_of ns)

abbrev pub if_of : Bytes → Nodes → Option (Vec Node Global) → Node
if_of k yes_ None = if_node k yes_
if_of k yes_ (Some ns) = if_else_node k yes_ (nodes_of ns.items)

abbrev pub for_of : Bytes → Nodes → Option (Vec Node Global) → Node
for_of k each None = for_node k each
for_of k each (Some ns) = for_sep_node k each (nodes_of ns.items)

abbrev pub view_step : Node-F Node → Node
view_step (Node-F.Text bytes) = text_node bytes
view_step Node-F.Dollar = dollar_node
view_step (Node-F.Key k) = key_node k
view_step (Node-F.If k yes_ other) = if_of k (nodes_of yes_.items) other
view_step (Node-F.For k each between) = for_of k (nodes_of each.items) between
view_step (Node-F.Partial path) = partial_node path

-- a node of the code as a node
abbrev pub node_view : Code → Node
node_view = fold-Node Node view_step

-- a list of nodes of the code as nodes
abbrev pub nodes_view : List Code → Nodes
nodes_view ns = nodes_of (map node_view ns)
