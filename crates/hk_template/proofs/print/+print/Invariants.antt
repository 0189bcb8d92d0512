-- The nodes so far are printed.
use Rattle.std.proofs.Common.{◌≡◌, ◌++◌, drop}
use Rattle.hk_template.specs.View.{nodes_view}
use Rattle.hk_template.specs.Template.{tree_text}
use Rattle.hk_template.proofs.print.+print.Given as goal

-- the text so far and that of the nodes that are left
abbrev pub invariant-print_nodes-loop-node : goal.invariant-print_nodes-loop-node
invariant-print_nodes-loop-node l = l.out.items ++ tree_text (nodes_view (drop l.node-index l.nodes)) ≡ l.fn.out.items ++ tree_text (nodes_view l.nodes)
