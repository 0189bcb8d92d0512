-- The nodes so far are shared.
use Rattle.std.proofs.Common.{◌≡◌, map, take}
use Rattle.hk_template.specs.View.{node_view}
use Rattle.hk_eval.specs.Blocks.{part_node}
use Rattle.hk_eval.proofs.sharing.+share.Given as goal

abbrev pub invariant-share_nodes-loop-node : goal.invariant-share_nodes-loop-node
invariant-share_nodes-loop-node l = map part_node l.parts.items ≡ map node_view (take l.node-index l.nodes)
