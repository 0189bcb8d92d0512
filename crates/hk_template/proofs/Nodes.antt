-- Lists of nodes: one after the other, their tokens and their depth.
use Rattle.std.proofs.Common.{◌≡◌, max, List, [], ◌∷◌, ◌++◌, map, reverse, refl, ap, sym, ◌∙◌, append_assoc, arith}
use Rattle.std.proofs.lemmas.List.{reverse-append, map-append}
use Rattle.hk_template.specs.declared.node.Node.{Node as Code}
use Rattle.hk_template.specs.declared.frame.Frame.{Frame as Form}
use Rattle.hk_template.specs.Tree.{Nodes, no_nodes, node, joined_nodes, node_tokens, nodes_tokens, nodes_depth}
use Rattle.hk_template.specs.View.{node_view, nodes_view}
use Rattle.hk_template.specs.ParserViews.{frame_view, forms_view}

pub joined-assoc : (a b c : Nodes) → joined_nodes (joined_nodes a b) c ≡ joined_nodes a (joined_nodes b c)
joined-assoc no_nodes b c = refl
joined-assoc (node n ns) b c = ap (node n) (joined-assoc ns b c)

pub nodes_tokens-joined : (a b : Nodes) → nodes_tokens (joined_nodes a b) ≡ nodes_tokens a ++ nodes_tokens b
nodes_tokens-joined no_nodes b = refl
nodes_tokens-joined (node n ns) b = ap (λ ps. node_tokens n ++ ps) (nodes_tokens-joined ns b) ∙ sym (append_assoc (node_tokens n) (nodes_tokens ns) (nodes_tokens b))

pub depth-joined : (a b : Nodes) → nodes_depth (joined_nodes a b) ≡ max (nodes_depth a) (nodes_depth b)
depth-joined no_nodes b = omega arith
depth-joined (node n ns) b = omega (arith, depth-joined ns b)

-- what a push leaves of a list of the code
pub nodes_view_append : (xs ys : List Code) → nodes_view (xs ++ ys) ≡ joined_nodes (nodes_view xs) (nodes_view ys)
nodes_view_append [] ys = refl
nodes_view_append (x ∷ xs) ys = ap (node (node_view x)) (nodes_view_append xs ys)

pub nodes_view_push : (xs : List Code) (x : Code) → nodes_view (xs ++ x ∷ []) ≡ joined_nodes (nodes_view xs) (node (node_view x) no_nodes)
nodes_view_push xs x = nodes_view_append xs (x ∷ [])

pub forms_view_push : (fs : List Form) (f : Form) → forms_view (fs ++ f ∷ []) ≡ frame_view f ∷ forms_view fs
forms_view_push fs f = ap reverse (map-append frame_view fs (f ∷ [])) ∙ reverse-append (map frame_view fs) (frame_view f ∷ [])
