-- Trees as lists of their tokens, by which the logic tells them apart.
use Rattle.std.proofs.Common.{◌≡◌, ℕ, cond, ◌==◌, List, [], ◌∷◌, ◌++◌, refl, sym, ap, ◌∙◌, append_assoc, append-nil}
use Rattle.std.specs.Coded.{Coded, code_by, coded×, coded_ℕ, coded_list}
use Rattle.hk_base.specs.Bytes.{Bytes}
use Rattle.hk_template.specs.Token.{key, if_, else_, endif, for_, sep, endfor, partial}
use Rattle.hk_template.specs.Tree.{Node, Nodes, text_node, dollar_node, key_node, if_node, if_else_node, for_node, for_sep_node, partial_node, no_nodes, node, joined_nodes, Plain, plain_text, plain_dollar, plain_tag, node_tokens, nodes_tokens}

abbrev pair_of : Plain → ℕ × Bytes
pair_of (plain_text bytes) = (0, bytes)
pair_of plain_dollar = (1, [])
pair_of (plain_tag (key k)) = (2, k)
pair_of (plain_tag (if_ k)) = (3, k)
pair_of (plain_tag else_) = (4, [])
pair_of (plain_tag endif) = (5, [])
pair_of (plain_tag (for_ k)) = (6, k)
pair_of (plain_tag sep) = (7, [])
pair_of (plain_tag endfor) = (8, [])
pair_of (plain_tag (partial path)) = (9, path)

abbrev plain_of : ℕ × Bytes → Plain
plain_of p =
    cond (p.0 == 0) (plain_text p.1) (cond (p.0 == 1) plain_dollar (cond (p.0 == 2) (plain_tag (key p.1)) (cond (p.0 == 3) (plain_tag (if_ p.1)) (cond (p.0 == 4) (plain_tag else_)
    (cond (p.0 == 5) (plain_tag endif) (cond (p.0 == 6) (plain_tag (for_ p.1)) (cond (p.0 == 7) (plain_tag sep) (cond (p.0 == 8) (plain_tag endfor) (plain_tag (partial p.1))))))))))

pub plain_of-pair_of : (p : Plain) → plain_of (pair_of p) ≡ p
plain_of-pair_of (plain_text bytes) = refl
plain_of-pair_of plain_dollar = refl
plain_of-pair_of (plain_tag (key k)) = refl
plain_of-pair_of (plain_tag (if_ k)) = refl
plain_of-pair_of (plain_tag else_) = refl
plain_of-pair_of (plain_tag endif) = refl
plain_of-pair_of (plain_tag (for_ k)) = refl
plain_of-pair_of (plain_tag sep) = refl
plain_of-pair_of (plain_tag endfor) = refl
plain_of-pair_of (plain_tag (partial path)) = refl

abbrev pub plain_code : Coded Plain
plain_code = code_by (ℕ × Bytes) (coded× coded_ℕ (coded_list coded_ℕ)) pair_of plain_of plain_of-pair_of

-- a form whose tokens were read from its end: the nodes after it, or those after its `else` or `sep`
pub data Open : Type 0 where
  ended : Nodes → Open
  parted : Nodes → Open

-- what was read from the end of a list of tokens
pub record Behind : Type 0 where
  pub nodes : Nodes
  pub forms : List Open

abbrev nothing : Behind
nothing = record { nodes = no_nodes; forms = [] }

-- the tag that begins a form with these nodes
abbrev begin : (Nodes → Node) → (Nodes → Nodes → Node) → Nodes → List Open → Behind
begin one both first (ended after ∷ forms) = record { nodes = node (one first) after; forms = forms }
begin one both first (parted second ∷ ended after ∷ forms) = record { nodes = node (both first second) after; forms = forms }
begin one both first _ = nothing

abbrev read : Plain → Behind → Behind
read (plain_text bytes) b = record { nodes = node (text_node bytes) b.nodes; forms = b.forms }
read plain_dollar b = record { nodes = node dollar_node b.nodes; forms = b.forms }
read (plain_tag (key k)) b = record { nodes = node (key_node k) b.nodes; forms = b.forms }
read (plain_tag (if_ k)) b = begin (if_node k) (if_else_node k) b.nodes b.forms
read (plain_tag else_) b = record { nodes = no_nodes; forms = parted b.nodes ∷ b.forms }
read (plain_tag endif) b = record { nodes = no_nodes; forms = ended b.nodes ∷ b.forms }
read (plain_tag (for_ k)) b = begin (for_node k) (for_sep_node k) b.nodes b.forms
read (plain_tag sep) b = record { nodes = no_nodes; forms = parted b.nodes ∷ b.forms }
read (plain_tag endfor) b = record { nodes = no_nodes; forms = ended b.nodes ∷ b.forms }
read (plain_tag (partial path)) b = record { nodes = node (partial_node path) b.nodes; forms = b.forms }

abbrev behind : List Plain → Behind
behind [] = nothing
behind (p ∷ ps) = read p (behind ps)

abbrev put : Nodes → Behind → Behind
put ns b = record { nodes = joined_nodes ns b.nodes; forms = b.forms }

pub joined-nil : (a : Nodes) → joined_nodes a no_nodes ≡ a
joined-nil no_nodes = refl
joined-nil (node n ns) = ap (node n) (joined-nil ns)

-- nodes before a tag
part_behind : (ns : Nodes) (p : Plain) (rest ps : List Plain) → ((qs : List Plain) → behind (nodes_tokens ns ++ qs) ≡ put ns (behind qs)) → behind ((nodes_tokens ns ++ p ∷ rest) ++ ps) ≡ put ns (read p (behind (rest ++ ps)))
part_behind ns p rest ps h = ap behind (append_assoc (nodes_tokens ns) (p ∷ rest) ps) ∙ h (p ∷ rest ++ ps)

mutual
  nodes_behind : (ns : Nodes) (ps : List Plain) → behind (nodes_tokens ns ++ ps) ≡ put ns (behind ps)
  nodes_behind no_nodes ps = refl
  nodes_behind (node n ns) ps =
      ap behind (append_assoc (node_tokens n) (nodes_tokens ns) ps)
      ∙ (node_behind n (nodes_tokens ns ++ ps) ∙ ap (put (node n no_nodes)) (nodes_behind ns ps))

  node_behind : (n : Node) (ps : List Plain) → behind (node_tokens n ++ ps) ≡ put (node n no_nodes) (behind ps)
  node_behind (text_node bytes) ps = refl
  node_behind dollar_node ps = refl
  node_behind (key_node k) ps = refl
  node_behind (if_node k first) ps =
      ap (read (plain_tag (if_ k))) (part_behind first (plain_tag endif) [] ps (λ qs. nodes_behind first qs))
      ∙ ap (λ ns. record { nodes = node (if_node k ns) (behind ps).nodes; forms = (behind ps).forms }) (joined-nil first)
  node_behind (if_else_node k first second) ps =
      ap (read (plain_tag (if_ k))) (part_behind first (plain_tag else_) (nodes_tokens second ++ plain_tag endif ∷ []) ps (λ qs. nodes_behind first qs) ∙ ap (λ b. put first (read (plain_tag else_) b)) (part_behind second (plain_tag endif) [] ps (λ qs. nodes_behind second qs)))
      ∙ ap (λ (m : Nodes × Nodes). record { nodes = node (if_else_node k m.0 m.1) (behind ps).nodes; forms = (behind ps).forms }) (λ i. (joined-nil first i, joined-nil second i))
  node_behind (for_node k first) ps =
      ap (read (plain_tag (for_ k))) (part_behind first (plain_tag endfor) [] ps (λ qs. nodes_behind first qs))
      ∙ ap (λ ns. record { nodes = node (for_node k ns) (behind ps).nodes; forms = (behind ps).forms }) (joined-nil first)
  node_behind (for_sep_node k first second) ps =
      ap (read (plain_tag (for_ k))) (part_behind first (plain_tag sep) (nodes_tokens second ++ plain_tag endfor ∷ []) ps (λ qs. nodes_behind first qs) ∙ ap (λ b. put first (read (plain_tag sep) b)) (part_behind second (plain_tag endfor) [] ps (λ qs. nodes_behind second qs)))
      ∙ ap (λ (m : Nodes × Nodes). record { nodes = node (for_sep_node k m.0 m.1) (behind ps).nodes; forms = (behind ps).forms }) (λ i. (joined-nil first i, joined-nil second i))
  node_behind (partial_node path) ps = refl

abbrev pub from_tokens : List Plain → Nodes
from_tokens ps = (behind ps).nodes

pub from_tokens-nodes_tokens : (ns : Nodes) → from_tokens (nodes_tokens ns) ≡ ns
from_tokens-nodes_tokens ns =
    ap from_tokens (sym (append-nil (nodes_tokens ns))) ∙ (ap (λ b. b.nodes) (nodes_behind ns []) ∙ joined-nil ns)

abbrev pub tree_code : Coded Nodes
tree_code = code_by (List Plain) (coded_list plain_code) nodes_tokens from_tokens from_tokens-nodes_tokens
