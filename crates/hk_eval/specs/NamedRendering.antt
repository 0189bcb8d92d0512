-- Rendering, as a deed: what the nodes of a template come to at a place.
use Rattle.std.specs.Prelude.{ℕ, zero, suc, List, [], ◌∷◌, ◌++◌, Result, Ok, Err, codes}
use Rattle.hk_base.specs.Bytes.{Bytes}
use Rattle.hk_base.specs.Identifier.{Ident}
use Rattle.hk_chain.specs.declared.page.Page.{Page}
use Rattle.hk_chain.specs.declared.page.Kind.{Kind}
use Rattle.hk_chain.specs.declared.page.Kind.TheVariants as kinds
use Rattle.hk_chain.specs.declared.fault.Fault.TheVariants.{BadTemplate, WrongKind, NoKey, NotList, NotText, TooDeep}
use Rattle.hk_fix.specs.Deed.{Deed, returns, refuses, ◌then◌}
use Rattle.hk_chain.specs.Names.{final_name}
use Rattle.hk_rules.specs.Recipe.{NamedContext}
use Rattle.hk_template.specs.Growing.{read_tree}
use Rattle.hk_template.specs.Place.{fault_place}
use Rattle.hk_template.specs.Tree.{Node, Nodes, text_node, dollar_node, key_node, if_node, if_else_node, for_node, for_sep_node, partial_node, no_nodes, node}
use Rattle.hk_template.specs.declared.fault.TemplateFault.{TemplateFault}
use Rattle.hk_eval.specs.NamedAsking.{ask_deed}
use Rattle.hk_eval.specs.NamedFields.{field_deed}
use Rattle.hk_eval.specs.NamedLists.{list_deed}
use Rattle.hk_eval.specs.NamedValue.{NamedPlace, NamedValue, no_value, text_value, flag_value, list_value}
use Rattle.hk_eval.specs.Rendering.{plain_id}

-- ---- templates of items

abbrev pub tree_deed_by : Result Nodes TemplateFault → Deed Nodes
tree_deed_by (Ok tree) = returns tree
tree_deed_by (Err fault) = refuses (BadTemplate (fault_place fault))

-- the tree of a text that must be a template
abbrev pub tree_deed : Bytes → Deed Nodes
tree_deed text = tree_deed_by (read_tree text)

abbrev pub template_deed_by : Ident → Kind → Bytes → Deed Nodes
template_deed_by id kinds.Text body = refuses (WrongKind id)
template_deed_by id kinds.Template body = tree_deed body
template_deed_by id kinds.File body = refuses (WrongKind id)

-- the tree of a page of the item with this identifier, which must be a template
abbrev pub need_template_deed : Ident → Page → Deed Nodes
need_template_deed id page = template_deed_by id page.kind page.body

-- the template that the item with an identifier ends with
abbrev pub template_deed : Ident → Deed Nodes
template_deed id = ask_deed id final_name then need_template_deed id

-- ---- nodes

-- the text of a key with this value
abbrev pub as_text_deed : Bytes → NamedValue → Deed Bytes
as_text_deed key no_value = refuses (NoKey key)
as_text_deed key (text_value bytes) = returns bytes
as_text_deed key flag_value = refuses (NotText key)
as_text_deed key (list_value listing) = refuses (NotText key)

-- the places of a key with this value
abbrev pub as_places_deed : Bytes → NamedValue → Deed (List NamedPlace)
as_places_deed key no_value = refuses (NoKey key)
as_places_deed key (text_value bytes) = refuses (NotList key)
as_places_deed key flag_value = refuses (NotList key)
as_places_deed key (list_value listing) = list_deed listing

-- the first where the key has any value; a list isn't made for that
abbrev pub branch_deed : Deed Bytes → Deed Bytes → NamedValue → Deed Bytes
branch_deed yes_ no_ no_value = no_
branch_deed yes_ no_ (text_value bytes) = yes_
branch_deed yes_ no_ flag_value = yes_
branch_deed yes_ no_ (list_value listing) = yes_

-- each place in turn, with this text before it
abbrev pub each_after_deed : (NamedPlace → Deed Bytes) → Bytes → List NamedPlace → Deed Bytes
each_after_deed each between [] = returns []
each_after_deed each between (p ∷ ps) = each p then (λ x. each_after_deed each between ps then (λ y. returns (between ++ (x ++ y))))

-- each place in turn; what stands between two is made once, after the first, and only where there are two or more
abbrev pub each_place_deed : (NamedPlace → Deed Bytes) → Deed Bytes → List NamedPlace → Deed Bytes
each_place_deed each between [] = returns []
each_place_deed each between (p ∷ []) = each p
each_place_deed each between (p ∷ q ∷ ps) = each p then (λ x. between then (λ b. each_after_deed each b (q ∷ ps) then (λ y. returns (x ++ y))))

-- under these contexts; `deeper` renders the template of a path
module _ (contexts : List NamedContext) (deeper : Bytes → NamedPlace → Deed Bytes) where
  abbrev mutual
    pub node_deed : Node → NamedPlace → Deed Bytes
    node_deed (text_node bytes) here = returns bytes
    node_deed dollar_node here = returns (codes "$")
    node_deed (key_node key) here = field_deed contexts here key then as_text_deed key
    node_deed (if_node key yes_) here = field_deed contexts here key then branch_deed (nodes_deed yes_ here) (returns [])
    node_deed (if_else_node key yes_ no_) here = field_deed contexts here key then branch_deed (nodes_deed yes_ here) (nodes_deed no_ here)
    node_deed (for_node key each) here = field_deed contexts here key then (λ v. as_places_deed key v then each_place_deed (nodes_deed each) (returns []))
    node_deed (for_sep_node key each between) here = field_deed contexts here key then (λ v. as_places_deed key v then each_place_deed (nodes_deed each) (nodes_deed between here))
    node_deed (partial_node path) here = deeper path here

    pub nodes_deed : Nodes → NamedPlace → Deed Bytes
    nodes_deed no_nodes here = returns []
    nodes_deed (node n ns) here = node_deed n here then (λ x. nodes_deed ns here then (λ y. returns (x ++ y)))

-- the template of a path at a place, where so many levels may stand below this one
abbrev pub partial_deed : List NamedContext → ℕ → Bytes → NamedPlace → Deed Bytes
partial_deed contexts zero path here = refuses TooDeep
partial_deed contexts (suc left) path here = template_deed (plain_id path) then (λ tree. nodes_deed contexts (partial_deed contexts left) tree here)

-- the nodes at a place; at most 32 levels of templates stand below them
abbrev pub render_deed : List NamedContext → Nodes → NamedPlace → Deed Bytes
render_deed contexts tree here = nodes_deed contexts (partial_deed contexts 32) tree here
