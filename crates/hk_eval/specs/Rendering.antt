-- Rendering: what the nodes of a template come to at a place.
use Rattle.std.specs.Prelude.{ℕ, zero, suc, List, [], ◌∷◌, ◌++◌, None, codes}
use Rattle.hk_base.specs.Bytes.{Bytes}
use Rattle.hk_base.specs.Identifier.{Ident}
use Rattle.hk_chain.specs.declared.fault.Fault.TheVariants.{NoKey, NotList, NotText, TooDeep}
use Rattle.hk_fix.specs.Task.{Task, gives, fails, ◌▷◌}
use Rattle.hk_rules.specs.Plan.{Lookups}
use Rattle.hk_template.specs.Tree.{Node, Nodes, text_node, dollar_node, key_node, if_node, if_else_node, for_node, for_sep_node, partial_node, no_nodes, node}
use Rattle.hk_eval.specs.Fields.{field_task}
use Rattle.hk_eval.specs.Lists.{list_task}
use Rattle.hk_eval.specs.Templates.{template_task}
use Rattle.hk_eval.specs.Value.{Value, absent, text, flag, list}
use Rattle.hk_eval.specs.declared.place.Place.{Place}

-- the text of a key with this value
abbrev pub as_text : Bytes → Value → Task Bytes
as_text key absent = fails (NoKey key)
as_text key (text bytes) = gives bytes
as_text key flag = fails (NotText key)
as_text key (list listing) = fails (NotText key)

-- the places of a key with this value
abbrev pub as_places : Lookups → Bytes → Value → Task (List Place)
as_places plan key absent = fails (NoKey key)
as_places plan key (text bytes) = fails (NotList key)
as_places plan key flag = fails (NotList key)
as_places plan key (list listing) = list_task plan listing

-- the first where the key has any value; a list isn't made for that
abbrev pub branch : Task Bytes → Task Bytes → Value → Task Bytes
branch yes_ no_ absent = no_
branch yes_ no_ (text bytes) = yes_
branch yes_ no_ flag = yes_
branch yes_ no_ (list listing) = yes_

-- each place in turn, with this text before it
abbrev pub each_after : (Place → Task Bytes) → Bytes → List Place → Task Bytes
each_after each between [] = gives []
each_after each between (p ∷ ps) = each p ▷ (λ x. each_after each between ps ▷ (λ y. gives (between ++ (x ++ y))))

-- each place in turn; what stands between two is made once, after the first, and only where there are two or more
abbrev pub each_place : (Place → Task Bytes) → Task Bytes → List Place → Task Bytes
each_place each between [] = gives []
each_place each between (p ∷ []) = each p
each_place each between (p ∷ q ∷ ps) = each p ▷ (λ x. between ▷ (λ b. each_after each b (q ∷ ps) ▷ (λ y. gives (x ++ y))))

module _ (plan : Lookups) (deeper : Bytes → Place → Task Bytes) where
  abbrev mutual
    pub node_task : Node → Place → Task Bytes
    node_task (text_node bytes) here = gives bytes
    node_task dollar_node here = gives (codes "$")
    node_task (key_node key) here = field_task plan here key ▷ as_text key
    node_task (if_node key yes_) here = field_task plan here key ▷ branch (nodes_task yes_ here) (gives [])
    node_task (if_else_node key yes_ no_) here = field_task plan here key ▷ branch (nodes_task yes_ here) (nodes_task no_ here)
    node_task (for_node key each) here = field_task plan here key ▷ (λ v. as_places plan key v ▷ each_place (nodes_task each) (gives []))
    node_task (for_sep_node key each between) here = field_task plan here key ▷ (λ v. as_places plan key v ▷ each_place (nodes_task each) (nodes_task between here))
    node_task (partial_node path) here = deeper path here

    pub nodes_task : Nodes → Place → Task Bytes
    nodes_task no_nodes here = gives []
    nodes_task (node n ns) here = node_task n here ▷ (λ x. nodes_task ns here ▷ (λ y. gives (x ++ y)))

-- the item with this path and without a version
abbrev pub plain_id : Bytes → Ident
plain_id path = record { path = path; version = None }

-- the template of a path at a place, where so many levels may stand below this one
abbrev pub partial_at : Lookups → ℕ → Bytes → Place → Task Bytes
partial_at plan zero path here = fails TooDeep
partial_at plan (suc left) path here = template_task plan (plain_id path) ▷ (λ tree. nodes_task plan (partial_at plan left) tree here)

-- the nodes at a place; at most 32 levels of templates stand below them
unfoldable pub render : Lookups → Nodes → Place → Task Bytes
render plan tree here = nodes_task plan (partial_at plan 32) tree here
