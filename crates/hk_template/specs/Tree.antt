-- Trees of templates: their tokens, their depth, and what trimming leaves of a list of tokens.
use Rattle.std.specs.Prelude.{ℕ, suc, max, Bool, true, false, ◌||◌, ◌==◌, if◌then◌else◌, List, [], ◌∷◌, ◌++◌}
use Rattle.std.specs.List.{list_all}
use Rattle.hk_base.specs.Bytes.{Bytes}
use Rattle.hk_template.specs.Token.{Word, key, if_, else_, endif, for_, sep, endfor, partial, Token, text, dollar, tag}

mutual
  pub data Node : Type 0 where
    text_node : Bytes → Node
    dollar_node : Node
    key_node : Bytes → Node
    if_node : Bytes → Nodes → Node
    if_else_node : Bytes → Nodes → Nodes → Node
    for_node : Bytes → Nodes → Node
    for_sep_node : Bytes → Nodes → Nodes → Node
    partial_node : Bytes → Node

  pub data Nodes : Type 0 where
    no_nodes : Nodes
    node : Node → Nodes → Nodes

-- the nodes of both lists, one list after the other
abbrev pub joined_nodes : Nodes → Nodes → Nodes
joined_nodes no_nodes more = more
joined_nodes (node n ns) more = node n (joined_nodes ns more)

-- a token without its dashes
pub data Plain : Type 0 where
  plain_text : Bytes → Plain
  plain_dollar : Plain
  plain_tag : Word → Plain

-- the tokens of a tree
abbrev mutual
  pub node_tokens : Node → List Plain
  node_tokens (text_node bytes) = plain_text bytes ∷ []
  node_tokens dollar_node = plain_dollar ∷ []
  node_tokens (key_node k) = plain_tag (key k) ∷ []
  node_tokens (if_node k yes_) = plain_tag (if_ k) ∷ (nodes_tokens yes_ ++ plain_tag endif ∷ [])
  node_tokens (if_else_node k yes_ no_) = plain_tag (if_ k) ∷ (nodes_tokens yes_ ++ plain_tag else_ ∷ (nodes_tokens no_ ++ plain_tag endif ∷ []))
  node_tokens (for_node k each) = plain_tag (for_ k) ∷ (nodes_tokens each ++ plain_tag endfor ∷ [])
  node_tokens (for_sep_node k each between) = plain_tag (for_ k) ∷ (nodes_tokens each ++ plain_tag sep ∷ (nodes_tokens between ++ plain_tag endfor ∷ []))
  node_tokens (partial_node path) = plain_tag (partial path) ∷ []

  pub nodes_tokens : Nodes → List Plain
  nodes_tokens no_nodes = []
  nodes_tokens (node n ns) = node_tokens n ++ nodes_tokens ns

-- how many forms are open at once
abbrev mutual
  pub depth : Node → ℕ
  depth (text_node bytes) = 0
  depth dollar_node = 0
  depth (key_node k) = 0
  depth (if_node k yes_) = suc (nodes_depth yes_)
  depth (if_else_node k yes_ no_) = suc (max (nodes_depth yes_) (nodes_depth no_))
  depth (for_node k each) = suc (nodes_depth each)
  depth (for_sep_node k each between) = suc (max (nodes_depth each) (nodes_depth between))
  depth (partial_node path) = 0

  pub nodes_depth : Nodes → ℕ
  nodes_depth no_nodes = 0
  nodes_depth (node n ns) = max (depth n) (nodes_depth ns)

-- a space, a tab, a CR or an LF
abbrev pub is_blank : ℕ → Bool
is_blank c = c == 32 || (c == 9 || (c == 13 || c == 10))

abbrev pub trim_start : Bytes → Bytes
trim_start [] = []
trim_start (c ∷ cs) = if is_blank c then trim_start cs else c ∷ cs

abbrev pub trim_end : Bytes → Bytes
trim_end [] = []
trim_end (c ∷ cs) = if list_all is_blank (c ∷ cs) then [] else c ∷ trim_end cs

-- a text that has bytes, in front
abbrev pub text_if_any : Bytes → List Plain → List Plain
text_if_any [] rest = rest
text_if_any (c ∷ cs) rest = plain_text (c ∷ cs) ∷ rest

-- whether a tag with a left dash comes next
abbrev pub dashed : List Token → Bool
dashed [] = false
dashed (text bytes ∷ ts) = false
dashed (dollar ∷ ts) = false
dashed (tag left word right ∷ ts) = left

abbrev pub trim_end_if : Bool → Bytes → Bytes
trim_end_if true bytes = trim_end bytes
trim_end_if false bytes = bytes

abbrev pub trim_start_if : Bool → Bytes → Bytes
trim_start_if true bytes = trim_start bytes
trim_start_if false bytes = bytes

-- texts beside dashes lose their blanks there, and vanish where nothing is left; `after` tells of a dash before
abbrev pub trimmed : Bool → List Token → List Plain
trimmed after [] = []
trimmed after (text bytes ∷ ts) = text_if_any (trim_end_if (dashed ts) (trim_start_if after bytes)) (trimmed false ts)
trimmed after (dollar ∷ ts) = plain_dollar ∷ trimmed false ts
trimmed after (tag left word right ∷ ts) = plain_tag word ∷ trimmed right ts
