-- Which texts have which trees, which trees can be printed, and their texts.
use Rattle.std.specs.Prelude.{◌≡◌, ◌≤◌, Bool, true, false, ◌&&◌, not, List, [], ◌∷◌, ◌++◌, codes}
use Rattle.std.specs.List.{flat_map, list_all}
use Rattle.hk_base.specs.Bytes.{Bytes}
use Rattle.hk_template.specs.Token.{Token, token_text, is_token, texts_apart, word_text, is_run, is_proper}
use Rattle.hk_template.specs.Tree.{Node, Nodes, node_tokens, nodes_tokens, nodes_depth, trimmed, Plain, plain_text, plain_dollar, plain_tag}

-- the text has this tree: it is spelled by tokens whose trimmed form is the tree's tokens
pub record IsTemplate (bytes : Bytes) (tree : Nodes) : Type 0 where
  pub tokens : List Token
  pub spelled : bytes ≡ flat_map token_text tokens
  pub proper : list_all is_token tokens ≡ true
  pub apart : texts_apart tokens ≡ true
  pub built : trimmed false tokens ≡ nodes_tokens tree
  pub shallow : nodes_depth tree ≤ 64

abbrev pub is_plain_text : Plain → Bool
is_plain_text (plain_text bytes) = true
is_plain_text plain_dollar = false
is_plain_text (plain_tag word) = false

abbrev pub is_plain_token : Plain → Bool
is_plain_token (plain_text bytes) = is_run bytes
is_plain_token plain_dollar = true
is_plain_token (plain_tag word) = is_proper word

abbrev pub begins_with_plain_text : List Plain → Bool
begins_with_plain_text [] = false
begins_with_plain_text (p ∷ ps) = is_plain_text p

abbrev pub plain_texts_apart : List Plain → Bool
plain_texts_apart [] = true
plain_texts_apart (p ∷ ps) = not (is_plain_text p && begins_with_plain_text ps) && plain_texts_apart ps

-- texts aren't empty, have no dollar sign and don't stand side by side, keys and paths are proper, at most 64 forms are nested
pub record IsPrintable (tree : Nodes) : Type 0 where
  pub proper : list_all is_plain_token (nodes_tokens tree) ≡ true
  pub apart : plain_texts_apart (nodes_tokens tree) ≡ true
  pub shallow : nodes_depth tree ≤ 64

-- the text of a token without dashes
abbrev pub plain_spelling : Plain → Bytes
plain_spelling (plain_text bytes) = bytes
plain_spelling plain_dollar = codes "$$"
plain_spelling (plain_tag word) = 36 ∷ (word_text word ++ codes "$")

-- the text that a tree is printed as
abbrev pub tree_text : Nodes → Bytes
tree_text tree = flat_map plain_spelling (nodes_tokens tree)

abbrev pub node_text : Node → Bytes
node_text n = flat_map plain_spelling (node_tokens n)
