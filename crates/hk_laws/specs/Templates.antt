-- The first fault of a template, without a stack.
use Rattle.std.specs.Prelude.{◌≡◌, ℕ, Bool, true, false, ◌⊎◌, List, ◌++◌, length, codes, Option, Some, None}
use Rattle.std.specs.List.{flat_map, list_all}
use Rattle.hk_base.specs.Bytes.{Bytes}
use Rattle.hk_template.specs.Token.{if_, for_, Token, tag, token_text, is_token, texts_apart}
use Rattle.hk_template.specs.Tree.{Node, Nodes, no_nodes, node, nodes_tokens, trimmed}
use Rattle.hk_template.specs.Template.{IsTemplate}
use Rattle.hk_template.specs.Stop.{IsStuck}
use Rattle.hk_template.specs.declared.fault.TemplateFault.{TemplateFault}
use Rattle.hk_template.specs.declared.fault.TemplateFault.TheVariants.{BadForm, Unclosed, TooDeep}

-- the text has this tree, of any depth
pub record HasTree (bytes : Bytes) (tree : Nodes) : Type 0 where
  pub tokens : List Token
  pub spelled : bytes ≡ flat_map token_text tokens
  pub proper : list_all is_token tokens ≡ true
  pub apart : texts_apart tokens ≡ true
  pub built : trimmed false tokens ≡ nodes_tokens tree

-- some text that begins with these bytes has a tree of at most 64 forms, or a tree of any depth
pub record GoesOn (bytes : Bytes) : Type 0 where
  pub more : Bytes
  pub tree : Nodes
  pub is : IsTemplate (bytes ++ more) tree

pub record GoesOnDeeper (bytes : Bytes) : Type 0 where
  pub more : Bytes
  pub tree : Nodes
  pub has : HasTree (bytes ++ more) tree

-- the place is that between these tokens, which go on to a tree, and this rest
pub record IsAfter (bytes : Bytes) (place : ℕ) (front rest : Bytes) : Type 0 where
  pub tokens : List Token
  pub spelled : front ≡ flat_map token_text tokens
  pub proper : list_all is_token tokens ≡ true
  pub joined : bytes ≡ front ++ rest
  pub place_is : place ≡ length front
  pub goes_on : GoesOn front

-- a token stands there
pub record Begins (rest : Bytes) (t : Token) : Type 0 where
  pub more : Bytes
  pub proper : is_token t ≡ true
  pub spelled : rest ≡ token_text t ++ more

-- a token through which the text goes on to no tree
pub record IsMisfit (front rest : Bytes) : Type 0 where
  pub token : Token
  pub there : Begins rest token
  pub ends : GoesOnDeeper (front ++ token_text token) → ⊥

-- a dollar sign at which no token stands, or a token that doesn't fit
pub record IsBadForm (bytes : Bytes) (place : ℕ) : Type 0 where
  pub front : Bytes
  pub rest : Bytes
  pub after : IsAfter bytes place front rest
  pub why : IsStuck rest ⊎ IsMisfit front rest

-- a token through which the text goes on to trees, but to none of at most 64 forms
pub record IsTooDeep (bytes : Bytes) (place : ℕ) : Type 0 where
  pub front : Bytes
  pub rest : Bytes
  pub after : IsAfter bytes place front rest
  pub token : Token
  pub there : Begins rest token
  pub deep : GoesOn (front ++ token_text token) → ⊥
  pub deeper : GoesOnDeeper (front ++ token_text token)

-- the tag that begins a form, and the text of the one that ends it
pub data IsForm : Token → Bytes → Type 0 where
  form_if : (left : Bool) (k : Bytes) (right : Bool) → IsForm (tag left (if_ k) right) (codes "$endif$")
  form_for : (left : Bool) (k : Bytes) (right : Bool) → IsForm (tag left (for_ k) right) (codes "$endfor$")

-- the whole text has no tree and goes on to one; what stands from the place on begins with a form's first tag and is,
-- with its last tag, that one form, so no form after it is open
pub record IsUnclosed (bytes : Bytes) (place : ℕ) : Type 0 where
  pub goes_on : GoesOn bytes
  pub no_tree : (tree : Nodes) → IsTemplate bytes tree → ⊥
  pub front : Bytes
  pub rest : Bytes
  pub after : IsAfter bytes place front rest
  pub token : Token
  pub there : Begins rest token
  pub end : Bytes
  pub form : IsForm token end
  pub one : Node
  pub whole : HasTree (rest ++ end) (node one no_nodes)

abbrev pub IsFault : Bytes → TemplateFault → Type 0
IsFault bytes (BadForm place) = IsBadForm bytes place
IsFault bytes (TooDeep place) = IsTooDeep bytes place
IsFault bytes (Unclosed place) = IsUnclosed bytes place

-- each fault that is found is the first
abbrev pub FindsFaults : (Bytes → Option TemplateFault) → Type 0
FindsFaults find = (bytes : Bytes) (fault : TemplateFault) → find bytes ≡ Some fault → IsFault bytes fault

-- and where none is found there is a tree
abbrev pub MissesNoFault : (Bytes → Option TemplateFault) → Type 0
MissesNoFault find = (bytes : Bytes) → find bytes ≡ None → (tree : Nodes) × IsTemplate bytes tree
