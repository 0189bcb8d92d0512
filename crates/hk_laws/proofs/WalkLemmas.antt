-- Words of tags walk over kinds of open forms, with no limit, and tokens whose words walk to an end have a tree.
use Rattle.std.proofs.Common.{◌≡◌, Bool, true, false, List, [], ◌∷◌, ◌++◌, map, refl, ap, sym, ◌∙◌, append_assoc, append-nil, Option, Some, None}
use Rattle.hk_base.specs.Bytes.{Bytes}
use Rattle.hk_template.specs.Token.{Word, key, if_, else_, endif, for_, sep, endfor, partial, Token, text, dollar, tag}
use Rattle.hk_template.specs.Tree.{Node, Nodes, no_nodes, node, joined_nodes, text_node, dollar_node, key_node, if_node, if_else_node, for_node, for_sep_node, partial_node, node_tokens, nodes_tokens, Plain, plain_text, plain_dollar, plain_tag, text_if_any, trimmed, trim_end_if, trim_start_if, dashed}
use Rattle.hk_template.specs.Growing.{Head, Frame, if_frame, else_frame, for_frame, sep_frame, head_of}
use Rattle.hk_template.proofs.Nodes.{nodes_tokens-joined}

-- a kind of open form; one that is held isn't closed
pub data Kind : Type 0 where
  if_kind : Bool → Kind
  else_kind : Bool → Kind
  for_kind : Bool → Kind
  sep_kind : Bool → Kind

abbrev pub step : Word → List Kind → Option (List Kind)
step (key k) ks = Some ks
step (partial path) ks = Some ks
step (if_ k) ks = Some (if_kind false ∷ ks)
step (for_ k) ks = Some (for_kind false ∷ ks)
step else_ [] = None
step else_ (if_kind held ∷ ks) = Some (else_kind held ∷ ks)
step else_ (else_kind held ∷ ks) = None
step else_ (for_kind held ∷ ks) = None
step else_ (sep_kind held ∷ ks) = None
step sep [] = None
step sep (if_kind held ∷ ks) = None
step sep (else_kind held ∷ ks) = None
step sep (for_kind held ∷ ks) = Some (sep_kind held ∷ ks)
step sep (sep_kind held ∷ ks) = None
step endif [] = None
step endif (if_kind false ∷ ks) = Some ks
step endif (if_kind true ∷ ks) = None
step endif (else_kind false ∷ ks) = Some ks
step endif (else_kind true ∷ ks) = None
step endif (for_kind held ∷ ks) = None
step endif (sep_kind held ∷ ks) = None
step endfor [] = None
step endfor (if_kind held ∷ ks) = None
step endfor (else_kind held ∷ ks) = None
step endfor (for_kind false ∷ ks) = Some ks
step endfor (for_kind true ∷ ks) = None
step endfor (sep_kind false ∷ ks) = Some ks
step endfor (sep_kind true ∷ ks) = None

abbrev pub on : (List Kind → Option (List Kind)) → Option (List Kind) → Option (List Kind)
on onward None = None
on onward (Some ks) = onward ks

abbrev pub walk : List Word → List Kind → Option (List Kind)
walk [] ks = Some ks
walk (w ∷ ws) ks = on (walk ws) (step w ks)

pub walk-append : (a b : List Word) (ks : List Kind) → walk (a ++ b) ks ≡ on (walk b) (walk a ks)
walk-append [] b ks = refl
walk-append (w ∷ a) b ks = go (λ next. walk-append a b next) (step w ks)
  where
    go : ((next : List Kind) → walk (a ++ b) next ≡ on (walk b) (walk a next)) → (r : Option (List Kind)) → on (walk (a ++ b)) r ≡ on (walk b) (on (walk a) r)
    go inner None = refl
    go inner (Some next) = inner next

pub walk-on : (a b : List Word) (ks next : List Kind) → walk a ks ≡ Some next → walk (a ++ b) ks ≡ walk b next
walk-on a b ks next e = walk-append a b ks ∙ ap (on (walk b)) e

pub on-some : (r : Option (List Kind)) → on (λ ks. Some ks) r ≡ r
on-some None = refl
on-some (Some ks) = refl

-- the words of tokens
abbrev pub one_words : Token → List Word
one_words (text bytes) = []
one_words dollar = []
one_words (tag left word right) = word ∷ []

abbrev pub token_words : List Token → List Word
token_words [] = []
token_words (t ∷ ts) = one_words t ++ token_words ts

pub token_words-append : (a b : List Token) → token_words (a ++ b) ≡ token_words a ++ token_words b
token_words-append [] b = refl
token_words-append (t ∷ a) b = ap (λ ws. one_words t ++ ws) (token_words-append a b) ∙ sym (append_assoc (one_words t) (token_words a) (token_words b))

abbrev pub plain_words : List Plain → List Word
plain_words [] = []
plain_words (plain_text bytes ∷ ps) = plain_words ps
plain_words (plain_dollar ∷ ps) = plain_words ps
plain_words (plain_tag word ∷ ps) = word ∷ plain_words ps

text_words : (bytes : Bytes) (ps : List Plain) → plain_words (text_if_any bytes ps) ≡ plain_words ps
text_words [] ps = refl
text_words (c ∷ cs) ps = refl

pub trimmed_words : (after : Bool) (ts : List Token) → plain_words (trimmed after ts) ≡ token_words ts
trimmed_words after [] = refl
trimmed_words after (text bytes ∷ ts) = text_words (trim_end_if (dashed ts) (trim_start_if after bytes)) (trimmed false ts) ∙ trimmed_words false ts
trimmed_words after (dollar ∷ ts) = trimmed_words false ts
trimmed_words after (tag left word right ∷ ts) = ap (λ ws. word ∷ ws) (trimmed_words right ts)

-- nodes leave the open forms as they are
mutual
  pub node_walk : (n : Node) (rest : List Plain) (ks : List Kind) → walk (plain_words (node_tokens n ++ rest)) ks ≡ walk (plain_words rest) ks
  node_walk (text_node bytes) rest ks = refl
  node_walk dollar_node rest ks = refl
  node_walk (key_node k) rest ks = refl
  node_walk (partial_node path) rest ks = refl
  node_walk (if_node k first) rest ks =
      ap (λ ps. walk (plain_words ps) (if_kind false ∷ ks)) (append_assoc (nodes_tokens first) (plain_tag endif ∷ []) rest)
      ∙ nodes_walk first (plain_tag endif ∷ rest) (if_kind false ∷ ks)
  node_walk (if_else_node k first second) rest ks =
      ap (λ ps. walk (plain_words ps) (if_kind false ∷ ks)) (append_assoc (nodes_tokens first) (plain_tag else_ ∷ (nodes_tokens second ++ plain_tag endif ∷ [])) rest)
      ∙ nodes_walk first (plain_tag else_ ∷ ((nodes_tokens second ++ plain_tag endif ∷ []) ++ rest)) (if_kind false ∷ ks)
      ∙ ap (λ ps. walk (plain_words ps) (else_kind false ∷ ks)) (append_assoc (nodes_tokens second) (plain_tag endif ∷ []) rest)
      ∙ nodes_walk second (plain_tag endif ∷ rest) (else_kind false ∷ ks)
  node_walk (for_node k first) rest ks =
      ap (λ ps. walk (plain_words ps) (for_kind false ∷ ks)) (append_assoc (nodes_tokens first) (plain_tag endfor ∷ []) rest)
      ∙ nodes_walk first (plain_tag endfor ∷ rest) (for_kind false ∷ ks)
  node_walk (for_sep_node k first second) rest ks =
      ap (λ ps. walk (plain_words ps) (for_kind false ∷ ks)) (append_assoc (nodes_tokens first) (plain_tag sep ∷ (nodes_tokens second ++ plain_tag endfor ∷ [])) rest)
      ∙ nodes_walk first (plain_tag sep ∷ ((nodes_tokens second ++ plain_tag endfor ∷ []) ++ rest)) (for_kind false ∷ ks)
      ∙ ap (λ ps. walk (plain_words ps) (sep_kind false ∷ ks)) (append_assoc (nodes_tokens second) (plain_tag endfor ∷ []) rest)
      ∙ nodes_walk second (plain_tag endfor ∷ rest) (sep_kind false ∷ ks)

  pub nodes_walk : (ns : Nodes) (rest : List Plain) (ks : List Kind) → walk (plain_words (nodes_tokens ns ++ rest)) ks ≡ walk (plain_words rest) ks
  nodes_walk no_nodes rest ks = refl
  nodes_walk (node n ns) rest ks =
      ap (λ ps. walk (plain_words ps) ks) (append_assoc (node_tokens n) (nodes_tokens ns) rest)
      ∙ node_walk n (nodes_tokens ns ++ rest) ks
      ∙ nodes_walk ns rest ks

-- the words of a tree walk from nothing to nothing
pub tree_walk : (tree : Nodes) → walk (plain_words (nodes_tokens tree)) [] ≡ Some []
tree_walk tree = ap (λ ps. walk (plain_words ps) []) (sym (append-nil (nodes_tokens tree))) ∙ nodes_walk tree [] []

-- tokens that are those of a tree
pub record Built (ps : List Plain) : Type 0 where
  pub tree : Nodes
  pub same : ps ≡ nodes_tokens tree

rebuilt : (a b : List Plain) → a ≡ b → Built b → Built a
rebuilt a b e built = record { tree = built.tree; same = e ∙ built.same }

abbrev kind_of : Frame → Kind
kind_of (if_frame head) = if_kind false
kind_of (else_frame head first) = else_kind false
kind_of (for_frame head) = for_kind false
kind_of (sep_frame head first) = sep_kind false

abbrev frame_tokens : Frame → List Plain
frame_tokens (if_frame head) = plain_tag (if_ head.key) ∷ []
frame_tokens (else_frame head first) = plain_tag (if_ head.key) ∷ (nodes_tokens first ++ plain_tag else_ ∷ [])
frame_tokens (for_frame head) = plain_tag (for_ head.key) ∷ []
frame_tokens (sep_frame head first) = plain_tag (for_ head.key) ∷ (nodes_tokens first ++ plain_tag sep ∷ [])

-- the tokens round the open forms
abbrev around : List Frame → List Plain
around [] = []
around (f ∷ fs) = around fs ++ (nodes_tokens (head_of f).outer ++ frame_tokens f)

abbrev so_far : Nodes → List Frame → List Plain
so_far ns fs = around fs ++ nodes_tokens ns

pushed : (n : Node) (ns : Nodes) (fs : List Frame) (ps : List Plain) → so_far ns fs ++ (node_tokens n ++ ps) ≡ so_far (joined_nodes ns (node n no_nodes)) fs ++ ps
pushed n ns fs ps = simp (nodes_tokens-joined, append_assoc, append-nil)

abbrev first_head : Bytes → Nodes → Head
first_head k ns = record { place = 0; key = k; outer = ns }

abbrev Gives : Option (List Kind) → List Kind → Type 0
Gives s ks = s ≡ Some ks

closes_none : {A : Type 0} (ks : List Kind) → Gives None ks → A
closes_none ks e = let no_ : ⊥ = cc in absurd no_

-- what was read so far goes on to a tree
build : (ps : List Plain) (ns : Nodes) (fs : List Frame) → walk (plain_words ps) (map kind_of fs) ≡ Some [] → Built (so_far ns fs ++ ps)
build [] ns [] e = record { tree = ns; same = append-nil (nodes_tokens ns) }
build [] ns (f ∷ fs) e = let no_ : ⊥ = cc in absurd no_
build (plain_text bytes ∷ ps) ns fs e = rebuilt _ _ (pushed (text_node bytes) ns fs ps) (build ps (joined_nodes ns (node (text_node bytes) no_nodes)) fs e)
build (plain_dollar ∷ ps) ns fs e = rebuilt _ _ (pushed dollar_node ns fs ps) (build ps (joined_nodes ns (node dollar_node no_nodes)) fs e)
build (plain_tag (key k) ∷ ps) ns fs e = rebuilt _ _ (pushed (key_node k) ns fs ps) (build ps (joined_nodes ns (node (key_node k) no_nodes)) fs e)
build (plain_tag (partial path) ∷ ps) ns fs e = rebuilt _ _ (pushed (partial_node path) ns fs ps) (build ps (joined_nodes ns (node (partial_node path) no_nodes)) fs e)
build (plain_tag (if_ k) ∷ ps) ns fs e = rebuilt _ _ (simp (append_assoc, append-nil)) (build ps no_nodes (if_frame (first_head k ns) ∷ fs) e)
build (plain_tag (for_ k) ∷ ps) ns fs e = rebuilt _ _ (simp (append_assoc, append-nil)) (build ps no_nodes (for_frame (first_head k ns) ∷ fs) e)
build (plain_tag else_ ∷ ps) ns [] e = closes_none [] e
build (plain_tag else_ ∷ ps) ns (if_frame head ∷ fs) e = rebuilt _ _ (simp (append_assoc, append-nil)) (build ps no_nodes (else_frame head ns ∷ fs) e)
build (plain_tag else_ ∷ ps) ns (else_frame head first ∷ fs) e = closes_none [] e
build (plain_tag else_ ∷ ps) ns (for_frame head ∷ fs) e = closes_none [] e
build (plain_tag else_ ∷ ps) ns (sep_frame head first ∷ fs) e = closes_none [] e
build (plain_tag sep ∷ ps) ns [] e = closes_none [] e
build (plain_tag sep ∷ ps) ns (if_frame head ∷ fs) e = closes_none [] e
build (plain_tag sep ∷ ps) ns (else_frame head first ∷ fs) e = closes_none [] e
build (plain_tag sep ∷ ps) ns (for_frame head ∷ fs) e = rebuilt _ _ (simp (append_assoc, append-nil)) (build ps no_nodes (sep_frame head ns ∷ fs) e)
build (plain_tag sep ∷ ps) ns (sep_frame head first ∷ fs) e = closes_none [] e
build (plain_tag endif ∷ ps) ns [] e = closes_none [] e
build (plain_tag endif ∷ ps) ns (if_frame head ∷ fs) e = rebuilt _ _ (simp (nodes_tokens-joined, append_assoc, append-nil)) (build ps (joined_nodes head.outer (node (if_node head.key ns) no_nodes)) fs e)
build (plain_tag endif ∷ ps) ns (else_frame head first ∷ fs) e = rebuilt _ _ (simp (nodes_tokens-joined, append_assoc, append-nil)) (build ps (joined_nodes head.outer (node (if_else_node head.key first ns) no_nodes)) fs e)
build (plain_tag endif ∷ ps) ns (for_frame head ∷ fs) e = closes_none [] e
build (plain_tag endif ∷ ps) ns (sep_frame head first ∷ fs) e = closes_none [] e
build (plain_tag endfor ∷ ps) ns [] e = closes_none [] e
build (plain_tag endfor ∷ ps) ns (if_frame head ∷ fs) e = closes_none [] e
build (plain_tag endfor ∷ ps) ns (else_frame head first ∷ fs) e = closes_none [] e
build (plain_tag endfor ∷ ps) ns (for_frame head ∷ fs) e = rebuilt _ _ (simp (nodes_tokens-joined, append_assoc, append-nil)) (build ps (joined_nodes head.outer (node (for_node head.key ns) no_nodes)) fs e)
build (plain_tag endfor ∷ ps) ns (sep_frame head first ∷ fs) e = rebuilt _ _ (simp (nodes_tokens-joined, append_assoc, append-nil)) (build ps (joined_nodes head.outer (node (for_sep_node head.key first ns) no_nodes)) fs e)

-- tokens whose words walk from nothing to nothing have a tree
pub built : (ts : List Token) → walk (token_words ts) [] ≡ Some [] → Built (trimmed false ts)
built ts e = build (trimmed false ts) no_nodes [] (ap (λ ws. walk ws []) (trimmed_words false ts) ∙ e)
