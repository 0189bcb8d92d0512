-- Walks above further open forms, walks from a form that isn't held any more, and trees that are one form.
use Rattle.std.proofs.Common.{◌≡◌, Bool, true, false, ◌⊎◌, inl, inr, List, [], ◌∷◌, ◌++◌, map, refl, ap, sym, ◌∙◌, append_assoc, Option, Some, None}
use Rattle.hk_base.specs.Bytes.{Bytes}
use Rattle.hk_template.specs.Token.{Word, key, if_, else_, endif, for_, sep, endfor, partial, Token, text, dollar, tag}
use Rattle.hk_template.specs.Tree.{Node, Nodes, no_nodes, node, text_node, dollar_node, key_node, if_node, if_else_node, for_node, for_sep_node, partial_node, nodes_tokens, Plain, plain_text, plain_dollar, plain_tag, text_if_any, trimmed, trim_end_if, trim_start_if, dashed}
use Rattle.hk_laws.proofs.WalkLemmas.{Kind, if_kind, else_kind, for_kind, sep_kind, step, on, walk, token_words, plain_words, nodes_walk}

-- a walk ends with these forms
abbrev Gives : Option (List Kind) → List Kind → Type 0
Gives s ks = s ≡ Some ks

absurd_none : {A : Type 0} (r : List Kind) → Gives None r → A
absurd_none r e = let no_ : ⊥ = cc in absurd no_

-- a step above further forms
step_above : (w : Word) (ks r base : List Kind) → step w ks ≡ Some r → step w (ks ++ base) ≡ Some (r ++ base)
step_above (key k) ks r base e = let same : ks ≡ r = cc in ap (λ l. Some (l ++ base)) same
step_above (partial path) ks r base e = let same : ks ≡ r = cc in ap (λ l. Some (l ++ base)) same
step_above (if_ k) ks r base e = let same : if_kind false ∷ ks ≡ r = cc in ap (λ l. Some (l ++ base)) same
step_above (for_ k) ks r base e = let same : for_kind false ∷ ks ≡ r = cc in ap (λ l. Some (l ++ base)) same
step_above else_ [] r base e = absurd_none r e
step_above else_ (if_kind held ∷ ks) r base e = let same : else_kind held ∷ ks ≡ r = cc in ap (λ l. Some (l ++ base)) same
step_above else_ (else_kind held ∷ ks) r base e = absurd_none r e
step_above else_ (for_kind held ∷ ks) r base e = absurd_none r e
step_above else_ (sep_kind held ∷ ks) r base e = absurd_none r e
step_above sep [] r base e = absurd_none r e
step_above sep (if_kind held ∷ ks) r base e = absurd_none r e
step_above sep (else_kind held ∷ ks) r base e = absurd_none r e
step_above sep (for_kind held ∷ ks) r base e = let same : sep_kind held ∷ ks ≡ r = cc in ap (λ l. Some (l ++ base)) same
step_above sep (sep_kind held ∷ ks) r base e = absurd_none r e
step_above endif [] r base e = absurd_none r e
step_above endif (if_kind false ∷ ks) r base e = let same : ks ≡ r = cc in ap (λ l. Some (l ++ base)) same
step_above endif (if_kind true ∷ ks) r base e = absurd_none r e
step_above endif (else_kind false ∷ ks) r base e = let same : ks ≡ r = cc in ap (λ l. Some (l ++ base)) same
step_above endif (else_kind true ∷ ks) r base e = absurd_none r e
step_above endif (for_kind held ∷ ks) r base e = absurd_none r e
step_above endif (sep_kind held ∷ ks) r base e = absurd_none r e
step_above endfor [] r base e = absurd_none r e
step_above endfor (if_kind held ∷ ks) r base e = absurd_none r e
step_above endfor (else_kind held ∷ ks) r base e = absurd_none r e
step_above endfor (for_kind false ∷ ks) r base e = let same : ks ≡ r = cc in ap (λ l. Some (l ++ base)) same
step_above endfor (for_kind true ∷ ks) r base e = absurd_none r e
step_above endfor (sep_kind false ∷ ks) r base e = let same : ks ≡ r = cc in ap (λ l. Some (l ++ base)) same
step_above endfor (sep_kind true ∷ ks) r base e = absurd_none r e

-- what a step leaves, or why there is no walk
stepped : (ws : List Word) (s : Option (List Kind)) (r : List Kind) → on (walk ws) s ≡ Some r → (next : List Kind) × (s ≡ Some next) × (walk ws next ≡ Some r)
stepped ws None r e = absurd_none r e
stepped ws (Some next) r e = (next, refl, e)

pub walk_above : (ws : List Word) (ks r base : List Kind) → walk ws ks ≡ Some r → walk ws (ks ++ base) ≡ Some (r ++ base)
walk_above [] ks r base e = let same : ks ≡ r = cc in ap (λ l. Some (l ++ base)) same
walk_above (w ∷ ws) ks r base e =
    let s = stepped ws (step w ks) r e in
    ap (on (walk ws)) (step_above w ks s.0 base s.1) ∙ walk_above ws s.0 r base s.2

-- a form that isn't held
abbrev pub let_go : Kind → Kind
let_go (if_kind held) = if_kind false
let_go (else_kind held) = else_kind false
let_go (for_kind held) = for_kind false
let_go (sep_kind held) = sep_kind false

step_free : (w : Word) (ks r : List Kind) → step w ks ≡ Some r → step w (map let_go ks) ≡ Some (map let_go r)
step_free (key k) ks r e = let same : ks ≡ r = cc in ap (λ l. Some (map let_go l)) same
step_free (partial path) ks r e = let same : ks ≡ r = cc in ap (λ l. Some (map let_go l)) same
step_free (if_ k) ks r e = let same : if_kind false ∷ ks ≡ r = cc in ap (λ l. Some (map let_go l)) same
step_free (for_ k) ks r e = let same : for_kind false ∷ ks ≡ r = cc in ap (λ l. Some (map let_go l)) same
step_free else_ [] r e = absurd_none r e
step_free else_ (if_kind held ∷ ks) r e = let same : else_kind held ∷ ks ≡ r = cc in ap (λ l. Some (map let_go l)) same
step_free else_ (else_kind held ∷ ks) r e = absurd_none r e
step_free else_ (for_kind held ∷ ks) r e = absurd_none r e
step_free else_ (sep_kind held ∷ ks) r e = absurd_none r e
step_free sep [] r e = absurd_none r e
step_free sep (if_kind held ∷ ks) r e = absurd_none r e
step_free sep (else_kind held ∷ ks) r e = absurd_none r e
step_free sep (for_kind held ∷ ks) r e = let same : sep_kind held ∷ ks ≡ r = cc in ap (λ l. Some (map let_go l)) same
step_free sep (sep_kind held ∷ ks) r e = absurd_none r e
step_free endif [] r e = absurd_none r e
step_free endif (if_kind false ∷ ks) r e = let same : ks ≡ r = cc in ap (λ l. Some (map let_go l)) same
step_free endif (if_kind true ∷ ks) r e = absurd_none r e
step_free endif (else_kind false ∷ ks) r e = let same : ks ≡ r = cc in ap (λ l. Some (map let_go l)) same
step_free endif (else_kind true ∷ ks) r e = absurd_none r e
step_free endif (for_kind held ∷ ks) r e = absurd_none r e
step_free endif (sep_kind held ∷ ks) r e = absurd_none r e
step_free endfor [] r e = absurd_none r e
step_free endfor (if_kind held ∷ ks) r e = absurd_none r e
step_free endfor (else_kind held ∷ ks) r e = absurd_none r e
step_free endfor (for_kind false ∷ ks) r e = let same : ks ≡ r = cc in ap (λ l. Some (map let_go l)) same
step_free endfor (for_kind true ∷ ks) r e = absurd_none r e
step_free endfor (sep_kind false ∷ ks) r e = let same : ks ≡ r = cc in ap (λ l. Some (map let_go l)) same
step_free endfor (sep_kind true ∷ ks) r e = absurd_none r e

pub walk_free : (ws : List Word) (ks r : List Kind) → walk ws ks ≡ Some r → walk ws (map let_go ks) ≡ Some (map let_go r)
walk_free [] ks r e = let same : ks ≡ r = cc in ap (λ l. Some (map let_go l)) same
walk_free (w ∷ ws) ks r e =
    let s = stepped ws (step w ks) r e in
    ap (on (walk ws)) (step_free w ks s.0 s.1) ∙ walk_free ws s.0 r s.2

-- the two sorts of forms
pub data Sort : Type 0 where
  if_sort : Sort
  for_sort : Sort

abbrev pub first_word : Sort → Bytes → Word
first_word if_sort k = if_ k
first_word for_sort k = for_ k

abbrev pub last_word : Sort → Word
last_word if_sort = endif
last_word for_sort = endfor

abbrev pub held_kind : Sort → Kind
held_kind if_sort = if_kind true
held_kind for_sort = for_kind true

-- where one token ends a list, a token in it ends it too or stands before
at_last : (xs qs rest : List Plain) (e c : Plain) → xs ++ (e ∷ rest) ≡ qs ++ (c ∷ []) → (rest ≡ []) ⊎ ((init : List Plain) × (qs ≡ xs ++ (e ∷ init)))
at_last [] [] rest e c same = inl cc
at_last (x ∷ []) [] rest e c same = let no_ : ⊥ = cc in absurd no_
at_last (x ∷ (y ∷ xs)) [] rest e c same = let no_ : ⊥ = cc in absurd no_
at_last [] (q ∷ qs) rest e c same = let head : e ≡ q = cc in inr (qs, ap (λ p. p ∷ qs) (sym head))
at_last (x ∷ xs) (q ∷ qs) rest e c same =
    let head : x ≡ q = cc in
    let tail : xs ++ (e ∷ rest) ≡ qs ++ (c ∷ []) = cc in
    elim (at_last xs qs rest e c tail) [
      | inl none ↦ inl none
      | inr more ↦ inr (more.0, λ i. sym head i ∷ more.1 i)
    ]

no_tokens : (ns : Nodes) → nodes_tokens ns ≡ [] → ns ≡ no_nodes
no_tokens no_nodes e = refl
no_tokens (node (text_node bytes) ns) e = let no_ : ⊥ = cc in absurd no_
no_tokens (node dollar_node ns) e = let no_ : ⊥ = cc in absurd no_
no_tokens (node (key_node k) ns) e = let no_ : ⊥ = cc in absurd no_
no_tokens (node (if_node k first) ns) e = let no_ : ⊥ = cc in absurd no_
no_tokens (node (if_else_node k first second) ns) e = let no_ : ⊥ = cc in absurd no_
no_tokens (node (for_node k first) ns) e = let no_ : ⊥ = cc in absurd no_
no_tokens (node (for_sep_node k first second) ns) e = let no_ : ⊥ = cc in absurd no_
no_tokens (node (partial_node path) ns) e = let no_ : ⊥ = cc in absurd no_

-- a list of nodes that is one node
abbrev pub IsOne : Nodes → Type 0
IsOne tree = (n : Node) × (tree ≡ node n no_nodes)

-- a form that is closed before the last token would close a form that is held
one_by : (n : Node) (ns : Nodes) (inner : List Plain) (e c : Plain) (qs : List Plain) (k : Kind) (r : List Kind) → inner ++ (e ∷ nodes_tokens ns) ≡ qs ++ (c ∷ [])
    → ((init : List Plain) → walk (plain_words (inner ++ (e ∷ init))) (k ∷ []) ≡ None) → walk (plain_words qs) (k ∷ []) ≡ Some r → IsOne (node n ns)
one_by n ns inner e c qs k r same stuck goes =
    elim (at_last inner qs (nodes_tokens ns) e c same) [
      | inl none ↦ (n, ap (node n) (no_tokens ns none))
      | inr more ↦ absurd_none r (sym (stuck more.0) ∙ ap (λ ps. walk (plain_words ps) (k ∷ [])) (sym more.1) ∙ goes)
    ]

one_tail : (word other : Word) (xs ys : List Plain) → plain_tag word ∷ xs ≡ plain_tag other ∷ ys → xs ≡ ys
one_tail word other xs ys e = cc

two_parts : (first second rest : List Plain) (d e : Plain) → (first ++ d ∷ (second ++ e ∷ [])) ++ rest ≡ (first ++ d ∷ second) ++ (e ∷ rest)
two_parts first second rest d e = simp append_assoc

one_part : (first rest : List Plain) (e : Plain) → (first ++ e ∷ []) ++ rest ≡ first ++ (e ∷ rest)
one_part first rest e = append_assoc first (e ∷ []) rest

both_stuck : (first second : Nodes) (d e : Plain) (init : List Plain) (k m : Kind) → ((ps : List Plain) → walk (plain_words (d ∷ ps)) (k ∷ []) ≡ walk (plain_words ps) (m ∷ [])) → ((ps : List Plain) → walk (plain_words (e ∷ ps)) (m ∷ []) ≡ None)
    → walk (plain_words ((nodes_tokens first ++ d ∷ nodes_tokens second) ++ (e ∷ init))) (k ∷ []) ≡ None
both_stuck first second d e init k m next stuck =
    ap (λ ps. walk (plain_words ps) (k ∷ [])) (append_assoc (nodes_tokens first) (d ∷ nodes_tokens second) (e ∷ init))
    ∙ nodes_walk first (d ∷ (nodes_tokens second ++ (e ∷ init))) (k ∷ [])
    ∙ next (nodes_tokens second ++ (e ∷ init))
    ∙ nodes_walk second (e ∷ init) (m ∷ [])
    ∙ stuck init

-- tokens of one form that is held up to its last tag are those of one node
pub one_form : (tree : Nodes) (s : Sort) (k : Bytes) (qs : List Plain) (c : Plain) (r : List Kind) → plain_tag (first_word s k) ∷ (qs ++ (c ∷ [])) ≡ nodes_tokens tree → walk (plain_words qs) (held_kind s ∷ []) ≡ Some r → IsOne tree
one_form no_nodes s k qs c r e goes = let no_ : ⊥ = cc in absurd no_
one_form (node (text_node bytes) ns) s k qs c r e goes = let no_ : ⊥ = cc in absurd no_
one_form (node dollar_node ns) s k qs c r e goes = let no_ : ⊥ = cc in absurd no_
one_form (node (key_node l) ns) if_sort k qs c r e goes = let no_ : ⊥ = cc in absurd no_
one_form (node (key_node l) ns) for_sort k qs c r e goes = let no_ : ⊥ = cc in absurd no_
one_form (node (partial_node l) ns) if_sort k qs c r e goes = let no_ : ⊥ = cc in absurd no_
one_form (node (partial_node l) ns) for_sort k qs c r e goes = let no_ : ⊥ = cc in absurd no_
one_form (node (if_node l first) ns) for_sort k qs c r e goes = let no_ : ⊥ = cc in absurd no_
one_form (node (if_else_node l first second) ns) for_sort k qs c r e goes = let no_ : ⊥ = cc in absurd no_
one_form (node (for_node l first) ns) if_sort k qs c r e goes = let no_ : ⊥ = cc in absurd no_
one_form (node (for_sep_node l first second) ns) if_sort k qs c r e goes = let no_ : ⊥ = cc in absurd no_
one_form (node (if_node l first) ns) if_sort k qs c r e goes =
    one_by (if_node l first) ns (nodes_tokens first) (plain_tag endif) c qs (if_kind true) r
    (sym (one_part (nodes_tokens first) (nodes_tokens ns) (plain_tag endif)) ∙ sym (one_tail (if_ k) (if_ l) _ _ e))
    (λ init. nodes_walk first (plain_tag endif ∷ init) (if_kind true ∷ [])) goes
one_form (node (if_else_node l first second) ns) if_sort k qs c r e goes =
    one_by (if_else_node l first second) ns (nodes_tokens first ++ plain_tag else_ ∷ nodes_tokens second) (plain_tag endif) c qs (if_kind true) r
    (sym (two_parts (nodes_tokens first) (nodes_tokens second) (nodes_tokens ns) (plain_tag else_) (plain_tag endif)) ∙ sym (one_tail (if_ k) (if_ l) _ _ e))
    (λ init. both_stuck first second (plain_tag else_) (plain_tag endif) init (if_kind true) (else_kind true) (λ ps. refl) (λ ps. refl)) goes
one_form (node (for_node l first) ns) for_sort k qs c r e goes =
    one_by (for_node l first) ns (nodes_tokens first) (plain_tag endfor) c qs (for_kind true) r
    (sym (one_part (nodes_tokens first) (nodes_tokens ns) (plain_tag endfor)) ∙ sym (one_tail (for_ k) (for_ l) _ _ e))
    (λ init. nodes_walk first (plain_tag endfor ∷ init) (for_kind true ∷ [])) goes
one_form (node (for_sep_node l first second) ns) for_sort k qs c r e goes =
    one_by (for_sep_node l first second) ns (nodes_tokens first ++ plain_tag sep ∷ nodes_tokens second) (plain_tag endfor) c qs (for_kind true) r
    (sym (two_parts (nodes_tokens first) (nodes_tokens second) (nodes_tokens ns) (plain_tag sep) (plain_tag endfor)) ∙ sym (one_tail (for_ k) (for_ l) _ _ e))
    (λ init. both_stuck first second (plain_tag sep) (plain_tag endfor) init (for_kind true) (sep_kind true) (λ ps. refl) (λ ps. refl)) goes

-- a last tag stays the last token where texts are trimmed
pub record LastTag (after : Bool) (ts : List Token) (w : Word) : Type 0 where
  pub before : List Plain
  pub same : trimmed after (ts ++ tag false w false ∷ []) ≡ before ++ (plain_tag w ∷ [])
  pub words : plain_words before ≡ token_words ts

text_last : (bytes : Bytes) (before : List Plain) (w : Word) (all : List Plain) (ws : List Word) → all ≡ before ++ (plain_tag w ∷ []) → plain_words before ≡ ws → (more : List Plain) × (text_if_any bytes all ≡ more ++ (plain_tag w ∷ [])) × (plain_words more ≡ ws)
text_last [] before w all ws e f = (before, e, f)
text_last (c ∷ cs) before w all ws e f = (plain_text (c ∷ cs) ∷ before, ap (λ ps. plain_text (c ∷ cs) ∷ ps) e, f)

pub last_tag : (after : Bool) (ts : List Token) (w : Word) → LastTag after ts w
last_tag after [] w = record { before = []; same = refl; words = refl }
last_tag after (text bytes ∷ ts) w =
    let inner = last_tag false ts w in
    let more = text_last (trim_end_if (dashed (ts ++ tag false w false ∷ [])) (trim_start_if after bytes)) inner.before w (trimmed false (ts ++ tag false w false ∷ [])) (token_words ts) inner.same inner.words in
    record { before = more.0; same = more.1; words = more.2 }
last_tag after (dollar ∷ ts) w =
    let inner = last_tag false ts w in
    record { before = plain_dollar ∷ inner.before; same = ap (λ ps. plain_dollar ∷ ps) inner.same; words = inner.words }
last_tag after (tag left word right ∷ ts) w =
    let inner = last_tag right ts w in
    record { before = plain_tag word ∷ inner.before; same = ap (λ ps. plain_tag word ∷ ps) inner.same; words = ap (λ ws. word ∷ ws) inner.words }
