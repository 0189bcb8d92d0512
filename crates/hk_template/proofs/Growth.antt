-- How a tree grows over tokens without dashes, and that this is the grammar.
use Rattle.std.proofs.Common.{◌≡◌, ℕ, ◌+◌, ◌<◌, ◌≤◌, Bool, true, false, nat_lt, if◌then◌else◌, List, [], ◌∷◌, ◌++◌, length, refl, ap, sym, subst, ◌∙◌, append_assoc, append-nil, arith, Result, Ok, Err, IfOk, lt-ltb}
use Rattle.hk_base.specs.Bytes.{Bytes}
use Rattle.hk_template.specs.declared.fault.TemplateFault.{TemplateFault}
use Rattle.hk_template.specs.Token.{Word, key, if_, else_, endif, for_, sep, endfor, partial}
use Rattle.hk_template.specs.Tree.{Node, Nodes, no_nodes, node, joined_nodes, text_node, dollar_node, key_node, if_node, if_else_node, for_node, for_sep_node, partial_node, node_tokens, nodes_tokens, depth, nodes_depth, Plain, plain_text, plain_dollar, plain_tag}
use Rattle.hk_template.specs.Growing.{Head, Frame, if_frame, else_frame, for_frame, sep_frame, State, with_node, opening, word_step, finished, head_of, start}
use Rattle.hk_template.specs.TreeCode.{joined-nil}
use Rattle.hk_template.proofs.Nodes.{joined-assoc, nodes_tokens-joined}

abbrev pub on_state : (State → Result Nodes TemplateFault) → Result State TemplateFault → Result Nodes TemplateFault
on_state onward (Ok st) = onward st
on_state onward (Err fault) = Err fault

-- the tree that tokens without dashes give
abbrev pub grow : State → List Plain → Result Nodes TemplateFault
grow st [] = finished st
grow st (plain_text bytes ∷ ps) = grow (with_node (text_node bytes) st) ps
grow st (plain_dollar ∷ ps) = grow (with_node dollar_node st) ps
grow st (plain_tag word ∷ ps) = on_state (λ next. grow next ps) (word_step 0 word st)

abbrev opened_with : (Head → Frame) → Bytes → State → State
opened_with make k st = record { nodes = no_nodes; forms = make (record { place = 0; key = k; outer = st.nodes }) ∷ st.forms }

grow_open : (make : Head → Frame) (k : Bytes) (st : State) (onward : State → Result Nodes TemplateFault) → length st.forms < 64 → on_state onward (opening 0 make k st) ≡ onward (opened_with make k st)
grow_open make k st onward h = rw (lt-ltb (length st.forms) 64 h) refl

abbrev with_nodes : Nodes → State → State
with_nodes ns st = record { nodes = joined_nodes st.nodes ns; forms = st.forms }

mutual
  grow_node : (n : Node) (st : State) (rest : List Plain) → length st.forms + depth n ≤ 64 → grow st (node_tokens n ++ rest) ≡ grow (with_node n st) rest
  grow_node (text_node bytes) st rest h = refl
  grow_node dollar_node st rest h = refl
  grow_node (key_node k) st rest h = refl
  grow_node (partial_node path) st rest h = refl
  grow_node (if_node k yes_) st rest h =
      grow_open if_frame k st _ (omega arith)
      ∙ ap (grow (opened_with if_frame k st)) (append_assoc (nodes_tokens yes_) (plain_tag endif ∷ []) rest)
      ∙ grow_nodes yes_ (opened_with if_frame k st) (plain_tag endif ∷ rest) (omega arith)
  grow_node (if_else_node k yes_ no_) st rest h =
      grow_open if_frame k st _ (omega arith)
      ∙ ap (grow (opened_with if_frame k st)) (append_assoc (nodes_tokens yes_) (plain_tag else_ ∷ (nodes_tokens no_ ++ plain_tag endif ∷ [])) rest)
      ∙ grow_nodes yes_ (opened_with if_frame k st) (plain_tag else_ ∷ ((nodes_tokens no_ ++ plain_tag endif ∷ []) ++ rest)) (omega arith)
      ∙ (let next : State = record { nodes = no_nodes; forms = else_frame (record { place = 0; key = k; outer = st.nodes }) yes_ ∷ st.forms } in
      ap (grow next) (append_assoc (nodes_tokens no_) (plain_tag endif ∷ []) rest)
      ∙ grow_nodes no_ next (plain_tag endif ∷ rest) (omega arith))
  grow_node (for_node k each) st rest h =
      grow_open for_frame k st _ (omega arith)
      ∙ ap (grow (opened_with for_frame k st)) (append_assoc (nodes_tokens each) (plain_tag endfor ∷ []) rest)
      ∙ grow_nodes each (opened_with for_frame k st) (plain_tag endfor ∷ rest) (omega arith)
  grow_node (for_sep_node k each between) st rest h =
      grow_open for_frame k st _ (omega arith)
      ∙ ap (grow (opened_with for_frame k st)) (append_assoc (nodes_tokens each) (plain_tag sep ∷ (nodes_tokens between ++ plain_tag endfor ∷ [])) rest)
      ∙ grow_nodes each (opened_with for_frame k st) (plain_tag sep ∷ ((nodes_tokens between ++ plain_tag endfor ∷ []) ++ rest)) (omega arith)
      ∙ (let next : State = record { nodes = no_nodes; forms = sep_frame (record { place = 0; key = k; outer = st.nodes }) each ∷ st.forms } in
      ap (grow next) (append_assoc (nodes_tokens between) (plain_tag endfor ∷ []) rest)
      ∙ grow_nodes between next (plain_tag endfor ∷ rest) (omega arith))

  grow_nodes : (ns : Nodes) (st : State) (rest : List Plain) → length st.forms + nodes_depth ns ≤ 64 → grow st (nodes_tokens ns ++ rest) ≡ grow (with_nodes ns st) rest
  grow_nodes no_nodes st rest h = ap (λ ns. grow (record { nodes = ns; forms = st.forms }) rest) (sym (joined-nil st.nodes))
  grow_nodes (node n ns) st rest h =
      ap (grow st) (append_assoc (node_tokens n) (nodes_tokens ns) rest)
      ∙ grow_node n st (nodes_tokens ns ++ rest) (omega arith)
      ∙ grow_nodes ns (with_node n st) rest (omega arith)
      ∙ ap (λ ms. grow (record { nodes = ms; forms = st.forms }) rest) (joined-assoc st.nodes (node n no_nodes) ns)

-- the tokens of a tree give it
pub grow_tree : (tree : Nodes) → nodes_depth tree ≤ 64 → grow start (nodes_tokens tree) ≡ Ok tree
grow_tree tree h = ap (grow start) (sym (append-nil (nodes_tokens tree))) ∙ grow_nodes tree start [] (omega arith)

-- the tokens of an open form
abbrev frame_tokens : Frame → List Plain
frame_tokens (if_frame head) = plain_tag (if_ head.key) ∷ []
frame_tokens (else_frame head yes_) = plain_tag (if_ head.key) ∷ (nodes_tokens yes_ ++ plain_tag else_ ∷ [])
frame_tokens (for_frame head) = plain_tag (for_ head.key) ∷ []
frame_tokens (sep_frame head each) = plain_tag (for_ head.key) ∷ (nodes_tokens each ++ plain_tag sep ∷ [])

abbrev around : List Frame → List Plain
around [] = []
around (f ∷ fs) = around fs ++ (nodes_tokens (head_of f).outer ++ frame_tokens f)

-- the tokens that led to a state
abbrev state_tokens : State → List Plain
state_tokens st = around st.forms ++ nodes_tokens st.nodes

with_node_tokens : (n : Node) (st : State) → state_tokens (with_node n st) ≡ state_tokens st ++ node_tokens n
with_node_tokens n st = simp (nodes_tokens-joined, append_assoc, append-nil)

ok_if : (b : Bool) (next : State) (fault : TemplateFault) (P : State → Type 0) → P next → IfOk (if b then Ok next else Err fault) P
ok_if true next fault P h = h
ok_if false next fault P h = tt

tokens_open_if : (p : ℕ) (k : Bytes) (st : State) → IfOk (opening p if_frame k st) (λ next. state_tokens next ≡ state_tokens st ++ plain_tag (if_ k) ∷ [])
tokens_open_if p k st = ok_if (nat_lt (length st.forms) 64) (record { nodes = no_nodes; forms = if_frame (record { place = p; key = k; outer = st.nodes }) ∷ st.forms }) _ (λ next. state_tokens next ≡ state_tokens st ++ plain_tag (if_ k) ∷ []) (simp (append_assoc, append-nil))

tokens_open_for : (p : ℕ) (k : Bytes) (st : State) → IfOk (opening p for_frame k st) (λ next. state_tokens next ≡ state_tokens st ++ plain_tag (for_ k) ∷ [])
tokens_open_for p k st = ok_if (nat_lt (length st.forms) 64) (record { nodes = no_nodes; forms = for_frame (record { place = p; key = k; outer = st.nodes }) ∷ st.forms }) _ (λ next. state_tokens next ≡ state_tokens st ++ plain_tag (for_ k) ∷ []) (simp (append_assoc, append-nil))

word_tokens : (p : ℕ) (word : Word) (ns : Nodes) (fs : List Frame) → let st : State = record { nodes = ns; forms = fs } in IfOk (word_step p word st) (λ next. state_tokens next ≡ state_tokens st ++ plain_tag word ∷ [])
word_tokens p (key k) ns fs = with_node_tokens (key_node k) (record { nodes = ns; forms = fs })
word_tokens p (partial path) ns fs = with_node_tokens (partial_node path) (record { nodes = ns; forms = fs })
word_tokens p (if_ k) ns fs = tokens_open_if p k (record { nodes = ns; forms = fs })
word_tokens p (for_ k) ns fs = tokens_open_for p k (record { nodes = ns; forms = fs })
word_tokens p else_ ns [] = tt
word_tokens p else_ ns (if_frame head ∷ fs) = simp (append_assoc, append-nil)
word_tokens p else_ ns (else_frame head yes_ ∷ fs) = tt
word_tokens p else_ ns (for_frame head ∷ fs) = tt
word_tokens p else_ ns (sep_frame head each ∷ fs) = tt
word_tokens p sep ns [] = tt
word_tokens p sep ns (if_frame head ∷ fs) = tt
word_tokens p sep ns (else_frame head yes_ ∷ fs) = tt
word_tokens p sep ns (for_frame head ∷ fs) = simp (append_assoc, append-nil)
word_tokens p sep ns (sep_frame head each ∷ fs) = tt
word_tokens p endif ns [] = tt
word_tokens p endif ns (if_frame head ∷ fs) = simp (nodes_tokens-joined, append_assoc, append-nil)
word_tokens p endif ns (else_frame head yes_ ∷ fs) = simp (nodes_tokens-joined, append_assoc, append-nil)
word_tokens p endif ns (for_frame head ∷ fs) = tt
word_tokens p endif ns (sep_frame head each ∷ fs) = tt
word_tokens p endfor ns [] = tt
word_tokens p endfor ns (if_frame head ∷ fs) = tt
word_tokens p endfor ns (else_frame head yes_ ∷ fs) = tt
word_tokens p endfor ns (for_frame head ∷ fs) = simp (nodes_tokens-joined, append_assoc, append-nil)
word_tokens p endfor ns (sep_frame head each ∷ fs) = simp (nodes_tokens-joined, append_assoc, append-nil)

abbrev HasTokens : List Plain → Result Nodes TemplateFault → Type 0
HasTokens ps r = IfOk r (λ tree. nodes_tokens tree ≡ ps)

regroup : (a b c : List Plain) (p : Plain) → a ≡ b ++ p ∷ [] → a ++ c ≡ b ++ (p ∷ c)
regroup a b c p e = ap (λ x. x ++ c) e ∙ append_assoc b (p ∷ []) c

on_tokens : (r : Result State TemplateFault) (before : List Plain) (p : Plain) (ps : List Plain) → IfOk r (λ next. state_tokens next ≡ before ++ p ∷ []) → ((next : State) → HasTokens (state_tokens next ++ ps) (grow next ps)) → HasTokens (before ++ (p ∷ ps)) (on_state (λ next. grow next ps) r)
on_tokens (Ok next) before p ps e after = let P : List Plain → Type 0 = λ qs. HasTokens qs (grow next ps) in subst P (regroup (state_tokens next) before ps p e) (after next)
on_tokens (Err fault) before p ps e after = tt

finished_tokens : (ns : Nodes) (fs : List Frame) → let st : State = record { nodes = ns; forms = fs } in HasTokens (state_tokens st ++ []) (finished st)
finished_tokens ns [] = sym (append-nil (nodes_tokens ns))
finished_tokens ns (f ∷ fs) = tt

-- the tree that tokens give has them
pub grow_tokens : (st : State) (ps : List Plain) → HasTokens (state_tokens st ++ ps) (grow st ps)
grow_tokens st [] = finished_tokens st.nodes st.forms
grow_tokens st (plain_text bytes ∷ ps) = let P : List Plain → Type 0 = λ qs. HasTokens qs (grow (with_node (text_node bytes) st) ps) in
    subst P (regroup _ (state_tokens st) ps (plain_text bytes) (with_node_tokens (text_node bytes) st)) (grow_tokens (with_node (text_node bytes) st) ps)
grow_tokens st (plain_dollar ∷ ps) = let P : List Plain → Type 0 = λ qs. HasTokens qs (grow (with_node dollar_node st) ps) in
    subst P (regroup _ (state_tokens st) ps plain_dollar (with_node_tokens dollar_node st)) (grow_tokens (with_node dollar_node st) ps)
grow_tokens st (plain_tag word ∷ ps) = on_tokens (word_step 0 word st) (state_tokens st) (plain_tag word) ps (word_tokens 0 word st.nodes st.forms) (λ next. grow_tokens next ps)
