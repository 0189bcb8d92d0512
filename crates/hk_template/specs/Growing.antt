-- How a tree grows, token by token, with the forms that are open: what the parts of the parser answer.
use Rattle.std.specs.Prelude.{ℕ, ◌+◌, Bool, true, false, nat_lt, if◌then◌else◌, List, [], ◌∷◌, length, Result, Ok, Err}
use Rattle.hk_base.specs.Bytes.{Bytes}
use Rattle.hk_template.specs.Token.{Word, key, if_, else_, endif, for_, sep, endfor, partial, Token, text, dollar, tag, token_text}
use Rattle.hk_template.specs.Tree.{Node, Nodes, no_nodes, node, joined_nodes, text_node, dollar_node, key_node, if_node, if_else_node, for_node, for_sep_node, partial_node, trim_start_if, trim_end_if}
use Rattle.hk_template.specs.Cut.{cut}
use Rattle.hk_template.specs.declared.fault.TemplateFault.{TemplateFault}
use Rattle.hk_template.specs.declared.fault.TemplateFault.TheVariants.{BadForm, Unclosed, TooDeep}

-- the place of a form's first tag, its key, and the nodes before it in the list around it
pub record Head : Type 0 where
  pub place : ℕ
  pub key : Bytes
  pub outer : Nodes

-- an open form; after `else` or `sep` it has the nodes before that tag
pub data Frame : Type 0 where
  if_frame : Head → Frame
  else_frame : Head → Nodes → Frame
  for_frame : Head → Frame
  sep_frame : Head → Nodes → Frame

-- the nodes so far of the innermost list, and the open forms, the innermost first
pub record State : Type 0 where
  pub nodes : Nodes
  pub forms : List Frame

-- one more node
abbrev pub with_node : Node → State → State
with_node n st = record { nodes = joined_nodes st.nodes (node n no_nodes); forms = st.forms }

abbrev pub opening : ℕ → (Head → Frame) → Bytes → State → Result State TemplateFault
opening p make k st =
    if nat_lt (length st.forms) 64
    then Ok (record { nodes = no_nodes; forms = make (record { place = p; key = k; outer = st.nodes }) ∷ st.forms })
    else Err (TooDeep p)

-- the list around a form, with the form as one more node
abbrev pub closing : Head → List Frame → Node → State
closing head forms n = record { nodes = joined_nodes head.outer (node n no_nodes); forms = forms }

abbrev pub else_step : ℕ → Nodes → List Frame → Result State TemplateFault
else_step p ns (if_frame head ∷ fs) = Ok (record { nodes = no_nodes; forms = else_frame head ns ∷ fs })
else_step p ns (else_frame head yes_ ∷ fs) = Err (BadForm p)
else_step p ns (for_frame head ∷ fs) = Err (BadForm p)
else_step p ns (sep_frame head each ∷ fs) = Err (BadForm p)
else_step p ns [] = Err (BadForm p)

abbrev pub sep_step : ℕ → Nodes → List Frame → Result State TemplateFault
sep_step p ns (if_frame head ∷ fs) = Err (BadForm p)
sep_step p ns (else_frame head yes_ ∷ fs) = Err (BadForm p)
sep_step p ns (for_frame head ∷ fs) = Ok (record { nodes = no_nodes; forms = sep_frame head ns ∷ fs })
sep_step p ns (sep_frame head each ∷ fs) = Err (BadForm p)
sep_step p ns [] = Err (BadForm p)

abbrev pub endif_step : ℕ → Nodes → List Frame → Result State TemplateFault
endif_step p ns (if_frame head ∷ fs) = Ok (closing head fs (if_node head.key ns))
endif_step p ns (else_frame head yes_ ∷ fs) = Ok (closing head fs (if_else_node head.key yes_ ns))
endif_step p ns (for_frame head ∷ fs) = Err (BadForm p)
endif_step p ns (sep_frame head each ∷ fs) = Err (BadForm p)
endif_step p ns [] = Err (BadForm p)

abbrev pub endfor_step : ℕ → Nodes → List Frame → Result State TemplateFault
endfor_step p ns (if_frame head ∷ fs) = Err (BadForm p)
endfor_step p ns (else_frame head yes_ ∷ fs) = Err (BadForm p)
endfor_step p ns (for_frame head ∷ fs) = Ok (closing head fs (for_node head.key ns))
endfor_step p ns (sep_frame head each ∷ fs) = Ok (closing head fs (for_sep_node head.key each ns))
endfor_step p ns [] = Err (BadForm p)

-- what a word at a place makes of the nodes and the open forms
abbrev pub word_step : ℕ → Word → State → Result State TemplateFault
word_step p (key k) st = Ok (with_node (key_node k) st)
word_step p (partial path) st = Ok (with_node (partial_node path) st)
word_step p (if_ k) st = opening p if_frame k st
word_step p (for_ k) st = opening p for_frame k st
word_step p else_ st = else_step p st.nodes st.forms
word_step p sep st = sep_step p st.nodes st.forms
word_step p endif st = endif_step p st.nodes st.forms
word_step p endfor st = endfor_step p st.nodes st.forms

-- a text that has bytes, as one more node
abbrev pub with_text : Bytes → State → State
with_text [] st = st
with_text (c ∷ cs) st = with_node (text_node (c ∷ cs)) st

-- a text that may still lose the blanks at its end, and whether a right dash stands before the next token
pub record Waiting : Type 0 where
  pub state : State
  pub run : Bytes
  pub after : Bool

abbrev pub left_dash : Token → Bool
left_dash (text bytes) = false
left_dash dollar = false
left_dash (tag left word right) = left

-- the text that waits as a node, trimmed where a left dash follows
abbrev pub flushed : Bool → Waiting → State
flushed left w = with_text (trim_end_if left w.run) w.state

abbrev pub waits : Bytes → Bool → State → Waiting
waits run after st = record { state = st; run = run; after = after }

abbrev pub waits_if : Bool → Result State TemplateFault → Result Waiting TemplateFault
waits_if after (Ok st) = Ok (waits [] after st)
waits_if after (Err fault) = Err fault

abbrev pub token_step : ℕ → Token → Waiting → Result Waiting TemplateFault
token_step p (text bytes) w = Ok (waits (trim_start_if w.after bytes) false (flushed false w))
token_step p dollar w = Ok (waits [] false (with_node dollar_node (flushed false w)))
token_step p (tag left word right) w = waits_if right (word_step p word (flushed left w))

abbrev pub head_of : Frame → Head
head_of (if_frame head) = head
head_of (else_frame head yes_) = head
head_of (for_frame head) = head
head_of (sep_frame head each) = head

abbrev pub finished_by : Nodes → List Frame → Result Nodes TemplateFault
finished_by ns [] = Ok ns
finished_by ns (f ∷ fs) = Err (Unclosed (head_of f).place)

abbrev pub finished : State → Result Nodes TemplateFault
finished st = finished_by st.nodes st.forms

abbrev pub ended : ℕ → Waiting → Bool → Result Nodes TemplateFault
ended p w true = finished (flushed false w)
ended p w false = Err (BadForm p)

abbrev pub grown_on : (Waiting → Result Nodes TemplateFault) → Result Waiting TemplateFault → Result Nodes TemplateFault
grown_on onward (Ok w) = onward w
grown_on onward (Err fault) = Err fault

-- the tree that the tokens from a place on give, or their first fault
abbrev pub grown_from : ℕ → Waiting → List Token → Bool → Result Nodes TemplateFault
grown_from p w [] whole = ended p w whole
grown_from p w (t ∷ ts) whole = grown_on (λ next. grown_from (p + length (token_text t)) next ts whole) (token_step p t w)

abbrev pub start : State
start = record { nodes = no_nodes; forms = [] }

-- the tree of a text or its first fault, by its tokens
unfoldable pub read_tree : Bytes → Result Nodes TemplateFault
read_tree bytes = let c = cut bytes in grown_from 0 (waits [] false start) c.0 c.1
