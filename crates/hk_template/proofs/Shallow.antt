-- A tree that grows is at most 64 forms deep.
use Rattle.std.proofs.Common.{◌≡◌, ℕ, suc, ◌+◌, ◌<◌, ◌≤◌, max, Bool, true, false, nat_lt, if◌then◌else◌, List, [], ◌∷◌, length, refl, ap, arith, Result, Ok, Err, IfOk, ltb-true}
use Rattle.hk_base.specs.Bytes.{Bytes}
use Rattle.hk_template.specs.declared.fault.TemplateFault.{TemplateFault}
use Rattle.hk_template.specs.declared.fault.TemplateFault.TheVariants.{TooDeep}
use Rattle.hk_template.specs.Token.{Word, key, if_, else_, endif, for_, sep, endfor, partial}
use Rattle.hk_template.specs.Tree.{Node, Nodes, no_nodes, node, joined_nodes, text_node, dollar_node, key_node, if_node, if_else_node, for_node, for_sep_node, partial_node, depth, nodes_depth, Plain, plain_text, plain_dollar, plain_tag}
use Rattle.hk_template.specs.Growing.{Head, Frame, if_frame, else_frame, for_frame, sep_frame, State, with_node, opening, word_step, finished, head_of, start}
use Rattle.hk_template.proofs.Nodes.{depth-joined}
use Rattle.hk_template.proofs.Growth.{grow, on_state}

abbrev frame_depth : Frame → ℕ
frame_depth (if_frame head) = 0
frame_depth (else_frame head yes_) = nodes_depth yes_
frame_depth (for_frame head) = 0
frame_depth (sep_frame head each) = nodes_depth each

abbrev around_depth : List Frame → ℕ
around_depth [] = 0
around_depth (f ∷ fs) = max (around_depth fs) (max (length fs + nodes_depth (head_of f).outer) (suc (length fs) + frame_depth f))

-- how many forms are open at once in what led to a state
abbrev state_depth : State → ℕ
state_depth st = max (around_depth st.forms) (length st.forms + nodes_depth st.nodes)

abbrev Stays : State → Result State TemplateFault → Type 0
Stays st r = state_depth st ≤ 64 → IfOk r (λ next. state_depth next ≤ 64)

leaf_stays : (n : Node) (ns : Nodes) (fs : List Frame) → depth n ≡ 0 → max (around_depth fs) (length fs + nodes_depth ns) ≤ 64 → max (around_depth fs) (length fs + nodes_depth (joined_nodes ns (node n no_nodes))) ≤ 64
leaf_stays n ns fs e h = let d : nodes_depth (joined_nodes ns (node n no_nodes)) ≡ max (nodes_depth ns) (max (depth n) 0) = depth-joined ns (node n no_nodes) in omega arith

abbrev one_more_open : ℕ → (Head → Frame) → Bytes → State → State
one_more_open p make k st = record { nodes = no_nodes; forms = make (record { place = p; key = k; outer = st.nodes }) ∷ st.forms }

open_stays_by : (p : ℕ) (make : Head → Frame) (k : Bytes) (st : State) → ((head : Head) → frame_depth (make head) ≡ 0) → ((head : Head) → (head_of (make head)).outer ≡ head.outer) → state_depth st ≤ 64 → (b : Bool) → nat_lt (length st.forms) 64 ≡ b → IfOk (if b then Ok (one_more_open p make k st) else Err (TooDeep p)) (λ next. state_depth next ≤ 64)
open_stays_by p make k st e f h true t =
    let head : Head = record { place = p; key = k; outer = st.nodes } in
    let lt : length st.forms < 64 = ltb-true _ _ t in
    let d : frame_depth (make head) ≡ 0 = e head in
    let o : nodes_depth (head_of (make head)).outer ≡ nodes_depth st.nodes = ap nodes_depth (f head) in
    omega arith
open_stays_by p make k st e f h false t = tt

open_stays : (p : ℕ) (make : Head → Frame) (k : Bytes) (st : State) → ((head : Head) → frame_depth (make head) ≡ 0) → ((head : Head) → (head_of (make head)).outer ≡ head.outer) → Stays st (opening p make k st)
open_stays p make k st e f h = open_stays_by p make k st e f h (nat_lt (length st.forms) 64) refl

close_stays : (n : Node) (outer : Nodes) (fs : List Frame) (d : ℕ) → depth n ≤ suc d → max (around_depth fs) (max (length fs + nodes_depth outer) (suc (length fs) + d)) ≤ 64 → max (around_depth fs) (length fs + nodes_depth (joined_nodes outer (node n no_nodes))) ≤ 64
close_stays n outer fs d e h = let g : nodes_depth (joined_nodes outer (node n no_nodes)) ≡ max (nodes_depth outer) (max (depth n) 0) = depth-joined outer (node n no_nodes) in omega arith

word_stays : (p : ℕ) (word : Word) (ns : Nodes) (fs : List Frame) → Stays (record { nodes = ns; forms = fs }) (word_step p word (record { nodes = ns; forms = fs }))
word_stays p (key k) ns fs h = leaf_stays (key_node k) ns fs refl h
word_stays p (partial path) ns fs h = leaf_stays (partial_node path) ns fs refl h
word_stays p (if_ k) ns fs h = open_stays p if_frame k (record { nodes = ns; forms = fs }) (λ _. refl) (λ _. refl) h
word_stays p (for_ k) ns fs h = open_stays p for_frame k (record { nodes = ns; forms = fs }) (λ _. refl) (λ _. refl) h
word_stays p else_ ns [] h = tt
word_stays p else_ ns (if_frame head ∷ fs) h = omega arith
word_stays p else_ ns (else_frame head yes_ ∷ fs) h = tt
word_stays p else_ ns (for_frame head ∷ fs) h = tt
word_stays p else_ ns (sep_frame head each ∷ fs) h = tt
word_stays p sep ns [] h = tt
word_stays p sep ns (if_frame head ∷ fs) h = tt
word_stays p sep ns (else_frame head yes_ ∷ fs) h = tt
word_stays p sep ns (for_frame head ∷ fs) h = omega arith
word_stays p sep ns (sep_frame head each ∷ fs) h = tt
word_stays p endif ns [] h = tt
word_stays p endif ns (if_frame head ∷ fs) h = close_stays (if_node head.key ns) head.outer fs (nodes_depth ns) (omega arith) (omega arith)
word_stays p endif ns (else_frame head yes_ ∷ fs) h = close_stays (if_else_node head.key yes_ ns) head.outer fs (max (nodes_depth yes_) (nodes_depth ns)) (omega arith) (omega arith)
word_stays p endif ns (for_frame head ∷ fs) h = tt
word_stays p endif ns (sep_frame head each ∷ fs) h = tt
word_stays p endfor ns [] h = tt
word_stays p endfor ns (if_frame head ∷ fs) h = tt
word_stays p endfor ns (else_frame head yes_ ∷ fs) h = tt
word_stays p endfor ns (for_frame head ∷ fs) h = close_stays (for_node head.key ns) head.outer fs (nodes_depth ns) (omega arith) (omega arith)
word_stays p endfor ns (sep_frame head each ∷ fs) h = close_stays (for_sep_node head.key each ns) head.outer fs (max (nodes_depth each) (nodes_depth ns)) (omega arith) (omega arith)

abbrev Shallow : Result Nodes TemplateFault → Type 0
Shallow r = IfOk r (λ tree. nodes_depth tree ≤ 64)

on_shallow : (r : Result State TemplateFault) (onward : State → Result Nodes TemplateFault) → IfOk r (λ next. state_depth next ≤ 64) → ((next : State) → state_depth next ≤ 64 → Shallow (onward next)) → Shallow (on_state onward r)
on_shallow (Ok next) onward h after = after next h
on_shallow (Err fault) onward h after = tt

finished_shallow : (ns : Nodes) (fs : List Frame) → max (around_depth fs) (length fs + nodes_depth ns) ≤ 64 → Shallow (finished (record { nodes = ns; forms = fs }))
finished_shallow ns [] h = omega arith
finished_shallow ns (f ∷ fs) h = tt

grow_stays : (st : State) (ps : List Plain) → state_depth st ≤ 64 → Shallow (grow st ps)
grow_stays st [] h = finished_shallow st.nodes st.forms h
grow_stays st (plain_text bytes ∷ ps) h = grow_stays (with_node (text_node bytes) st) ps (leaf_stays (text_node bytes) st.nodes st.forms refl h)
grow_stays st (plain_dollar ∷ ps) h = grow_stays (with_node dollar_node st) ps (leaf_stays dollar_node st.nodes st.forms refl h)
grow_stays st (plain_tag word ∷ ps) h = on_shallow (word_step 0 word st) _ (word_stays 0 word st.nodes st.forms h) (λ next g. grow_stays next ps g)

pub grow_shallow : (ps : List Plain) → Shallow (grow start ps)
grow_shallow ps = grow_stays start ps (omega arith)
