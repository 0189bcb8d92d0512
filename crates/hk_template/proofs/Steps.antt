-- The growth of a tree over the tokens of a text: its tree is that of the trimmed tokens, its fault the first one.
use Rattle.std.proofs.Common.{◌≡◌, ℕ, ◌+◌, Bool, true, false, nat_lt, if◌then◌else◌, List, [], ◌∷◌, map, length, refl, ap, sym, ◌∙◌, Option, Some, Result, Ok, Err, option_map}
use Rattle.std.proofs.lemmas.List.{length-map}
use Rattle.std.specs.Result.{result_ok, result_err}
use Rattle.hk_base.specs.Bytes.{Bytes}
use Rattle.hk_template.specs.declared.fault.TemplateFault.{TemplateFault}
use Rattle.hk_template.specs.declared.fault.TemplateFault.TheVariants.{TooDeep}
use Rattle.hk_template.specs.Token.{Word, key, if_, else_, endif, for_, sep, endfor, partial, Token, text, dollar, tag, token_text}
use Rattle.hk_template.specs.Tree.{Nodes, no_nodes, dollar_node, Plain, plain_dollar, plain_tag, text_if_any, trimmed, dashed, trim_start_if, trim_end_if}
use Rattle.hk_template.specs.Growing.{Head, Frame, if_frame, else_frame, for_frame, sep_frame, State, with_node, with_text, opening, word_step, finished, Waiting, waits, waits_if, flushed, grown_from, grown_on, ended}
use Rattle.hk_template.specs.Fault.{Open, in_if, in_else, in_for, in_sep, one_more, opened, unclosed, at_end, fault_on, fault_from}
use Rattle.hk_template.proofs.Growth.{grow, on_state}

-- a state whose places are all 0
abbrev still_head : Head → Head
still_head h = record h { place = 0 }

abbrev still_frame : Frame → Frame
still_frame (if_frame head) = if_frame (still_head head)
still_frame (else_frame head yes_) = else_frame (still_head head) yes_
still_frame (for_frame head) = for_frame (still_head head)
still_frame (sep_frame head each) = sep_frame (still_head head) each

abbrev still : State → State
still st = record { nodes = st.nodes; forms = map still_frame st.forms }

abbrev SameState : Result State TemplateFault → Result State TemplateFault → Type 0
SameState a b = result_ok b ≡ option_map still (result_ok a)

still_open : (p : ℕ) (make : Head → Frame) (k : Bytes) (st : State) → ((head : Head) → make (still_head head) ≡ still_frame (make head)) → SameState (opening p make k st) (opening 0 make k (still st))
still_open p make k st e = rw (length-map st.forms still_frame) (by_test (nat_lt (length st.forms) 64))
  where
    by_test : (b : Bool) → SameState (if b then Ok (record { nodes = no_nodes; forms = make (record { place = p; key = k; outer = st.nodes }) ∷ st.forms }) else Err (TooDeep p)) (if b then Ok (record { nodes = no_nodes; forms = make (record { place = 0; key = k; outer = st.nodes }) ∷ map still_frame st.forms }) else Err (TooDeep 0))
    by_test true = ap (λ f. Some (record { nodes = no_nodes; forms = f ∷ map still_frame st.forms })) (e (record { place = p; key = k; outer = st.nodes }))
    by_test false = refl

still_word : (p : ℕ) (word : Word) (ns : Nodes) (fs : List Frame) → let st : State = record { nodes = ns; forms = fs } in SameState (word_step p word st) (word_step 0 word (still st))
still_word p (key k) ns fs = refl
still_word p (partial path) ns fs = refl
still_word p (if_ k) ns fs = still_open p if_frame k (record { nodes = ns; forms = fs }) (λ _. refl)
still_word p (for_ k) ns fs = still_open p for_frame k (record { nodes = ns; forms = fs }) (λ _. refl)
still_word p else_ ns [] = refl
still_word p else_ ns (if_frame head ∷ fs) = refl
still_word p else_ ns (else_frame head yes_ ∷ fs) = refl
still_word p else_ ns (for_frame head ∷ fs) = refl
still_word p else_ ns (sep_frame head each ∷ fs) = refl
still_word p sep ns [] = refl
still_word p sep ns (if_frame head ∷ fs) = refl
still_word p sep ns (else_frame head yes_ ∷ fs) = refl
still_word p sep ns (for_frame head ∷ fs) = refl
still_word p sep ns (sep_frame head each ∷ fs) = refl
still_word p endif ns [] = refl
still_word p endif ns (if_frame head ∷ fs) = refl
still_word p endif ns (else_frame head yes_ ∷ fs) = refl
still_word p endif ns (for_frame head ∷ fs) = refl
still_word p endif ns (sep_frame head each ∷ fs) = refl
still_word p endfor ns [] = refl
still_word p endfor ns (if_frame head ∷ fs) = refl
still_word p endfor ns (else_frame head yes_ ∷ fs) = refl
still_word p endfor ns (for_frame head ∷ fs) = refl
still_word p endfor ns (sep_frame head each ∷ fs) = refl

still_text : (bytes : Bytes) (st : State) → still (with_text bytes st) ≡ with_text bytes (still st)
still_text [] st = refl
still_text (c ∷ cs) st = refl

grow_text : (bytes : Bytes) (st : State) (ps : List Plain) → grow st (text_if_any bytes ps) ≡ grow (with_text bytes st) ps
grow_text [] st ps = refl
grow_text (c ∷ cs) st ps = refl

-- a text that waits, where a left dash may follow
waiting_text : (left : Bool) (w : Waiting) (ps : List Plain) → grow (still w.state) (text_if_any (trim_end_if left w.run) ps) ≡ grow (still (flushed left w)) ps
waiting_text left w ps = grow_text (trim_end_if left w.run) (still w.state) ps ∙ ap (λ st. grow st ps) (sym (still_text (trim_end_if left w.run) w.state))

pub no_run : (left : Bool) → trim_end_if left [] ≡ []
no_run true = refl
no_run false = refl

abbrev SameTree : Result Nodes TemplateFault → Result Nodes TemplateFault → Type 0
SameTree a b = result_ok a ≡ result_ok b

on_same : (right : Bool) (a b : Result State TemplateFault) → SameState a b → (f : Waiting → Result Nodes TemplateFault) (g : State → Result Nodes TemplateFault) → ((st : State) → SameTree (f (waits [] right st)) (g (still st))) → SameTree (grown_on f (waits_if right a)) (on_state g b)
on_same right (Ok x) (Ok y) e f g h = let same : y ≡ still x = cc in h x ∙ ap (λ st. result_ok (g st)) (sym same)
on_same right (Ok x) (Err d) e f g h = let no : ⊥ = cc in absurd no
on_same right (Err d) (Ok y) e f g h = let no : ⊥ = cc in absurd no
on_same right (Err d) (Err c) e f g h = refl

finished_still : (ns : Nodes) (fs : List Frame) → SameTree (finished (record { nodes = ns; forms = fs })) (finished (record { nodes = ns; forms = map still_frame fs }))
finished_still ns [] = refl
finished_still ns (f ∷ fs) = refl

-- the tree of tokens is that of their trimmed form
pub grown_trimmed : (p : ℕ) (w : Waiting) (ts : List Token) → SameTree (grown_from p w ts true) (grow (still w.state) (text_if_any (trim_end_if (dashed ts) w.run) (trimmed w.after ts)))
grown_trimmed p w [] = finished_still (flushed false w).nodes (flushed false w).forms ∙ ap result_ok (sym (waiting_text false w []))
grown_trimmed p w (text bytes ∷ ts) =
    grown_trimmed (p + length (token_text (text bytes))) (waits (trim_start_if w.after bytes) false (flushed false w)) ts
    ∙ ap result_ok (sym (waiting_text false w (text_if_any (trim_end_if (dashed ts) (trim_start_if w.after bytes)) (trimmed false ts))))
grown_trimmed p w (dollar ∷ ts) =
    grown_trimmed (p + length (token_text dollar)) (waits [] false (with_node dollar_node (flushed false w))) ts
    ∙ ap (λ b. result_ok (grow (still (with_node dollar_node (flushed false w))) (text_if_any b (trimmed false ts)))) (no_run (dashed ts))
    ∙ ap result_ok (sym (waiting_text false w (plain_dollar ∷ trimmed false ts)))
grown_trimmed p w (tag left word right ∷ ts) =
    on_same right (word_step p word (flushed left w)) (word_step 0 word (still (flushed left w))) (still_word p word (flushed left w).nodes (flushed left w).forms) _ (λ next. grow next (trimmed right ts))
    (λ st. grown_trimmed (p + length (token_text (tag left word right))) (waits [] right st) ts ∙ ap (λ b. result_ok (grow (still st) (text_if_any b (trimmed right ts)))) (no_run (dashed ts)))
    ∙ ap result_ok (sym (waiting_text left w (plain_tag word ∷ trimmed right ts)))

-- the open forms of a state
abbrev open_of : Frame → Open
open_of (if_frame head) = in_if head.place
open_of (else_frame head yes_) = in_else head.place
open_of (for_frame head) = in_for head.place
open_of (sep_frame head each) = in_sep head.place

abbrev opens : State → List Open
opens st = map open_of st.forms

abbrev opens_result : Result State TemplateFault → Result (List Open) TemplateFault
opens_result (Ok st) = Ok (opens st)
opens_result (Err fault) = Err fault

opens_open : (p : ℕ) (make : Head → Frame) (o : Open) (k : Bytes) (st : State) → open_of (make (record { place = p; key = k; outer = st.nodes })) ≡ o → opens_result (opening p make k st) ≡ one_more p o (opens st)
opens_open p make o k st e = rw (length-map st.forms open_of) (by_test (nat_lt (length st.forms) 64))
  where
    by_test : (b : Bool) → opens_result (if b then Ok (record { nodes = no_nodes; forms = make (record { place = p; key = k; outer = st.nodes }) ∷ st.forms }) else Err (TooDeep p)) ≡ (if b then Ok (o ∷ opens st) else Err (TooDeep p))
    by_test true = ap (λ x. Ok (x ∷ opens st)) e
    by_test false = refl

opens_word : (p : ℕ) (word : Word) (ns : Nodes) (fs : List Frame) → opens_result (word_step p word (record { nodes = ns; forms = fs })) ≡ opened p word (map open_of fs)
opens_word p (key k) ns fs = refl
opens_word p (partial path) ns fs = refl
opens_word p (if_ k) ns fs = opens_open p if_frame (in_if p) k (record { nodes = ns; forms = fs }) refl
opens_word p (for_ k) ns fs = opens_open p for_frame (in_for p) k (record { nodes = ns; forms = fs }) refl
opens_word p else_ ns [] = refl
opens_word p else_ ns (if_frame head ∷ fs) = refl
opens_word p else_ ns (else_frame head yes_ ∷ fs) = refl
opens_word p else_ ns (for_frame head ∷ fs) = refl
opens_word p else_ ns (sep_frame head each ∷ fs) = refl
opens_word p sep ns [] = refl
opens_word p sep ns (if_frame head ∷ fs) = refl
opens_word p sep ns (else_frame head yes_ ∷ fs) = refl
opens_word p sep ns (for_frame head ∷ fs) = refl
opens_word p sep ns (sep_frame head each ∷ fs) = refl
opens_word p endif ns [] = refl
opens_word p endif ns (if_frame head ∷ fs) = refl
opens_word p endif ns (else_frame head yes_ ∷ fs) = refl
opens_word p endif ns (for_frame head ∷ fs) = refl
opens_word p endif ns (sep_frame head each ∷ fs) = refl
opens_word p endfor ns [] = refl
opens_word p endfor ns (if_frame head ∷ fs) = refl
opens_word p endfor ns (else_frame head yes_ ∷ fs) = refl
opens_word p endfor ns (for_frame head ∷ fs) = refl
opens_word p endfor ns (sep_frame head each ∷ fs) = refl

opens_text : (bytes : Bytes) (st : State) → opens (with_text bytes st) ≡ opens st
opens_text [] st = refl
opens_text (c ∷ cs) st = refl

finished_fault : (ns : Nodes) (fs : List Frame) → result_err (finished (record { nodes = ns; forms = fs })) ≡ unclosed (map open_of fs)
finished_fault ns [] = refl
finished_fault ns (if_frame head ∷ fs) = refl
finished_fault ns (else_frame head yes_ ∷ fs) = refl
finished_fault ns (for_frame head ∷ fs) = refl
finished_fault ns (sep_frame head each ∷ fs) = refl

ended_fault : (p : ℕ) (w : Waiting) (whole : Bool) → result_err (ended p w whole) ≡ at_end p (opens w.state) whole
ended_fault p w true = finished_fault (flushed false w).nodes (flushed false w).forms ∙ ap unclosed (opens_text w.run w.state)
ended_fault p w false = refl

on_fault : (right : Bool) (r : Result State TemplateFault) (f : Waiting → Result Nodes TemplateFault) (g : List Open → Option TemplateFault) → ((st : State) → result_err (f (waits [] right st)) ≡ g (opens st)) → result_err (grown_on f (waits_if right r)) ≡ fault_on g (opens_result r)
on_fault right (Ok st) f g h = h st
on_fault right (Err fault) f g h = refl

-- the fault of tokens is the first one
pub grown_fault : (p : ℕ) (w : Waiting) (ts : List Token) (whole : Bool) → result_err (grown_from p w ts whole) ≡ fault_from p (opens w.state) ts whole
grown_fault p w [] whole = ended_fault p w whole
grown_fault p w (text bytes ∷ ts) whole =
    let next : ℕ = p + length (token_text (text bytes)) in
    grown_fault next (waits (trim_start_if w.after bytes) false (flushed false w)) ts whole ∙ ap (λ os. fault_from next os ts whole) (opens_text w.run w.state)
grown_fault p w (dollar ∷ ts) whole =
    let next : ℕ = p + length (token_text dollar) in
    grown_fault next (waits [] false (with_node dollar_node (flushed false w))) ts whole ∙ ap (λ os. fault_from next os ts whole) (opens_text w.run w.state)
grown_fault p w (tag left word right ∷ ts) whole =
    let next : ℕ = p + length (token_text (tag left word right)) in
    on_fault right (word_step p word (flushed left w)) _ (λ os. fault_from next os ts whole) (λ st. grown_fault next (waits [] right st) ts whole)
    ∙ ap (fault_on (λ os. fault_from next os ts whole)) (opens_word p word (flushed left w).nodes (flushed left w).forms ∙ ap (opened p word) (opens_text (trim_end_if left w.run) w.state))
