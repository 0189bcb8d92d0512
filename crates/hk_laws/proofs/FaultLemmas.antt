-- The first fault of a template stands where its text stops going on.
use Rattle.std.proofs.Common.{◌≡◌, ℕ, ◌+◌, Bool, true, false, ◌&&◌, inl, inr, List, [], ◌∷◌, ◌++◌, length, refl, ap, sym, subst, ◌∙◌, append_assoc, append-nil, Some, None, Result, Ok, Err}
use Rattle.hk_base.specs.Bytes.{Bytes}
use Rattle.hk_template.specs.declared.fault.TemplateFault.{TemplateFault}
use Rattle.hk_template.specs.declared.fault.TemplateFault.TheVariants.{BadForm, Unclosed, TooDeep}
use Rattle.hk_template.specs.Token.{Word, endif, endfor, Token, text, dollar, tag, token_text, is_token, is_text, begins_with_text, texts_apart}
use Rattle.hk_template.specs.Tree.{Node, Nodes, no_nodes, node, nodes_tokens, trimmed, plain_tag}
use Rattle.hk_template.specs.Cut.{Cuts, cut}
use Rattle.hk_template.specs.Stop.{IsStuck, IsCut}
use Rattle.hk_template.specs.Template.{IsTemplate}
use Rattle.hk_template.specs.Fault.{Open, in_if, in_else, in_for, in_sep, place_of_open, at_end, opened_by, fault_on, fault_from, first_fault}
use Rattle.hk_template.proofs.Bools.{first_true}
use Rattle.hk_template.proofs.Cutting.{cuts_all, spelled_cut}
use Rattle.hk_template.proofs.Grammar.{tree_or_fault}
use Rattle.hk_laws.specs.Templates.{HasTree, GoesOn, GoesOnDeeper, IsAfter, Begins, IsForm, form_if, form_for, IsFault, FindsFaults}
use Rattle.hk_laws.proofs.WalkLemmas.{Kind, step, on, walk, walk-append, walk-on, one_words, token_words, token_words-append, plain_words, trimmed_words, tree_walk, built}
use Rattle.hk_laws.proofs.HeldLemmas.{let_go, Sort, if_sort, for_sort, first_word, last_word, held_kind, walk_free, one_form, last_tag}
use Rattle.hk_laws.proofs.TokenLemmas.{text_of, text_of-append, all_proper, proper_both, proper_front, proper_back, apart_both, apart_front, apart_back, cut_on_from}
use Rattle.hk_laws.proofs.RunLemmas.{kind_of, kinds, Agrees, agrees, hold, Level, Levels, Ran, ran_none, ran_more, length_more}

-- tags that close open forms, the innermost first
abbrev last_of : Open → Word
last_of (in_if p) = endif
last_of (in_else p) = endif
last_of (in_for p) = endfor
last_of (in_sep p) = endfor

abbrev closers : List Open → List Token
closers [] = []
closers (o ∷ os) = tag false (last_of o) false ∷ closers os

closers_proper : (os : List Open) → all_proper (closers os) ≡ true
closers_proper [] = refl
closers_proper (in_if p ∷ os) = closers_proper os
closers_proper (in_else p ∷ os) = closers_proper os
closers_proper (in_for p ∷ os) = closers_proper os
closers_proper (in_sep p ∷ os) = closers_proper os

closers_apart : (os : List Open) → texts_apart (closers os) ≡ true
closers_apart [] = refl
closers_apart (o ∷ os) = closers_apart os

closers_first : (os : List Open) → begins_with_text (closers os) ≡ false
closers_first [] = refl
closers_first (o ∷ os) = refl

closers_end : (p : ℕ) (os : List Open) → fault_from p os (closers os) true ≡ None
closers_end p [] = refl
closers_end p (in_if q ∷ os) = closers_end (p + length (token_text (tag false (last_of (in_if q)) false))) os
closers_end p (in_else q ∷ os) = closers_end (p + length (token_text (tag false (last_of (in_else q)) false))) os
closers_end p (in_for q ∷ os) = closers_end (p + length (token_text (tag false (last_of (in_for q)) false))) os
closers_end p (in_sep q ∷ os) = closers_end (p + length (token_text (tag false (last_of (in_sep q)) false))) os

closers_walk : (os : List Open) → walk (token_words (closers os)) (kinds os) ≡ Some []
closers_walk [] = refl
closers_walk (in_if q ∷ os) = closers_walk os
closers_walk (in_else q ∷ os) = closers_walk os
closers_walk (in_for q ∷ os) = closers_walk os
closers_walk (in_sep q ∷ os) = closers_walk os

first_fault_is : (bytes : Bytes) (c : Cuts) → cut bytes ≡ c → first_fault bytes ≡ fault_from 0 [] c.0 c.1
unfolding first_fault
first_fault_is bytes c e = ap (λ (d : Cuts). fault_from 0 [] d.0 d.1) e

-- tokens after which forms are open go on to a tree
goes_on : (ts : List Token) (os : List Open) → Ran ts os → all_proper ts ≡ true → texts_apart ts ≡ true → GoesOn (text_of ts)
goes_on ts os ran proper apart =
    let all = ts ++ closers os in
    let whole : cut (text_of all) ≡ (all, true) = spelled_cut all (proper_both ts (closers os) proper (closers_proper os)) (apart_both ts (closers os) apart (closers_apart os) (closers_first os)) in
    let none : first_fault (text_of all) ≡ None = first_fault_is (text_of all) (all, true) whole ∙ ran.on_faults (closers os) true ∙ closers_end (length (text_of ts)) os in
    let tree = (tree_or_fault (text_of all)).0 none in
    record { more = text_of (closers os); tree = tree.0; is = subst (λ (t : Bytes). IsTemplate t tree.0) (text_of-append ts (closers os)) tree.1 }

-- tokens whose words walk to an end have a tree of some depth
has_tree : (ts : List Token) → all_proper ts ≡ true → texts_apart ts ≡ true → walk (token_words ts) [] ≡ Some [] → (tree : Nodes) × HasTree (text_of ts) tree × (trimmed false ts ≡ nodes_tokens tree)
has_tree ts proper apart ends =
    let b = built ts ends in
    (b.tree, record { tokens = ts; spelled = refl; proper = proper; apart = apart; built = b.same }, b.same)

-- the place between tokens and a rest
abbrev Place : List Token → Bytes → Type 0
Place ts rest = IsAfter (text_of ts ++ rest) (length (text_of ts)) (text_of ts) rest

place_after : (ts : List Token) (rest : Bytes) → all_proper ts ≡ true → GoesOn (text_of ts) → Place ts rest
place_after ts rest proper goes = record { tokens = ts; spelled = refl; proper = proper; joined = refl; place_is = refl; goes_on = goes }

-- where tokens stop, and why
abbrev Why : ℕ → List Open → List Token → Bool → TemplateFault → Type 0
Why p os [] whole fault = at_end p os whole ≡ Some fault
Why p os (t ∷ ts) whole fault = opened_by p t os ≡ Err fault

record Stop (ts : List Token) (whole : Bool) (fault : TemplateFault) : Type 0 where
  pub before : List Token
  pub left : List Token
  pub same : ts ≡ before ++ left
  pub opens : List Open
  pub ran : Ran before opens
  pub why : Why (length (text_of before)) opens left whole fault

some_is : (fault other : TemplateFault) → Some fault ≡ Some other → fault ≡ other
some_is fault other e = cc

stop_here : (t : Token) (ts before : List Token) (os : List Open) (whole : Bool) (fault other : TemplateFault) → Ran before os → opened_by (length (text_of before)) t os ≡ Err other → Some other ≡ Some fault → Stop (before ++ (t ∷ ts)) whole fault
stop_here t ts before os whole fault other ran e f = record { before = before; left = t ∷ ts; same = refl; opens = os; ran = ran; why = e ∙ ap (λ (g : TemplateFault). Err g) (some_is other fault f) }

stop_on : (t : Token) (ts before : List Token) (os : List Open) (whole : Bool) (fault : TemplateFault) → Ran before os → (r : Result (List Open) TemplateFault) → opened_by (length (text_of before)) t os ≡ r
    → ((next : List Open) → Ran (before ++ t ∷ []) next → fault_from (length (text_of (before ++ t ∷ []))) next ts whole ≡ Some fault → Stop ((before ++ t ∷ []) ++ ts) whole fault)
    → fault_on (λ opens. fault_from (length (text_of before) + length (token_text t)) opens ts whole) r ≡ Some fault → Stop (before ++ (t ∷ ts)) whole fault
stop_on t ts before os whole fault ran (Err other) e onward f = stop_here t ts before os whole fault other ran e f
stop_on t ts before os whole fault ran (Ok next) e onward f =
    subst (λ (all : List Token). Stop all whole fault) (append_assoc before (t ∷ []) ts)
    (onward next (ran_more before t os next ran e) (ap (λ p. fault_from p next ts whole) (length_more before t) ∙ f))

stop_from : (ts before : List Token) (os : List Open) (whole : Bool) (fault : TemplateFault) → Ran before os → fault_from (length (text_of before)) os ts whole ≡ Some fault → Stop (before ++ ts) whole fault
stop_from [] before os whole fault ran e = record { before = before; left = []; same = refl; opens = os; ran = ran; why = e }
stop_from (t ∷ ts) before os whole fault ran e =
    stop_on t ts before os whole fault ran (opened_by (length (text_of before)) t os) refl
    (λ next more f. stop_from ts (before ++ t ∷ []) next whole fault more f) e

-- a token that stops is a tag
no_text : (p : ℕ) (t : Token) (os : List Open) (fault : TemplateFault) → opened_by p t os ≡ Err fault → is_text t ≡ false
no_text p (text bytes) os fault e = let no_ : ⊥ = cc in absurd no_
no_text p dollar os fault e = refl
no_text p (tag left word right) os fault e = refl

-- what is cut of tokens, a tag and any bytes
cut_through : (before : List Token) (t : Token) (more : Bytes) → all_proper before ≡ true → texts_apart before ≡ true → is_token t ≡ true → is_text t ≡ false
    → cut ((text_of before ++ token_text t) ++ more) ≡ (before ++ (t ∷ (cut more).0), (cut more).1)
cut_through before t more proper apart is other = ap cut (append_assoc (text_of before) (token_text t) more) ∙ cut_on_from before t more proper apart is other

-- through a tag that stops there is no tree of at most 64 forms
not_through : (before : List Token) (t : Token) (os : List Open) (fault : TemplateFault) → Ran before os → all_proper before ≡ true → texts_apart before ≡ true → is_token t ≡ true
    → opened_by (length (text_of before)) t os ≡ Err fault → GoesOn (text_of before ++ token_text t) → ⊥
not_through before t os fault ran proper apart is e goes =
    let bytes = (text_of before ++ token_text t) ++ goes.more in
    let c : Cuts = (before ++ (t ∷ (cut goes.more).0), (cut goes.more).1) in
    let found : first_fault bytes ≡ Some fault =
    first_fault_is bytes c (cut_through before t goes.more proper apart is (no_text (length (text_of before)) t os fault e))
    ∙ ran.on_faults (t ∷ (cut goes.more).0) (cut goes.more).1
    ∙ ap (fault_on (λ opens. fault_from (length (text_of before) + length (token_text t)) opens (cut goes.more).0 (cut goes.more).1)) e in
    (tree_or_fault bytes).1 fault found goes.tree goes.is

-- and through one that doesn't fit there is none of any depth
not_deeper : (before : List Token) (t : Token) (os : List Open) → Ran before os → all_proper before ≡ true → texts_apart before ≡ true → is_token t ≡ true → is_text t ≡ false
    → walk (one_words t) (kinds os) ≡ None → GoesOnDeeper (text_of before ++ token_text t) → ⊥
not_deeper before t os ran proper apart is other stuck goes =
    let has = goes.has in
    let more = goes.more in
    let here : Cuts = (before ++ (t ∷ (cut more).0), (cut more).1) in
    let all : Cuts = (has.tokens, true) in
    let pair : here ≡ all = sym (cut_through before t more proper apart is other) ∙ ap cut has.spelled ∙ spelled_cut has.tokens has.proper has.apart in
    let tokens : before ++ (t ∷ (cut more).0) ≡ has.tokens = ap (λ (c : Cuts). c.0) pair in
    let goes_through : walk (token_words has.tokens) [] ≡ Some [] = ap (λ ws. walk ws []) (sym (trimmed_words false has.tokens)) ∙ ap (λ ps. walk (plain_words ps) []) has.built ∙ tree_walk goes.tree in
    let stops : walk (token_words has.tokens) [] ≡ None =
    ap (λ ts. walk (token_words ts) []) (sym tokens)
    ∙ ap (λ ws. walk ws []) (token_words-append before (t ∷ (cut more).0))
    ∙ walk-on (token_words before) (one_words t ++ token_words (cut more).0) [] (kinds os) ran.walked
    ∙ walk-append (one_words t) (token_words (cut more).0) (kinds os)
    ∙ ap (on (walk (token_words (cut more).0))) stuck in
    let no_ : ⊥ = cc in no_

joined_words : (ts : List Token) (t : Token) (cs : List Token) → token_words ((ts ++ t ∷ []) ++ cs) ≡ token_words ts ++ (one_words t ++ token_words cs)
joined_words ts t cs = ap token_words (append_assoc ts (t ∷ []) cs) ∙ token_words-append ts (t ∷ cs)

snoc_text : (ts : List Token) (t : Token) → text_of (ts ++ t ∷ []) ≡ text_of ts ++ token_text t
snoc_text ts t = text_of-append ts (t ∷ []) ∙ ap (λ (l : Bytes). text_of ts ++ l) (append-nil (token_text t))

-- through one that opens one form too many there is one
deeper : (before : List Token) (t : Token) (os : List Open) (o : Open) → Ran before os → all_proper (before ++ t ∷ []) ≡ true → texts_apart (before ++ t ∷ []) ≡ true
    → walk (one_words t) (kinds os) ≡ Some (kind_of o ∷ kinds os) → GoesOnDeeper (text_of before ++ token_text t)
deeper before t os o ran proper apart opens =
    let front = before ++ t ∷ [] in
    let end = closers (o ∷ os) in
    let ends : walk (token_words (front ++ end)) [] ≡ Some [] =
    ap (λ ws. walk ws []) (joined_words before t end)
    ∙ walk-on (token_words before) (one_words t ++ token_words end) [] (kinds os) ran.walked
    ∙ walk-on (one_words t) (token_words end) (kinds os) (kind_of o ∷ kinds os) opens
    ∙ closers_walk (o ∷ os) in
    let tree = has_tree (front ++ end) (proper_both front end proper (closers_proper (o ∷ os))) (apart_both front end apart (closers_apart (o ∷ os)) (closers_first (o ∷ os))) ends in
    record {
      more = text_of end;
      tree = tree.0;
      has = subst (λ (t : Bytes). HasTree t tree.0) (text_of-append front end ∙ ap (λ (l : Bytes). l ++ text_of end) (snoc_text before t)) tree.1;
    }

-- what stands from the first tag of an open form on, with its last tag, is one form
pub record OneForm (front behind : List Token) (t : Token) : Type 0 where
  pub end : Bytes
  pub form : IsForm t end
  pub one : Node
  pub whole : HasTree (text_of (t ∷ behind) ++ end) (node one no_nodes)

sort_form : (left : Bool) (s : Sort) (k : Bytes) (right : Bool) → IsForm (tag left (first_word s k) right) (token_text (tag false (last_word s) false))
sort_form left if_sort k right = form_if left k right
sort_form left for_sort k right = form_for left k right

last_proper : (s : Sort) → all_proper (tag false (last_word s) false ∷ []) ≡ true
last_proper if_sort = refl
last_proper for_sort = refl

let_go_held : (o : Open) → let_go (hold (kind_of o)) ≡ kind_of o
let_go_held (in_if p) = refl
let_go_held (in_else p) = refl
let_go_held (in_for p) = refl
let_go_held (in_sep p) = refl

step_first : (s : Sort) (k : Bytes) (ks : List Kind) → step (first_word s k) ks ≡ Some (let_go (held_kind s) ∷ ks)
step_first if_sort k ks = refl
step_first for_sort k ks = refl

walk_last : (w : Word) (ks next : List Kind) → step w ks ≡ Some next → walk (w ∷ []) ks ≡ Some next
walk_last w ks next e = ap (on (walk [])) e

one_form_of : (Outer : List Token → Type 0) (o : Open) (ts : List Token) → (level : Level Outer o ts) → all_proper ts ≡ true → texts_apart ts ≡ true → OneForm level.front level.behind (tag level.left (first_word level.sort level.key) level.right)
one_form_of Outer o ts level proper apart =
    let first = tag level.left (first_word level.sort level.key) level.right in
    let w = last_word level.sort in
    let last = tag false w false in
    let behind = level.behind in
    let proper_all : all_proper (first ∷ behind) ≡ true = proper_back level.front (first ∷ behind) (ap all_proper (sym level.same) ∙ proper) in
    let apart_all : texts_apart (first ∷ behind) ≡ true = apart_back level.front (first ∷ behind) (ap texts_apart (sym level.same) ∙ apart) in
    let all = (first ∷ behind) ++ last ∷ [] in
    let free : walk (token_words behind) (let_go (held_kind level.sort) ∷ []) ≡ Some (kind_of o ∷ []) =
    walk_free (token_words behind) (held_kind level.sort ∷ []) (hold (kind_of o) ∷ []) level.inside ∙ ap (λ l. Some (l ∷ [])) (let_go_held o) in
    let ends : walk (token_words all) [] ≡ Some [] =
    ap (on (walk (token_words (behind ++ last ∷ [])))) (step_first level.sort level.key [])
    ∙ ap (λ ws. walk ws (let_go (held_kind level.sort) ∷ [])) (token_words-append behind (last ∷ []))
    ∙ walk-on (token_words behind) (w ∷ []) (let_go (held_kind level.sort) ∷ []) (kind_of o ∷ []) free
    ∙ walk_last w (kind_of o ∷ []) [] level.closes in
    let tree = has_tree all (proper_both (first ∷ behind) (last ∷ []) proper_all (last_proper level.sort)) (apart_both (first ∷ behind) (last ∷ []) apart_all refl refl) ends in
    let tail = last_tag level.right behind w in
    let tokens : plain_tag (first_word level.sort level.key) ∷ (tail.before ++ (plain_tag w ∷ [])) ≡ nodes_tokens tree.0 = ap (λ ps. plain_tag (first_word level.sort level.key) ∷ ps) (sym tail.same) ∙ tree.2 in
    let inside : walk (plain_words tail.before) (held_kind level.sort ∷ []) ≡ Some (hold (kind_of o) ∷ []) = ap (λ ws. walk ws (held_kind level.sort ∷ [])) tail.words ∙ level.inside in
    let one = one_form tree.0 level.sort level.key tail.before (plain_tag w) (hold (kind_of o) ∷ []) tokens inside in
    record {
      end = token_text last;
      form = sort_form level.left level.sort level.key level.right;
      one = one.0;
      whole = subst (λ (t : Nodes). HasTree (text_of (first ∷ behind) ++ token_text last) t) one.1
          (subst (λ (t : Bytes). HasTree t tree.0) (snoc_text (first ∷ behind) last) tree.1);
    }

-- the first fault at the end of the tokens
end_fault : (bytes : Bytes) (fault : TemplateFault) (ts : List Token) (os : List Open) (whole : Bool) (rest : Bytes) → bytes ≡ text_of ts ++ rest → (whole ≡ true → rest ≡ []) → (whole ≡ false → IsStuck rest)
    → ((tree : Nodes) → IsTemplate bytes tree → ⊥) → Ran ts os → all_proper ts ≡ true → texts_apart ts ≡ true → at_end (length (text_of ts)) os whole ≡ Some fault → IsFault bytes fault
end_fault bytes fault ts os false rest same finished stuck no_tree ran proper apart e =
    let is : BadForm (length (text_of ts)) ≡ fault = some_is _ _ e in
    let at = place_after ts rest proper (goes_on ts os ran proper apart) in
    subst (λ (f : TemplateFault). IsFault bytes f) is
    (record { front = text_of ts; rest = rest; after = subst (λ (t : Bytes). IsAfter t (length (text_of ts)) (text_of ts) rest) (sym same) at; why = inl (stuck refl) })
end_fault bytes fault ts [] true rest same finished stuck no_tree ran proper apart e = let no_ : ⊥ = cc in absurd no_
end_fault bytes fault ts (o ∷ os) true rest same finished stuck no_tree ran proper apart e =
    let is : Unclosed (place_of_open o) ≡ fault = some_is _ _ e in
    let level = ran.levels in
    let first = tag level.left (first_word level.sort level.key) level.right in
    let behind = level.behind in
    let whole : bytes ≡ text_of ts = same ∙ ap (λ (t : Bytes). text_of ts ++ t) (finished refl) ∙ append-nil (text_of ts) in
    let cut_there : bytes ≡ text_of level.front ++ text_of (first ∷ behind) = whole ∙ ap text_of level.same ∙ text_of-append level.front (first ∷ behind) in
    let goes : GoesOn bytes = subst GoesOn (sym whole) (goes_on ts (o ∷ os) ran proper apart) in
    let goes_front : GoesOn (text_of level.front) = record {
      more = text_of (first ∷ behind) ++ goes.more;
      tree = goes.tree;
      is = subst (λ (t : Bytes). IsTemplate t goes.tree) (ap (λ (t : Bytes). t ++ goes.more) cut_there ∙ append_assoc (text_of level.front) (text_of (first ∷ behind)) goes.more) goes.is;
    } in
    let proper_front' : all_proper level.front ≡ true = proper_front level.front (first ∷ behind) (ap all_proper (sym level.same) ∙ proper) in
    let at = place_after level.front (text_of (first ∷ behind)) proper_front' goes_front in
    let form = one_form_of (Levels os) o ts level proper apart in
    subst (λ (f : TemplateFault). IsFault bytes f) is
    (record {
      goes_on = goes;
      no_tree = no_tree;
      front = text_of level.front;
      rest = text_of (first ∷ behind);
      after = subst (λ (t : Bytes). IsAfter t (place_of_open o) (text_of level.front) (text_of (first ∷ behind))) (sym cut_there)
          (subst (λ (p : ℕ). IsAfter (text_of level.front ++ text_of (first ∷ behind)) p (text_of level.front) (text_of (first ∷ behind))) (sym level.at) at);
      token = first;
      there = record { more = text_of behind; proper = proper_first level.sort level.left level.key level.right behind (proper_back level.front (first ∷ behind) (ap all_proper (sym level.same) ∙ proper)); spelled = refl };
      end = form.end;
      form = form.form;
      one = form.one;
      whole = form.whole;
    })
  where
    proper_first : (s : Sort) (left : Bool) (k : Bytes) (right : Bool) (behind : List Token) → all_proper (tag left (first_word s k) right ∷ behind) ≡ true → is_token (tag left (first_word s k) right) ≡ true
    proper_first s left k right behind h = first_true (is_token (tag left (first_word s k) right)) true (proper_front (tag left (first_word s k) right ∷ []) behind h)

-- the first fault at a tag
tag_fault : (bytes : Bytes) (fault : TemplateFault) (ts : List Token) (t : Token) (os : List Open) (rest more : Bytes) → bytes ≡ text_of ts ++ rest → rest ≡ token_text t ++ more
    → Ran ts os → all_proper (ts ++ t ∷ []) ≡ true → texts_apart (ts ++ t ∷ []) ≡ true → is_token t ≡ true → opened_by (length (text_of ts)) t os ≡ Err fault → IsFault bytes fault
tag_fault bytes fault ts t os rest more same begins ran proper apart is e = go fault e (subst (λ (r : Result (List Open) TemplateFault). Agrees (length (text_of ts)) os (walk (one_words t) (kinds os)) r) e (agrees (length (text_of ts)) t os))
  where
    proper_ts : all_proper ts ≡ true
    proper_ts = proper_front ts (t ∷ []) proper

    apart_ts : texts_apart ts ≡ true
    apart_ts = apart_front ts (t ∷ []) apart

    at : IsAfter bytes (length (text_of ts)) (text_of ts) rest
    at = subst (λ (b : Bytes). IsAfter b (length (text_of ts)) (text_of ts) rest) (sym same) (place_after ts rest proper_ts (goes_on ts os ran proper_ts apart_ts))

    there : Begins rest t
    there = record { more = more; proper = is; spelled = begins }

    go : (fault : TemplateFault) → opened_by (length (text_of ts)) t os ≡ Err fault → Agrees (length (text_of ts)) os (walk (one_words t) (kinds os)) (Err fault) → IsFault bytes fault
    go (BadForm q) e tells = record {
      front = text_of ts;
      rest = rest;
      after = subst (λ (p : ℕ). IsAfter bytes p (text_of ts) rest) (sym tells.0) at;
      why = inr (record { token = t; there = there; ends = not_deeper ts t os ran proper_ts apart_ts is (no_text (length (text_of ts)) t os (BadForm q) e) tells.1 });
    }
    go (TooDeep q) e tells = record {
      front = text_of ts;
      rest = rest;
      after = subst (λ (p : ℕ). IsAfter bytes p (text_of ts) rest) (sym tells.0) at;
      token = t;
      there = there;
      deep = not_through ts t os (TooDeep q) ran proper_ts apart_ts is e;
      deeper = deeper ts t os tells.1 ran proper apart tells.2;
    }
    go (Unclosed q) e tells = absurd tells

left_fault : (bytes : Bytes) (fault : TemplateFault) (c : Cuts) → IsCut bytes c.0 c.1 → ((tree : Nodes) → IsTemplate bytes tree → ⊥) → (before left : List Token) → c.0 ≡ before ++ left → (os : List Open) → Ran before os → Why (length (text_of before)) os left c.1 fault → IsFault bytes fault
left_fault bytes fault c is no_tree before [] same os ran why =
    let tokens : c.0 ≡ before = same ∙ append-nil before in
    end_fault bytes fault before os c.1 is.rest (is.spelled ∙ ap (λ ts. text_of ts ++ is.rest) tokens) is.finished is.stuck no_tree ran (ap all_proper (sym tokens) ∙ is.proper) (ap texts_apart (sym tokens) ∙ is.apart) why
left_fault bytes fault c is no_tree before (t ∷ left) same os ran why =
    let rest = text_of (t ∷ left) ++ is.rest in
    let tokens : c.0 ≡ (before ++ t ∷ []) ++ left = same ∙ sym (append_assoc before (t ∷ []) left) in
    let whole : bytes ≡ text_of before ++ rest = is.spelled ∙ ap (λ ts. text_of ts ++ is.rest) same ∙ ap (λ (b : Bytes). b ++ is.rest) (text_of-append before (t ∷ left)) ∙ append_assoc (text_of before) (text_of (t ∷ left)) is.rest in
    let proper : all_proper (before ++ t ∷ []) ≡ true = proper_front (before ++ t ∷ []) left (ap all_proper (sym tokens) ∙ is.proper) in
    let apart : texts_apart (before ++ t ∷ []) ≡ true = apart_front (before ++ t ∷ []) left (ap texts_apart (sym tokens) ∙ is.apart) in
    let proper_t : all_proper (t ∷ []) ≡ true = proper_back before (t ∷ []) proper in
    tag_fault bytes fault before t os rest (text_of left ++ is.rest) whole (append_assoc (token_text t) (text_of left) is.rest) ran proper apart (one_proper t proper_t) why
  where
    one_proper : (t : Token) → all_proper (t ∷ []) ≡ true → is_token t ≡ true
    one_proper t h = go (is_token t) h
      where
        go : (b : Bool) → (b && true) ≡ true → b ≡ true
        go true h = refl
        go false h = h

pub finds : FindsFaults first_fault
finds bytes fault e =
    let c = cut bytes in
    let stop = stop_from c.0 [] [] c.1 fault ran_none (sym (first_fault_is bytes c refl) ∙ e) in
    left_fault bytes fault c (cuts_all bytes) ((tree_or_fault bytes).1 fault e) stop.before stop.left stop.same stop.opens stop.ran stop.why
