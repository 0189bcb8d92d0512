-- A text is cut into the tokens that spell it, and those alone.
use Rattle.std.proofs.Common.{◌≡◌, ℕ, zero, suc, ◌+◌, ◌<◌, ◌≤◌, Bool, true, false, if◌then◌else◌, not, ◌==◌, nat_lt, ◌⊎◌, inl, inr, List, [], ◌∷◌, ◌++◌, length, take, drop, refl, ap, sym, subst, ◌∙◌, arith, codes, Option, Some, None, IfSome, option_map, append-nil, append_assoc, eqb-true, eq-eqb, lt-ltb, le-ltb, length-append, one-add, add-one, flat_map}
use Rattle.std.specs.List.{list_all}
use Rattle.hk_base.specs.Bytes.{Bytes}
use Rattle.hk_template.specs.Token.{Word, Token, text, dollar, tag, tag_text, is_proper, is_run, is_text, is_token, token_text, begins_with_text, texts_apart}
use Rattle.hk_template.specs.Cut.{run_length, tag_of, word_of, tag_before, after_dollar, text_before, token_at, Cuts, cut_on, cut_by, cut}
use Rattle.hk_template.specs.Stop.{NoToken, IsCut, CutsAll}
use Rattle.hk_template.proofs.Bools.{first_true, second_true, both_true, not_true, no_false, when_false}
use Rattle.hk_template.proofs.Fronts.{take_front, drop_front}
use Rattle.hk_template.proofs.Tags.{SpellsTag, tag_sound, tag_found, no_dollar, tag_no_dollar}

run_whole : (xs : Bytes) → list_all no_dollar xs ≡ true → run_length xs ≡ length xs
run_whole [] h = refl
run_whole (x ∷ xs) h = rw (first_true (no_dollar x) _ h) (one-add (run_length xs) ∙ ap suc (run_whole xs (second_true (no_dollar x) _ h)))

run_front : (xs ys : Bytes) → list_all no_dollar xs ≡ true → run_length (xs ++ 36 ∷ ys) ≡ length xs
run_front [] ys h = refl
run_front (x ∷ xs) ys h = rw (first_true (no_dollar x) _ h) (one-add (run_length (xs ++ 36 ∷ ys)) ∙ ap suc (run_front xs ys (second_true (no_dollar x) _ h)))

-- a text with a dollar sign, by its first
pub record AtDollar (bytes : Bytes) : Type 0 where
  pub front : Bytes
  pub rest : Bytes
  pub parts : bytes ≡ front ++ 36 ∷ rest
  pub run : list_all no_dollar front ≡ true

one_more : (c : ℕ) (cs : Bytes) → no_dollar c ≡ true → (list_all no_dollar cs ≡ true) ⊎ AtDollar cs → (list_all no_dollar (c ∷ cs) ≡ true) ⊎ AtDollar (c ∷ cs)
one_more c cs h (inl all) = inl (both_true (no_dollar c) _ h all)
one_more c cs h (inr at) = inr (record { front = c ∷ at.front; rest = at.rest; parts = ap (λ t. c ∷ t) at.parts; run = both_true (no_dollar c) _ h at.run })

at_test : (c : ℕ) (cs : Bytes) → (list_all no_dollar cs ≡ true) ⊎ AtDollar cs → (b : Bool) → c == 36 ≡ b → (list_all no_dollar (c ∷ cs) ≡ true) ⊎ AtDollar (c ∷ cs)
at_test c cs later true e = inr (record { front = []; rest = cs; parts = ap (λ x. x ∷ cs) (eqb-true c 36 e); run = refl })
at_test c cs later false e = one_more c cs (ap not e) later

pub split_run : (bytes : Bytes) → (list_all no_dollar bytes ≡ true) ⊎ AtDollar bytes
split_run [] = inl refl
split_run (c ∷ cs) = at_test c cs (split_run cs) (c == 36) refl

-- nothing follows, or a dollar sign
abbrev pub ends_run : Bytes → Bool
ends_run [] = true
ends_run (c ∷ cs) = c == 36

-- this token stands at the front of the text
pub record Stands (bytes : Bytes) (t : Token) (rest : Bytes) : Type 0 where
  pub spelled : bytes ≡ token_text t ++ rest
  pub proper : is_token t ≡ true
  pub edge : is_text t ≡ true → ends_run rest ≡ true

abbrev pub StandsIf : Bytes → Option (Token × Bytes) → Type 0
StandsIf bytes r = IfSome r (λ found. Stands bytes found.0 found.1)

drop_past : (front rest : Bytes) → drop (length front + 1) (front ++ 36 ∷ rest) ≡ rest
drop_past [] rest = refl
drop_past (x ∷ xs) rest = rw (add-one (suc (length xs))) (sym (ap (λ n. drop n (xs ++ 36 ∷ rest)) (add-one (length xs))) ∙ drop_past xs rest)

lt_front : (front rest : Bytes) → nat_lt (length front) (length (front ++ 36 ∷ rest)) ≡ true
lt_front front rest = lt-ltb _ _ (omega (arith, length-append front (36 ∷ rest)))

tag_stands : (front rest : Bytes) (r : Option Token) → IfSome r (SpellsTag front) → StandsIf (36 ∷ (front ++ 36 ∷ rest)) (option_map (λ t. (t, rest)) r)
tag_stands front rest None h = tt
tag_stands front rest (Some (text b)) h = absurd h
tag_stands front rest (Some dollar) h = absurd h
tag_stands front rest (Some (tag left word right)) h = record {
  spelled = ap (λ t. 36 ∷ (t ++ 36 ∷ rest)) h.0 ∙ ap (λ t. 36 ∷ t) (sym (append_assoc (tag_text left word right) (codes "$") rest));
  proper = h.1;
  edge = λ e. no_false e;
}

lt_self : (n : ℕ) → nat_lt n n ≡ false
lt_self n = le-ltb n n (omega arith)

tag_before_stands : (bytes : Bytes) → StandsIf (36 ∷ bytes) (tag_before bytes (run_length bytes))
tag_before_stands bytes = by_split (split_run bytes)
  where
    by_split : (list_all no_dollar bytes ≡ true) ⊎ AtDollar bytes → StandsIf (36 ∷ bytes) (tag_before bytes (run_length bytes))
    by_split (inl all) = rw (run_whole bytes all, lt_self (length bytes)) tt
    by_split (inr at) =
        let P : Bytes → Type 0 = λ t. StandsIf (36 ∷ t) (tag_before t (run_length t)) in
        subst P (sym at.parts) (rw (run_front at.front at.rest at.run, lt_front at.front at.rest, take_front at.front (36 ∷ at.rest), drop_past at.front at.rest) (tag_stands at.front at.rest (tag_of at.front) (tag_sound at.front)))

dollar_stands : (c : ℕ) (cs : Bytes) (b : Bool) → c == 36 ≡ b → StandsIf (36 ∷ c ∷ cs) (if b then Some (dollar, cs) else tag_before (c ∷ cs) (run_length (c ∷ cs)))
dollar_stands c cs true e = record { spelled = ap (λ x. 36 ∷ x ∷ cs) (eqb-true c 36 e); proper = refl; edge = λ d. no_false d }
dollar_stands c cs false e = tag_before_stands (c ∷ cs)

past_dollar : (cs : Bytes) → StandsIf (36 ∷ cs) (after_dollar cs)
past_dollar [] = tt
past_dollar (c ∷ cs) = dollar_stands c cs (c == 36) refl

text_stands : (c : ℕ) (cs : Bytes) → c == 36 ≡ false → let r = text_before (c ∷ cs) (run_length (c ∷ cs)) in Stands (c ∷ cs) r.0 r.1
text_stands c cs e = by_split (split_run (c ∷ cs))
  where
    by_front : (front rest : Bytes) → c ∷ cs ≡ front ++ 36 ∷ rest → list_all no_dollar front ≡ true → Stands (front ++ 36 ∷ rest) (text (take (length front) (front ++ 36 ∷ rest))) (drop (length front) (front ++ 36 ∷ rest))
    by_front [] rest parts run = let same : c ≡ 36 = cc in no_false (sym e ∙ ap (λ x. x == 36) same)
    by_front (x ∷ xs) rest parts run = rw (take_front (x ∷ xs) (36 ∷ rest), drop_front (x ∷ xs) (36 ∷ rest)) (record { spelled = refl; proper = run; edge = λ _. refl })

    by_split : (list_all no_dollar (c ∷ cs) ≡ true) ⊎ AtDollar (c ∷ cs) → Stands (c ∷ cs) (text (take (run_length (c ∷ cs)) (c ∷ cs))) (drop (run_length (c ∷ cs)) (c ∷ cs))
    by_split (inl all) =
        let front : take (length (c ∷ cs)) (c ∷ cs) ≡ c ∷ cs = ap (take (length (c ∷ cs))) (sym (append-nil (c ∷ cs))) ∙ take_front (c ∷ cs) [] in
        let rest : drop (length (c ∷ cs)) (c ∷ cs) ≡ [] = ap (drop (length (c ∷ cs))) (sym (append-nil (c ∷ cs))) ∙ drop_front (c ∷ cs) [] in
        let P : Bytes → Type 0 = λ t. (r : Bytes) → r ≡ [] → Stands (c ∷ cs) (text t) r in
        let Q : ℕ → Type 0 = λ n. Stands (c ∷ cs) (text (take n (c ∷ cs))) (drop n (c ∷ cs)) in
        let at_end : (r : Bytes) → r ≡ [] → Stands (c ∷ cs) (text (c ∷ cs)) r = λ r z. record { spelled = sym (ap (λ t. (c ∷ cs) ++ t) z ∙ append-nil (c ∷ cs)); proper = all; edge = λ _. ap ends_run z } in
        subst Q (sym (run_whole (c ∷ cs) all)) (subst P (sym front) at_end (drop (length (c ∷ cs)) (c ∷ cs)) rest)
    by_split (inr at) =
        let P : Bytes → Type 0 = λ t. Stands t (text (take (run_length t) t)) (drop (run_length t) t) in
        subst P (sym at.parts) (let Q : ℕ → Type 0 = λ n. Stands (at.front ++ 36 ∷ at.rest) (text (take n (at.front ++ 36 ∷ at.rest))) (drop n (at.front ++ 36 ∷ at.rest)) in subst Q (sym (run_front at.front at.rest at.run)) (by_front at.front at.rest at.parts at.run))

-- what is found at the front of a text stands there
pub token_stands : (bytes : Bytes) → StandsIf bytes (token_at bytes)
unfolding token_at
token_stands [] = tt
token_stands (c ∷ cs) = by_test (c == 36) refl
  where
    by_test : (b : Bool) → c == 36 ≡ b → StandsIf (c ∷ cs) (if b then after_dollar cs else Some (text_before (c ∷ cs) (run_length (c ∷ cs))))
    by_test true e = let P : ℕ → Type 0 = λ x. StandsIf (x ∷ cs) (after_dollar cs) in subst P (sym (eqb-true c 36 e)) (past_dollar cs)
    by_test false e = text_stands c cs e

run_edge : (bytes rest : Bytes) → list_all no_dollar bytes ≡ true → ends_run rest ≡ true → run_length (bytes ++ rest) ≡ length bytes
run_edge bytes [] h e = ap run_length (append-nil bytes) ∙ run_whole bytes h
run_edge bytes (c ∷ cs) h e = ap (λ x. run_length (bytes ++ x ∷ cs)) (eqb-true c 36 e) ∙ run_front bytes cs h

same_found : (a b d e : Bytes) → a ≡ b → d ≡ e → let x : Token × Bytes = (text a, d) in let y : Token × Bytes = (text b, e) in Some x ≡ Some y
same_found a b d e x y = cc

text_found : (c : ℕ) (cs rest : Bytes) → list_all no_dollar (c ∷ cs) ≡ true → ends_run rest ≡ true → token_at ((c ∷ cs) ++ rest) ≡ Some (text (c ∷ cs), rest)
unfolding token_at
text_found c cs rest h e =
    let first : c == 36 ≡ false = not_true _ (first_true (no_dollar c) _ h) in
    let run : run_length (c ∷ (cs ++ rest)) ≡ length (c ∷ cs) = run_edge (c ∷ cs) rest h e in
    when_false (c == 36) _ (Some (text_before (c ∷ (cs ++ rest)) (run_length (c ∷ (cs ++ rest))))) _ first (ap (λ n. Some (text_before (c ∷ (cs ++ rest)) n)) run ∙ same_found _ _ _ _ (take_front (c ∷ cs) rest) (drop_front (c ∷ cs) rest))

dollar_found : (rest : Bytes) → token_at (36 ∷ 36 ∷ rest) ≡ Some (dollar, rest)
unfolding token_at
dollar_found rest = refl

no_tag : (t : Token) → Some t ≡ tag_of [] → ⊥
unfolding tag_of word_of
no_tag t d = cc

tag_some : (left : Bool) (word : Word) (right : Bool) → is_proper word ≡ true → 0 < length (tag_text left word right)
tag_some left word right h = some_by (tag_text left word right) refl
  where
    some_by : (content : Bytes) → tag_text left word right ≡ content → 0 < length content
    some_by (c ∷ cs) e = omega arith
    some_by [] e = absurd (no_tag (tag left word right) (sym (tag_found left word right h) ∙ ap tag_of e))

tag_before_found : (content rest : Bytes) (t : Token) → list_all no_dollar content ≡ true → tag_of content ≡ Some t → tag_before (content ++ 36 ∷ rest) (run_length (content ++ 36 ∷ rest)) ≡ Some (t, rest)
tag_before_found content rest t run e = rw (run_front content rest run, lt_front content rest, take_front content (36 ∷ rest), drop_past content rest, e) refl

after_tag_by : (content rest : Bytes) (t : Token) → list_all no_dollar content ≡ true → 0 < length content → tag_of content ≡ Some t → after_dollar (content ++ 36 ∷ rest) ≡ Some (t, rest)
after_tag_by [] rest t run some e = absurd (omega arith)
after_tag_by (c ∷ cs) rest t run some e =
    let first : c == 36 ≡ false = not_true _ (first_true (no_dollar c) _ run) in
    when_false (c == 36) _ (tag_before (c ∷ (cs ++ 36 ∷ rest)) (run_length (c ∷ (cs ++ 36 ∷ rest)))) _ first (tag_before_found (c ∷ cs) rest t run e)

after_tag : (left : Bool) (word : Word) (right : Bool) (rest : Bytes) → is_proper word ≡ true → token_at (36 ∷ (tag_text left word right ++ 36 ∷ rest)) ≡ Some (tag left word right, rest)
unfolding token_at
after_tag left word right rest h = after_tag_by (tag_text left word right) rest (tag left word right) (tag_no_dollar left word right h) (tag_some left word right h) (tag_found left word right h)

some_run : (bytes rest : Bytes) → is_run bytes ≡ true → ends_run rest ≡ true → token_at (bytes ++ rest) ≡ Some (text bytes, rest)
some_run [] rest h e = no_false h
some_run (c ∷ cs) rest h e = text_found c cs rest h e

-- a proper token is found at the front of its text
pub token_found : (t : Token) (rest : Bytes) → is_token t ≡ true → (is_text t ≡ true → ends_run rest ≡ true) → token_at (token_text t ++ rest) ≡ Some (t, rest)
token_found (text bytes) rest h e = some_run bytes rest h (e refl)
token_found dollar rest h e = dollar_found rest
token_found (tag left word right) rest h e =
    ap (λ t. token_at (36 ∷ t)) (append_assoc (tag_text left word right) (codes "$") rest)
    ∙ after_tag left word right rest h

-- a token takes a byte at least
pub token_some : (t : Token) → is_token t ≡ true → 0 < length (token_text t)
token_some (text []) h = no_false h
token_some (text (c ∷ cs)) h = omega arith
token_some dollar h = omega arith
token_some (tag left word right) h = omega arith

-- what follows a token is shorter
rest_shorter : (bytes : Bytes) (t : Token) (rest : Bytes) → Stands bytes t rest → length rest < length bytes
rest_shorter bytes t rest s =
    let some : 0 < length (token_text t) = token_some t s.proper in
    omega (arith, ap length s.spelled, length-append (token_text t) rest)

on_equal : (f g : Bytes → Cuts) (bytes : Bytes) (r : Option (Token × Bytes)) → StandsIf bytes r → ((rest : Bytes) → length rest < length bytes → f rest ≡ g rest) → cut_on f r ≡ cut_on g r
on_equal f g bytes (Some (t, rest)) s h = ap (λ (c : Cuts). let d : Cuts = (t ∷ c.0, c.1) in d) (h rest (rest_shorter bytes t rest s))
on_equal f g bytes None s h = refl

enough : (n m : ℕ) (bytes : Bytes) → length bytes ≤ n → length bytes ≤ m → cut_by n bytes ≡ cut_by m bytes
enough zero zero bytes h g = refl
enough zero (suc m) [] h g = refl
enough zero (suc m) (c ∷ cs) h g = absurd (omega arith)
enough (suc n) zero [] h g = refl
enough (suc n) zero (c ∷ cs) h g = absurd (omega arith)
enough (suc n) (suc m) [] h g = refl
enough (suc n) (suc m) (c ∷ cs) h g = on_equal (cut_by n) (cut_by m) (c ∷ cs) (token_at (c ∷ cs)) (token_stands (c ∷ cs)) (λ rest lt. enough n m rest (omega arith) (omega arith))

-- the first token of a text, and then the rest
pub cut_first : (c : ℕ) (cs : Bytes) → cut (c ∷ cs) ≡ cut_on cut (token_at (c ∷ cs))
unfolding cut
cut_first c cs = on_equal (cut_by (length cs)) (λ rest. cut_by (length rest) rest) (c ∷ cs) (token_at (c ∷ cs)) (token_stands (c ∷ cs)) (λ rest lt. enough (length cs) (length rest) rest (omega arith) (omega arith))

pub cut_none : cut [] ≡ ([], true)
unfolding cut
cut_none = refl

nothing_there : (found : Token × Bytes) → token_at [] ≡ Some found → ⊥
unfolding token_at
nothing_there found e = cc

pub cut_found : (bytes : Bytes) (t : Token) (rest : Bytes) → token_at bytes ≡ Some (t, rest) → cut bytes ≡ (t ∷ (cut rest).0, (cut rest).1)
cut_found [] t rest e = absurd (nothing_there (t, rest) e)
cut_found (c ∷ cs) t rest e = cut_first c cs ∙ ap (cut_on cut) e

-- the text is spelled by these tokens
pub record Spelled (bytes : Bytes) (ts : List Token) : Type 0 where
  pub spelled : bytes ≡ flat_map token_text ts
  pub proper : list_all is_token ts ≡ true
  pub apart : texts_apart ts ≡ true

apart_if : (t : Token) (ts : List Token) → (is_text t ≡ true → begins_with_text ts ≡ false) → texts_apart ts ≡ true → texts_apart (t ∷ ts) ≡ true
apart_if (text bytes) ts h e = rw (h refl) e
apart_if dollar ts h e = e
apart_if (tag left word right) ts h e = e

edge_if : (t : Token) (rest : Bytes) → is_token t ≡ true → ends_run (token_text t ++ rest) ≡ true → is_text t ≡ false
edge_if (text []) rest h e = no_false h
edge_if (text (c ∷ cs)) rest h e = no_false (sym (not_true (c == 36) (first_true (no_dollar c) (list_all no_dollar cs) h)) ∙ e)
edge_if dollar rest h e = refl
edge_if (tag left word right) rest h e = refl

no_some : {A : Type 0} (x : A) → Some x ≡ None → ⊥
no_some x e = cc

none_found : (bytes : Bytes) (t : Token) (rest : Bytes) → token_at bytes ≡ None → is_token t ≡ true → is_text t ≡ false → bytes ≡ token_text t ++ rest → ⊥
none_found bytes t rest n h f e = no_some (t, rest) (sym (token_found t rest h (λ x. no_false (sym f ∙ x))) ∙ ap token_at (sym e) ∙ n)

stuck_dollar : (c : ℕ) (cs : Bytes) → token_at (c ∷ cs) ≡ None → c ≡ 36
unfolding token_at
stuck_dollar c cs n = by_test (c == 36) refl n
  where
    by_test : (b : Bool) → c == 36 ≡ b → (if b then after_dollar cs else Some (text_before (c ∷ cs) (run_length (c ∷ cs)))) ≡ None → c ≡ 36
    by_test true e n = eqb-true c 36 e
    by_test false e n = absurd (no_some _ n)

no_token : (c : ℕ) (cs : Bytes) → c ≡ 36 → token_at (c ∷ cs) ≡ None → NoToken (c ∷ cs)
no_token c cs d n (text []) rest h e = no_false h
no_token c cs d n (text (x ∷ xs)) rest h e =
    let same : x ≡ 36 = cc in
    no_false (sym (not_true (x == 36) (first_true (no_dollar x) (list_all no_dollar xs) h)) ∙ eq-eqb x 36 same)
no_token c cs d n dollar rest h e = none_found (c ∷ cs) dollar rest n h refl e
no_token c cs d n (tag left word right) rest h e = none_found (c ∷ cs) (tag left word right) rest n h refl e

-- a cut as far as tokens reach, and its first token where the text is empty or begins with a dollar sign
record Reaches (bytes : Bytes) (c : Cuts) : Type 0 where
  pub stop : IsCut bytes c.0 c.1
  pub edge : ends_run bytes ≡ true → begins_with_text c.0 ≡ false

reaches_more : (bytes : Bytes) (t : Token) (rest : Bytes) (c : Cuts) → Stands bytes t rest → Reaches rest c → Reaches bytes (t ∷ c.0, c.1)
reaches_more bytes t rest c s m = record {
  stop = record {
    rest = m.stop.rest;
    spelled = s.spelled ∙ ap (λ x. token_text t ++ x) m.stop.spelled ∙ sym (append_assoc (token_text t) (flat_map token_text c.0) m.stop.rest);
    proper = both_true (is_token t) _ s.proper m.stop.proper;
    apart = apart_if t c.0 (λ e. m.edge (s.edge e)) m.stop.apart;
    finished = m.stop.finished;
    stuck = m.stop.stuck;
  };
  edge = λ e. edge_if t rest s.proper (sym (ap ends_run s.spelled) ∙ e);
}

reaches_end : Reaches [] ([], true)
reaches_end = record { stop = record { rest = []; spelled = refl; proper = refl; apart = refl; finished = λ _. refl; stuck = λ e. no_false (sym e) }; edge = λ _. refl }

reaches_stop : (c : ℕ) (cs : Bytes) → token_at (c ∷ cs) ≡ None → Reaches (c ∷ cs) ([], false)
reaches_stop c cs n =
    let d : c ≡ 36 = stuck_dollar c cs n in
    record { stop = record { rest = c ∷ cs; spelled = refl; proper = refl; apart = refl; finished = λ e. no_false e; stuck = λ _. (d, no_token c cs d n) }; edge = λ _. refl }

reaches_on : (onward : Bytes → Cuts) (c : ℕ) (cs : Bytes) (r : Option (Token × Bytes)) → token_at (c ∷ cs) ≡ r → StandsIf (c ∷ cs) r → ((rest : Bytes) → length rest < length (c ∷ cs) → Reaches rest (onward rest)) → Reaches (c ∷ cs) (cut_on onward r)
reaches_on onward c cs (Some (t, rest)) n s h = reaches_more (c ∷ cs) t rest (onward rest) s (h rest (rest_shorter (c ∷ cs) t rest s))
reaches_on onward c cs None n s h = reaches_stop c cs n

reaches_by : (n : ℕ) (bytes : Bytes) → length bytes ≤ n → Reaches bytes (cut_by n bytes)
reaches_by zero [] h = reaches_end
reaches_by (suc n) [] h = reaches_end
reaches_by zero (c ∷ cs) h = absurd (omega arith)
reaches_by (suc n) (c ∷ cs) h = reaches_on (cut_by n) c cs (token_at (c ∷ cs)) refl (token_stands (c ∷ cs)) (λ rest lt. reaches_by n rest (omega arith))

-- a text is cut as far as tokens reach
reaches : (bytes : Bytes) → Reaches bytes (cut bytes)
unfolding cut
reaches bytes = reaches_by (length bytes) bytes (omega arith)

pub cuts_all : CutsAll
cuts_all bytes = (reaches bytes).stop

-- tokens that are the whole text spell it
pub cut_spelled : (bytes : Bytes) → (cut bytes).1 ≡ true → Spelled bytes (cut bytes).0
cut_spelled bytes h =
    let r = reaches bytes in
    record {
      spelled = r.stop.spelled ∙ ap (λ x. flat_map token_text (cut bytes).0 ++ x) (r.stop.finished h) ∙ append-nil (flat_map token_text (cut bytes).0);
      proper = r.stop.proper;
      apart = r.stop.apart;
    }

first_edge : (ts : List Token) → list_all is_token ts ≡ true → begins_with_text ts ≡ false → ends_run (flat_map token_text ts) ≡ true
first_edge [] h e = refl
first_edge (text bytes ∷ ts) h e = no_false (sym e)
first_edge (dollar ∷ ts) h e = refl
first_edge (tag left word right ∷ ts) h e = refl

edge_of : (t : Token) (ts : List Token) → list_all is_token ts ≡ true → texts_apart (t ∷ ts) ≡ true → is_text t ≡ true → ends_run (flat_map token_text ts) ≡ true
edge_of (text bytes) ts h a e = first_edge ts h (not_true _ (first_true _ _ a))
edge_of dollar ts h a e = no_false e
edge_of (tag left word right) ts h a e = no_false e

-- a text that tokens spell is cut into them
pub spelled_cut : (ts : List Token) → list_all is_token ts ≡ true → texts_apart ts ≡ true → cut (flat_map token_text ts) ≡ (ts, true)
spelled_cut [] h a = cut_none
spelled_cut (t ∷ ts) h a =
    let rest : Bytes = flat_map token_text ts in
    let later : list_all is_token ts ≡ true = second_true (is_token t) _ h in
    let here : cut (token_text t ++ rest) ≡ (t ∷ (cut rest).0, (cut rest).1) = cut_found (token_text t ++ rest) t rest (token_found t rest (first_true (is_token t) _ h) (edge_of t ts later a)) in
    here ∙ ap (λ (c : Cuts). let d : Cuts = (t ∷ c.0, c.1) in d) (spelled_cut ts later (second_true _ _ a))
