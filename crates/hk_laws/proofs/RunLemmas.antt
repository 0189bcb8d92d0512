-- What the forms that are open after some tokens say of these tokens.
use Rattle.std.proofs.Common.{◌≡◌, ℕ, ◌+◌, Bool, true, false, nat_lt, if◌then◌else◌, List, [], ◌∷◌, ◌++◌, map, length, refl, ap, sym, subst, ◌∙◌, append_assoc, append-nil, length-append, Option, Some, None, Result, Ok, Err}
use Rattle.hk_base.specs.Bytes.{Bytes}
use Rattle.hk_template.specs.declared.fault.TemplateFault.{TemplateFault}
use Rattle.hk_template.specs.declared.fault.TemplateFault.TheVariants.{BadForm, Unclosed, TooDeep}
use Rattle.hk_template.specs.Token.{Word, key, if_, else_, endif, for_, sep, endfor, partial, Token, text, dollar, tag, token_text}
use Rattle.hk_template.specs.Fault.{Open, in_if, in_else, in_for, in_sep, place_of_open, opened, opened_by, fault_on, fault_from}
use Rattle.hk_laws.proofs.WalkLemmas.{Kind, if_kind, else_kind, for_kind, sep_kind, step, on, walk, walk-on, one_words, token_words, token_words-append}
use Rattle.hk_laws.proofs.HeldLemmas.{let_go, walk_above, walk_free, Sort, if_sort, for_sort, first_word, last_word, held_kind}
use Rattle.hk_laws.proofs.TokenLemmas.{text_of, text_of-append}

abbrev pub kind_of : Open → Kind
kind_of (in_if p) = if_kind false
kind_of (in_else p) = else_kind false
kind_of (in_for p) = for_kind false
kind_of (in_sep p) = sep_kind false

abbrev pub kinds : List Open → List Kind
kinds os = map kind_of os

-- what a word does to the open forms, with the limit and without it
abbrev pub Agrees : ℕ → List Open → Option (List Kind) → Result (List Open) TemplateFault → Type 0
Agrees p os s (Ok next) = s ≡ Some (kinds next)
Agrees p os s (Err (BadForm q)) = (q ≡ p) × (s ≡ None)
Agrees p os s (Err (TooDeep q)) = (q ≡ p) × (o : Open) × (s ≡ Some (kind_of o ∷ kinds os))
Agrees p os s (Err (Unclosed q)) = ⊥

agrees_one : (p : ℕ) (o : Open) (os : List Open) (b : Bool) → Agrees p os (Some (kind_of o ∷ kinds os)) (if b then Ok (o ∷ os) else Err (TooDeep p))
agrees_one p o os true = refl
agrees_one p o os false = (refl, o, refl)

agrees_word : (p : ℕ) (w : Word) (os : List Open) → Agrees p os (step w (kinds os)) (opened p w os)
agrees_word p (key k) os = refl
agrees_word p (partial path) os = refl
agrees_word p (if_ k) os = agrees_one p (in_if p) os (nat_lt (length os) 64)
agrees_word p (for_ k) os = agrees_one p (in_for p) os (nat_lt (length os) 64)
agrees_word p else_ [] = (refl, refl)
agrees_word p else_ (in_if q ∷ os) = refl
agrees_word p else_ (in_else q ∷ os) = (refl, refl)
agrees_word p else_ (in_for q ∷ os) = (refl, refl)
agrees_word p else_ (in_sep q ∷ os) = (refl, refl)
agrees_word p sep [] = (refl, refl)
agrees_word p sep (in_if q ∷ os) = (refl, refl)
agrees_word p sep (in_else q ∷ os) = (refl, refl)
agrees_word p sep (in_for q ∷ os) = refl
agrees_word p sep (in_sep q ∷ os) = (refl, refl)
agrees_word p endif [] = (refl, refl)
agrees_word p endif (in_if q ∷ os) = refl
agrees_word p endif (in_else q ∷ os) = refl
agrees_word p endif (in_for q ∷ os) = (refl, refl)
agrees_word p endif (in_sep q ∷ os) = (refl, refl)
agrees_word p endfor [] = (refl, refl)
agrees_word p endfor (in_if q ∷ os) = (refl, refl)
agrees_word p endfor (in_else q ∷ os) = (refl, refl)
agrees_word p endfor (in_for q ∷ os) = refl
agrees_word p endfor (in_sep q ∷ os) = refl

walk_one : (w : Word) (ks : List Kind) → walk (w ∷ []) ks ≡ step w ks
walk_one w ks = go (step w ks)
  where
    go : (r : Option (List Kind)) → on (walk []) r ≡ r
    go None = refl
    go (Some next) = refl

pub agrees : (p : ℕ) (t : Token) (os : List Open) → Agrees p os (walk (one_words t) (kinds os)) (opened_by p t os)
agrees p (text bytes) os = refl
agrees p dollar os = refl
agrees p (tag left word right) os = subst (λ (s : Option (List Kind)). Agrees p os s (opened p word os)) (sym (walk_one word (kinds os))) (agrees_word p word os)

abbrev pub hold : Kind → Kind
hold (if_kind held) = if_kind true
hold (else_kind held) = else_kind true
hold (for_kind held) = for_kind true
hold (sep_kind held) = sep_kind true

-- the first tag of an open form, and what stands after it: that doesn't close the form
pub record Level (Outer : List Token → Type 0) (o : Open) (ts : List Token) : Type 0 where
  pub front : List Token
  pub left : Bool
  pub sort : Sort
  pub key : Bytes
  pub right : Bool
  pub behind : List Token
  pub same : ts ≡ front ++ (tag left (first_word sort key) right ∷ behind)
  pub at : place_of_open o ≡ length (text_of front)
  pub outer : Outer front
  pub inside : walk (token_words behind) (held_kind sort ∷ []) ≡ Some (hold (kind_of o) ∷ [])
  pub closes : step (last_word sort) (kind_of o ∷ []) ≡ Some []

abbrev pub Levels : List Open → List Token → Type 0
Levels [] ts = Unit {0}
Levels (o ∷ os) ts = Level (Levels os) o ts

words_more : (ts : List Token) (t : Token) → token_words (ts ++ t ∷ []) ≡ token_words ts ++ one_words t
words_more ts t = token_words-append ts (t ∷ []) ∙ ap (λ ws. token_words ts ++ ws) (append-nil (one_words t))

snoc_same : (ts front behind : List Token) (first t : Token) → ts ≡ front ++ (first ∷ behind) → ts ++ t ∷ [] ≡ front ++ (first ∷ (behind ++ t ∷ []))
snoc_same ts front behind first t e = ap (λ all. all ++ t ∷ []) e ∙ append_assoc front (first ∷ behind) (t ∷ [])

-- one more token inside the innermost form
level_more : (Outer : List Token → Type 0) (o next : Open) (ts : List Token) (t : Token) → Level Outer o ts → walk (one_words t) (hold (kind_of o) ∷ []) ≡ Some (hold (kind_of next) ∷ [])
    → place_of_open next ≡ place_of_open o → ((s : Sort) → step (last_word s) (kind_of o ∷ []) ≡ Some [] → step (last_word s) (kind_of next ∷ []) ≡ Some []) → Level Outer next (ts ++ t ∷ [])
level_more Outer o next ts t level goes place closes = record {
  front = level.front;
  left = level.left;
  sort = level.sort;
  key = level.key;
  right = level.right;
  behind = level.behind ++ t ∷ [];
  same = snoc_same ts level.front level.behind (tag level.left (first_word level.sort level.key) level.right) t level.same;
  at = place ∙ level.at;
  outer = level.outer;
  inside = ap (λ ws. walk ws (held_kind level.sort ∷ [])) (words_more level.behind t) ∙ walk-on (token_words level.behind) (one_words t) (held_kind level.sort ∷ []) (hold (kind_of o) ∷ []) level.inside ∙ goes;
  closes = closes level.sort level.closes;
}

levels_more : (os : List Open) (ts : List Token) (t : Token) → ((k : Kind) → walk (one_words t) (k ∷ []) ≡ Some (k ∷ [])) → Levels os ts → Levels os (ts ++ t ∷ [])
levels_more [] ts t goes levels = tt
levels_more (o ∷ os) ts t goes level = level_more (Levels os) o o ts t level (goes (hold (kind_of o))) refl (λ s e. e)

level_new : (os : List Open) (o : Open) (ts : List Token) (left : Bool) (s : Sort) (k : Bytes) (right : Bool) → Levels os ts → place_of_open o ≡ length (text_of ts) → hold (kind_of o) ≡ held_kind s → step (last_word s) (kind_of o ∷ []) ≡ Some []
    → Level (Levels os) o (ts ++ tag left (first_word s k) right ∷ [])
level_new os o ts left s k right levels place held closes = record {
  front = ts;
  left = left;
  sort = s;
  key = k;
  right = right;
  behind = [];
  same = refl;
  at = place;
  outer = levels;
  inside = ap (λ h. Some (h ∷ [])) (sym held);
  closes = closes;
}

free_held : (o : Open) → let_go (hold (kind_of o)) ≡ kind_of o
free_held (in_if p) = refl
free_held (in_else p) = refl
free_held (in_for p) = refl
free_held (in_sep p) = refl

step_first : (s : Sort) (k : Bytes) (ks : List Kind) → step (first_word s k) ks ≡ Some (let_go (held_kind s) ∷ ks)
step_first if_sort k ks = refl
step_first for_sort k ks = refl

-- a form that was closed stands inside the form round it
closed_words : (s : Sort) (k : Bytes) (behind : List Token) (o : Open) (w : Word) (h : Kind) → walk (token_words behind) (held_kind s ∷ []) ≡ Some (hold (kind_of o) ∷ []) → ((ks : List Kind) → step w (kind_of o ∷ ks) ≡ Some ks)
    → walk (first_word s k ∷ (token_words behind ++ w ∷ [])) (h ∷ []) ≡ Some (h ∷ [])
closed_words s k behind o w h inside closes =
    let free : walk (token_words behind) (let_go (held_kind s) ∷ []) ≡ Some (kind_of o ∷ []) = walk_free (token_words behind) (held_kind s ∷ []) (hold (kind_of o) ∷ []) inside ∙ ap (λ l. Some (l ∷ [])) (free_held o) in
    let above : walk (token_words behind) (let_go (held_kind s) ∷ h ∷ []) ≡ Some (kind_of o ∷ h ∷ []) = walk_above (token_words behind) (let_go (held_kind s) ∷ []) (kind_of o ∷ []) (h ∷ []) free in
    ap (on (walk (token_words behind ++ w ∷ []))) (step_first s k (h ∷ []))
    ∙ walk-on (token_words behind) (w ∷ []) (let_go (held_kind s) ∷ h ∷ []) (kind_of o ∷ h ∷ []) above
    ∙ walk_one w (kind_of o ∷ h ∷ [])
    ∙ closes (h ∷ [])

nested_same : (ts front behind front' behind' : List Token) (first first' t : Token) → ts ≡ front ++ (first ∷ behind) → front ≡ front' ++ (first' ∷ behind')
    → ts ++ t ∷ [] ≡ front' ++ (first' ∷ (behind' ++ (first ∷ (behind ++ t ∷ []))))
nested_same ts front behind front' behind' first first' t e f = rw (e, f) (simp append_assoc)

level_closed : (os : List Open) (o : Open) (ts : List Token) (left : Bool) (w : Word) (right : Bool) → Level (Levels os) o ts → ((ks : List Kind) → step w (kind_of o ∷ ks) ≡ Some ks) → Levels os (ts ++ tag left w right ∷ [])
level_closed [] o ts left w right level closes = tt
level_closed (next ∷ os) o ts left w right level closes =
    let outer = level.outer in
    let last = tag left w right in
    let first = tag level.left (first_word level.sort level.key) level.right in
    let inner : token_words (first ∷ (level.behind ++ last ∷ [])) ≡ first_word level.sort level.key ∷ (token_words level.behind ++ w ∷ []) = ap (λ ws. first_word level.sort level.key ∷ ws) (words_more level.behind last) in
    record {
      front = outer.front;
      left = outer.left;
      sort = outer.sort;
      key = outer.key;
      right = outer.right;
      behind = outer.behind ++ (first ∷ (level.behind ++ last ∷ []));
      same = nested_same ts level.front level.behind outer.front outer.behind first (tag outer.left (first_word outer.sort outer.key) outer.right) last level.same outer.same;
      at = outer.at;
      outer = outer.outer;
      inside = ap (λ ws. walk ws (held_kind outer.sort ∷ [])) (token_words-append outer.behind (first ∷ (level.behind ++ last ∷ [])))
          ∙ walk-on (token_words outer.behind) (token_words (first ∷ (level.behind ++ last ∷ []))) (held_kind outer.sort ∷ []) (hold (kind_of next) ∷ []) outer.inside
          ∙ ap (λ ws. walk ws (hold (kind_of next) ∷ [])) inner
          ∙ closed_words level.sort level.key level.behind o w (hold (kind_of next)) level.inside closes;
      closes = outer.closes;
    }

abbrev Done : Result (List Open) TemplateFault → List Open → Type 0
Done r next = r ≡ Ok next

abbrev Next : List Open → List Token → Token → List Open → Type 0
Next os ts t next = Levels os ts → Levels next (ts ++ t ∷ [])

kept_levels : (os next : List Open) (ts : List Token) (t : Token) → Done (Ok os) next → ((k : Kind) → walk (one_words t) (k ∷ []) ≡ Some (k ∷ [])) → Next os ts t next
kept_levels os next ts t e goes levels = let same : os ≡ next = cc in subst (λ (all : List Open). Levels all (ts ++ t ∷ [])) same (levels_more os ts t goes levels)

one_more_is : (b : Bool) (o : Open) (os next : List Open) (fault : TemplateFault) → (if b then Ok (o ∷ os) else Err fault) ≡ Ok next → o ∷ os ≡ next
one_more_is true o os next fault e = cc
one_more_is false o os next fault e = let no_ : ⊥ = cc in absurd no_

no_step : {A : Type 0} (fault : TemplateFault) (next : List Open) → Done (Err fault) next → A
no_step fault next e = let no_ : ⊥ = cc in absurd no_

else_closes : (s : Sort) → step (last_word s) (if_kind false ∷ []) ≡ Some [] → step (last_word s) (else_kind false ∷ []) ≡ Some []
else_closes if_sort e = refl
else_closes for_sort e = let no_ : ⊥ = cc in absurd no_

sep_closes : (s : Sort) → step (last_word s) (for_kind false ∷ []) ≡ Some [] → step (last_word s) (sep_kind false ∷ []) ≡ Some []
sep_closes if_sort e = let no_ : ⊥ = cc in absurd no_
sep_closes for_sort e = refl

moved : (os next : List Open) (ts : List Token) (t : Token) → Done (Ok os) next → Levels os (ts ++ t ∷ []) → Levels next (ts ++ t ∷ [])
moved os next ts t e levels = let same : os ≡ next = cc in subst (λ (all : List Open). Levels all (ts ++ t ∷ [])) same levels

next_word : (ts : List Token) (left : Bool) (w : Word) (right : Bool) (os next : List Open) → opened (length (text_of ts)) w os ≡ Ok next → Next os ts (tag left w right) next
next_word ts left (key k) right os next e levels = kept_levels os next ts (tag left (key k) right) e (λ _. refl) levels
next_word ts left (partial path) right os next e levels = kept_levels os next ts (tag left (partial path) right) e (λ _. refl) levels
next_word ts left (if_ k) right os next e levels =
    let p = length (text_of ts) in
    let same : in_if p ∷ os ≡ next = one_more_is (nat_lt (length os) 64) (in_if p) os next (TooDeep p) e in
    subst (λ (all : List Open). Levels all (ts ++ tag left (if_ k) right ∷ [])) same (level_new os (in_if p) ts left if_sort k right levels refl refl refl)
next_word ts left (for_ k) right os next e levels =
    let p = length (text_of ts) in
    let same : in_for p ∷ os ≡ next = one_more_is (nat_lt (length os) 64) (in_for p) os next (TooDeep p) e in
    subst (λ (all : List Open). Levels all (ts ++ tag left (for_ k) right ∷ [])) same (level_new os (in_for p) ts left for_sort k right levels refl refl refl)
next_word ts left else_ right [] next e levels = no_step _ _ e
next_word ts left else_ right (in_if q ∷ os) next e level = moved (in_else q ∷ os) next ts (tag left else_ right) e (level_more (Levels os) (in_if q) (in_else q) ts (tag left else_ right) level refl refl else_closes)
next_word ts left else_ right (in_else q ∷ os) next e level = no_step _ _ e
next_word ts left else_ right (in_for q ∷ os) next e level = no_step _ _ e
next_word ts left else_ right (in_sep q ∷ os) next e level = no_step _ _ e
next_word ts left sep right [] next e levels = no_step _ _ e
next_word ts left sep right (in_if q ∷ os) next e level = no_step _ _ e
next_word ts left sep right (in_else q ∷ os) next e level = no_step _ _ e
next_word ts left sep right (in_for q ∷ os) next e level = moved (in_sep q ∷ os) next ts (tag left sep right) e (level_more (Levels os) (in_for q) (in_sep q) ts (tag left sep right) level refl refl sep_closes)
next_word ts left sep right (in_sep q ∷ os) next e level = no_step _ _ e
next_word ts left endif right [] next e levels = no_step _ _ e
next_word ts left endif right (in_if q ∷ os) next e level = moved os next ts (tag left endif right) e (level_closed os (in_if q) ts left endif right level (λ _. refl))
next_word ts left endif right (in_else q ∷ os) next e level = moved os next ts (tag left endif right) e (level_closed os (in_else q) ts left endif right level (λ _. refl))
next_word ts left endif right (in_for q ∷ os) next e level = no_step _ _ e
next_word ts left endif right (in_sep q ∷ os) next e level = no_step _ _ e
next_word ts left endfor right [] next e levels = no_step _ _ e
next_word ts left endfor right (in_if q ∷ os) next e level = no_step _ _ e
next_word ts left endfor right (in_else q ∷ os) next e level = no_step _ _ e
next_word ts left endfor right (in_for q ∷ os) next e level = moved os next ts (tag left endfor right) e (level_closed os (in_for q) ts left endfor right level (λ _. refl))
next_word ts left endfor right (in_sep q ∷ os) next e level = moved os next ts (tag left endfor right) e (level_closed os (in_sep q) ts left endfor right level (λ _. refl))

next_levels : (ts : List Token) (t : Token) (os next : List Open) → opened_by (length (text_of ts)) t os ≡ Ok next → Next os ts t next
next_levels ts (text bytes) os next e levels = kept_levels os next ts (text bytes) e (λ _. refl) levels
next_levels ts dollar os next e levels = kept_levels os next ts dollar e (λ _. refl) levels
next_levels ts (tag left word right) os next e levels = next_word ts left word right os next e levels

-- the forms that are open after these tokens
pub record Ran (ts : List Token) (os : List Open) : Type 0 where
  pub on_faults : (more : List Token) (whole : Bool) → fault_from 0 [] (ts ++ more) whole ≡ fault_from (length (text_of ts)) os more whole
  pub walked : walk (token_words ts) [] ≡ Some (kinds os)
  pub levels : Levels os ts

pub ran_none : Ran [] []
ran_none = record { on_faults = λ more whole. refl; walked = refl; levels = tt }

pub length_more : (ts : List Token) (t : Token) → length (text_of (ts ++ t ∷ [])) ≡ length (text_of ts) + length (token_text t)
length_more ts t = ap length (text_of-append ts (t ∷ [])) ∙ length-append (text_of ts) (text_of (t ∷ [])) ∙ ap (λ (l : Bytes). length (text_of ts) + length l) (append-nil (token_text t))

pub ran_more : (ts : List Token) (t : Token) (os next : List Open) → Ran ts os → opened_by (length (text_of ts)) t os ≡ Ok next → Ran (ts ++ t ∷ []) next
ran_more ts t os next ran e = record {
  on_faults = λ more whole.
      ap (λ all. fault_from 0 [] all whole) (append_assoc ts (t ∷ []) more)
      ∙ ran.on_faults (t ∷ more) whole
      ∙ ap (fault_on (λ opens. fault_from (length (text_of ts) + length (token_text t)) opens more whole)) e
      ∙ ap (λ p. fault_from p next more whole) (sym (length_more ts t));
  walked = ap (λ ws. walk ws []) (words_more ts t) ∙ walk-on (token_words ts) (one_words t) [] (kinds os) ran.walked
      ∙ subst (λ (r : Result (List Open) TemplateFault). Agrees (length (text_of ts)) os (walk (one_words t) (kinds os)) r) e (agrees (length (text_of ts)) t os);
  levels = next_levels ts t os next e ran.levels;
}
