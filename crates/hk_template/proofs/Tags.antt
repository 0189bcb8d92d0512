-- A tag is read back from its text, and what is read is spelled so.
use Rattle.std.proofs.Common.{◌≡◌, ℕ, Bool, true, false, ◌||◌, not, ◌==◌, [], ◌∷◌, ◌++◌, refl, ap, sym, ◌∙◌, codes, Option, Some, None, IfSome, option_map, append-nil, append_assoc, eqb-true}
use Rattle.std.specs.List.{list_all}
use Rattle.hk_base.specs.Bytes.{Bytes}
use Rattle.hk_base.specs.Key.{is_letter, is_key_byte, is_key, begins_with_letter, ends_with_dash}
use Rattle.hk_template.specs.Token.{Word, key, if_, else_, endif, for_, sep, endfor, partial, Token, text, dollar, tag, word_text, tag_text, dash, is_proper}
use Rattle.hk_template.specs.Cut.{after_front, before_end, word_of, tag_with, tag_after, tag_of}
use Rattle.hk_template.proofs.Bools.{first_true, second_true, not_true, or_second, no_false, all_append, all_weaker}
use Rattle.hk_template.proofs.Fronts.{after_front_finds, after_front_sound, before_end_finds, before_end_sound, no_end_dash}
use Rattle.hk_base.proofs.Keys.{ends_by}
use Rattle.hk_template.proofs.Words.{Spells, word_sound, word_found, key_end, key_begin, key_bytes}

-- these bytes spell this tag
abbrev pub SpellsTag : Bytes → Token → Type 0
SpellsTag bytes (text b) = ⊥
SpellsTag bytes dollar = ⊥
SpellsTag bytes (tag left word right) = (bytes ≡ tag_text left word right) × (is_proper word ≡ true)

with_word : (bytes front : Bytes) (left right : Bool) (r : Option Word) → IfSome r (Spells front) → bytes ≡ dash left ++ (front ++ dash right) → IfSome (option_map (λ word. tag left word right) r) (SpellsTag bytes)
with_word bytes front left right (Some word) h e = (e ∙ ap (λ t. dash left ++ (t ++ dash right)) h.0, h.1)
with_word bytes front left right None h e = tt

with_sound : (bytes rest : Bytes) (left : Bool) (r : Option Bytes) → bytes ≡ dash left ++ rest → IfSome r (λ front. rest ≡ front ++ codes "-") → IfSome (tag_with left rest r) (SpellsTag bytes)
with_sound bytes rest left (Some front) e h = with_word bytes front left true (word_of front) (word_sound front) (e ∙ ap (λ t. dash left ++ t) h)
with_sound bytes rest left None e h = with_word bytes rest left false (word_of rest) (word_sound rest) (e ∙ ap (λ t. dash left ++ t) (sym (append-nil rest)))

after_sound : (bytes : Bytes) (r : Option Bytes) → IfSome r (λ rest. bytes ≡ codes "-" ++ rest) → IfSome (tag_after bytes r) (SpellsTag bytes)
after_sound bytes (Some rest) h = with_sound bytes rest true (before_end (codes "-") rest) h (before_end_sound (codes "-") rest)
after_sound bytes None h = with_sound bytes bytes false (before_end (codes "-") bytes) refl (before_end_sound (codes "-") bytes)

pub tag_sound : (bytes : Bytes) → IfSome (tag_of bytes) (SpellsTag bytes)
unfolding tag_of
tag_sound bytes = after_sound bytes (after_front (codes "-") bytes) (after_front_sound (codes "-") bytes)

letter_no_dash : (c : ℕ) → is_letter c ≡ true → c == 45 ≡ false
letter_no_dash c h = by_test (c == 45) refl
  where
    by_test : (b : Bool) → c == 45 ≡ b → b ≡ false
    by_test false e = refl
    by_test true e = no_false (let same : is_letter 45 ≡ true = ap is_letter (sym (eqb-true c 45 e)) ∙ h in same)

-- a word begins with no dash, whatever follows it
no_dash_front : (c : ℕ) (cs : Bytes) → c == 45 ≡ false → after_front (codes "-") (c ∷ cs) ≡ None
no_dash_front c cs e = rw e refl

key_no_dash : (k more : Bytes) → begins_with_letter k ≡ true → after_front (codes "-") (k ++ more) ≡ None
key_no_dash [] more h = no_false h
key_no_dash (c ∷ cs) more h = no_dash_front c (cs ++ more) (letter_no_dash c h)

word_front : (word : Word) (more : Bytes) → is_proper word ≡ true → after_front (codes "-") (word_text word ++ more) ≡ None
word_front (key k) more h = key_no_dash k more (key_begin k (first_true _ _ h))
word_front (if_ k) more h = refl
word_front else_ more h = refl
word_front endif more h = refl
word_front (for_ k) more h = refl
word_front sep more h = refl
word_front endfor more h = refl
word_front (partial path) more h = refl

word_end : (word : Word) → is_proper word ≡ true → ends_with_dash (word_text word) ≡ false
word_end (key k) h = key_end k (first_true _ _ h)
word_end (if_ k) h = ends_by (codes "if(" ++ k) 41
word_end else_ h = refl
word_end endif h = refl
word_end (for_ k) h = ends_by (codes "for(" ++ k) 41
word_end sep h = refl
word_end endfor h = refl
word_end (partial path) h = ap ends_with_dash (sym (append_assoc (codes "partial(\"" ++ path) (codes "\"") (codes ")"))) ∙ ends_by ((codes "partial(\"" ++ path) ++ codes "\"") 41

with_found : (left : Bool) (word : Word) (right : Bool) → is_proper word ≡ true → tag_with left (word_text word ++ dash right) (before_end (codes "-") (word_text word ++ dash right)) ≡ Some (tag left word right)
with_found left word true h = rw (before_end_finds (codes "-") (word_text word), word_found word h) refl
with_found left word false h = rw (append-nil (word_text word), no_end_dash (word_text word) (word_end word h), word_found word h) refl

pub tag_found : (left : Bool) (word : Word) (right : Bool) → is_proper word ≡ true → tag_of (tag_text left word right) ≡ Some (tag left word right)
unfolding tag_of
tag_found true word right h = ap (tag_after (tag_text true word right)) (after_front_finds (codes "-") (word_text word ++ dash right)) ∙ with_found true word right h
tag_found false word right h = rw (word_front word (dash right) h) (with_found false word right h)

-- no dollar sign stands inside a tag
abbrev pub no_dollar : ℕ → Bool
no_dollar c = not (c == 36)

key_no_dollar : (c : ℕ) → is_key_byte c ≡ true → no_dollar c ≡ true
key_no_dollar c h = by_test (c == 36) refl
  where
    by_test : (b : Bool) → c == 36 ≡ b → not b ≡ true
    by_test false e = refl
    by_test true e = no_false (let same : is_key_byte 36 ≡ true = ap is_key_byte (sym (eqb-true c 36 e)) ∙ h in same)

path_no_dollar : (c : ℕ) → not (c == 34 || c == 36) ≡ true → no_dollar c ≡ true
path_no_dollar c h = rw (or_second (c == 34) _ (not_true _ h)) refl

keys_no_dollar : (k : Bytes) → is_key k ≡ true → list_all no_dollar k ≡ true
keys_no_dollar k h = all_weaker is_key_byte no_dollar key_no_dollar k (key_bytes k h)

word_no_dollar : (word : Word) → is_proper word ≡ true → list_all no_dollar (word_text word) ≡ true
word_no_dollar (key k) h = keys_no_dollar k (first_true _ _ h)
word_no_dollar (if_ k) h = all_append no_dollar k (codes ")") (keys_no_dollar k h) refl
word_no_dollar else_ h = refl
word_no_dollar endif h = refl
word_no_dollar (for_ k) h = all_append no_dollar k (codes ")") (keys_no_dollar k h) refl
word_no_dollar sep h = refl
word_no_dollar endfor h = refl
word_no_dollar (partial path) h = all_append no_dollar path (codes "\")") (all_weaker (λ c. not (c == 34 || c == 36)) no_dollar path_no_dollar path (second_true _ _ h)) refl

dash_no_dollar : (b : Bool) → list_all no_dollar (dash b) ≡ true
dash_no_dollar true = refl
dash_no_dollar false = refl

pub tag_no_dollar : (left : Bool) (word : Word) (right : Bool) → is_proper word ≡ true → list_all no_dollar (tag_text left word right) ≡ true
tag_no_dollar left word right h = all_append no_dollar (dash left) (word_text word ++ dash right) (dash_no_dollar left) (all_append no_dollar (word_text word) (dash right) (word_no_dollar word h) (dash_no_dollar right))
