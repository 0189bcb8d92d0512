-- Cutting a text into tokens from the left.
use Rattle.std.specs.Prelude.{ℕ, zero, suc, ◌+◌, ◌-◌, Bool, true, false, ◌==◌, nat_lt, if◌then◌else◌, List, [], ◌∷◌, length, take, drop, codes, bytes_eq, Option, Some, None}
use Rattle.std.specs.Option.{option_and_then, option_map}
use Rattle.std.specs.List.{position_or_len}
use Rattle.hk_base.specs.Bytes.{Bytes}
use Rattle.hk_base.specs.Key.{is_key}
use Rattle.hk_template.specs.Key.{is_bare_key, is_partial_path}
use Rattle.hk_template.specs.Token.{Word, key, if_, else_, endif, for_, sep, endfor, partial, Token, text, dollar, tag}

-- how many bytes stand before the first dollar sign
abbrev pub run_length : Bytes → ℕ
run_length bytes = position_or_len (λ c. c == 36) bytes

-- what follows a front
abbrev pub after_front : Bytes → Bytes → Option Bytes
after_front front bytes = if bytes_eq (take (length front) bytes) front then Some (drop (length front) bytes) else None

-- what comes before an end
abbrev pub before_end : Bytes → Bytes → Option Bytes
before_end end bytes =
    let count = length bytes - length end in
    if bytes_eq (drop count bytes) end then Some (take count bytes) else None

abbrev pub between : Bytes → Bytes → Bytes → Option Bytes
between front end bytes = option_and_then (before_end end) (after_front front bytes)

abbrev pub first_word : Option Word → Option Word → Option Word
first_word (Some word) later = Some word
first_word None later = later

abbrev pub fixed_word : Bytes → Option Word
fixed_word bytes =
    if bytes_eq bytes (codes "else") then Some else_
    else (if bytes_eq bytes (codes "endif") then Some endif
    else (if bytes_eq bytes (codes "sep") then Some sep
    else (if bytes_eq bytes (codes "endfor") then Some endfor
    else None)))

abbrev pub word_if : (Bytes → Word) → (Bytes → Bool) → Option Bytes → Option Word
word_if make test None = None
word_if make test (Some bytes) = if test bytes then Some (make bytes) else None

-- the word that these bytes spell
unfoldable pub word_of : Bytes → Option Word
word_of bytes =
    first_word (fixed_word bytes)
    (first_word (word_if if_ is_key (between (codes "if(") (codes ")") bytes))
    (first_word (word_if for_ is_key (between (codes "for(") (codes ")") bytes))
    (first_word (word_if partial is_partial_path (between (codes "partial(\"") (codes "\")") bytes))
    (word_if key is_bare_key (Some bytes)))))

-- a word with its right dash, if it has one
abbrev pub tag_with : Bool → Bytes → Option Bytes → Option Token
tag_with left bytes (Some front) = option_map (λ word. tag left word true) (word_of front)
tag_with left bytes None = option_map (λ word. tag left word false) (word_of bytes)

abbrev pub tag_after : Bytes → Option Bytes → Option Token
tag_after bytes (Some rest) = tag_with true rest (before_end (codes "-") rest)
tag_after bytes None = tag_with false bytes (before_end (codes "-") bytes)

-- the tag that these bytes spell between two dollar signs
unfoldable pub tag_of : Bytes → Option Token
tag_of bytes = tag_after bytes (after_front (codes "-") bytes)

-- the tag that ends at the next dollar sign, by how many bytes stand before it
abbrev pub tag_before : Bytes → ℕ → Option (Token × Bytes)
tag_before bytes count =
    if nat_lt count (length bytes) then option_map (λ t. (t, drop (count + 1) bytes)) (tag_of (take count bytes)) else None

-- what a dollar sign begins, by the bytes after it
abbrev pub after_dollar : Bytes → Option (Token × Bytes)
after_dollar [] = None
after_dollar (c ∷ cs) = if c == 36 then Some (dollar, cs) else tag_before (c ∷ cs) (run_length (c ∷ cs))

abbrev pub text_before : Bytes → ℕ → Token × Bytes
text_before bytes count = (text (take count bytes), drop count bytes)

-- the first token of a text, with what follows it
unfoldable pub token_at : Bytes → Option (Token × Bytes)
token_at [] = None
token_at (c ∷ cs) = if c == 36 then after_dollar cs else Some (text_before (c ∷ cs) (run_length (c ∷ cs)))

-- tokens from the left, and whether they are the whole text
abbrev pub Cuts : Type 0
Cuts = List Token × Bool

abbrev pub cut_on : (Bytes → Cuts) → Option (Token × Bytes) → Cuts
cut_on onward None = ([], false)
cut_on onward (Some (t, rest)) = let r = onward rest in (t ∷ r.0, r.1)

abbrev pub cut_by : ℕ → Bytes → Cuts
cut_by count [] = ([], true)
cut_by zero (c ∷ cs) = ([], false)
cut_by (suc count) (c ∷ cs) = cut_on (cut_by count) (token_at (c ∷ cs))

-- each token takes a byte at least, so as many turns as there are bytes are enough
unfoldable pub cut : Bytes → Cuts
cut bytes = cut_by (length bytes) bytes
