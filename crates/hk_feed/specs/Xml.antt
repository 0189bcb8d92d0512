-- Bytes as text of an XML document, and that text read again.
use Rattle.std.specs.Prelude.{ℕ, Bool, ◌&&◌, ◌||◌, not, ◌==◌, nat_eq, nat_le, List, [], ◌∷◌, zero, suc, Option, Some, None, filter, codes, chars, encode_utf8, encode_utf8_all, if◌then◌else◌}
use Rattle.std.specs.List.{flat_map, starts_with}
use Rattle.std.specs.Str.Lossy.{utf8_lossy}
use Rattle.hk_base.specs.Bytes.{Bytes}

-- a character that stays: none below 32 but tab, LF and CR, and neither U+FFFE nor U+FFFF
abbrev pub is_kept : ℕ → Bool
is_kept c = (nat_le 32 c || c == 9 || c == 10 || c == 13) && not (c == 65534 || c == 65535)

-- the characters that stay of a text, with U+FFFD for what is no UTF-8
abbrev pub kept_chars : Bytes → List ℕ
kept_chars bytes = filter is_kept (chars (utf8_lossy bytes))

-- a character as it is, but five of them by a name
abbrev pub escaped : ℕ → Bytes
escaped c =
    if c == 38 then codes "&amp;"
    else (if c == 60 then codes "&lt;"
    else (if c == 62 then codes "&gt;"
    else (if c == 34 then codes "&quot;"
    else (if c == 39 then codes "&#39;"
    else encode_utf8 c))))

-- the text of an XML document that stands for these bytes
unfoldable pub xml : Bytes → Bytes
xml bytes = flat_map escaped (kept_chars bytes)

-- what a character is written as
abbrev pub text_of_char : ℕ → Bytes
text_of_char c = if is_kept c then escaped c else []

-- the character whose name goes on so after its `&`, and how many bytes follow the `&` in it
abbrev pub named : Bytes → Option (ℕ × ℕ)
named bytes =
    if starts_with nat_eq bytes (codes "amp;") then Some (38, 4)
    else (if starts_with nat_eq bytes (codes "lt;") then Some (60, 3)
    else (if starts_with nat_eq bytes (codes "gt;") then Some (62, 3)
    else (if starts_with nat_eq bytes (codes "quot;") then Some (34, 5)
    else (if starts_with nat_eq bytes (codes "#39;") then Some (39, 4)
    else None))))

abbrev pub name_at : ℕ → Bytes → Option (ℕ × ℕ)
name_at c bytes = if c == 38 then named bytes else None

-- a character in place of its name, or a byte as it is, and what follows
abbrev pub replaced_by : ℕ → (ℕ → Bytes) → Option (ℕ × ℕ) → Bytes
replaced_by c later None = c ∷ later 0
replaced_by c later (Some name) = name.0 ∷ later name.1

-- the text with each name replaced, from the left, after `passed` bytes of a name
abbrev pub unescaped_after : ℕ → Bytes → Bytes
unescaped_after passed [] = []
unescaped_after (suc passed) (c ∷ cs) = unescaped_after passed cs
unescaped_after zero (c ∷ cs) = replaced_by c (λ passed. unescaped_after passed cs) (name_at c cs)

-- the text with the five names replaced, in one pass from the left
abbrev pub unescaped : Bytes → Bytes
unescaped text = unescaped_after 0 text

-- the bytes as `from_utf8_lossy` reads them, without the characters that `xml` leaves out
abbrev pub kept : Bytes → Bytes
kept bytes = encode_utf8_all (kept_chars bytes)
