-- The tags that a text lists, and how a tag is written in a path.
use Rattle.std.specs.Prelude.{ℕ, ◌+◌, ◌-◌, ◌/◌, ◌%◌, Bool, ◌||◌, ◌==◌, nat_lt, List, [], ◌∷◌, length, take, drop, if◌then◌else◌}
use Rattle.std.specs.List.{flat_map, prefix_len, suffix_len, slice_split}
use Rattle.hk_base.specs.Bytes.{Bytes}
use Rattle.hk_forms.specs.Names.{is_name_byte}

-- ---- tags

-- the parts of a text between its commas
abbrev pub parts : Bytes → List Bytes
parts text = slice_split (λ b. b == 44) text

-- a space, a tab, an LF or a CR
abbrev pub is_blank : ℕ → Bool
is_blank b = (b == 32 || b == 9) || (b == 10 || b == 13)

abbrev pub from_front : Bytes → Bytes
from_front text = drop (prefix_len is_blank text) text

abbrev pub without_end : Bytes → Bytes
without_end text = take (length text - suffix_len is_blank text) text

-- a text without the blanks at its ends
abbrev pub trimmed : Bytes → Bytes
trimmed text = without_end (from_front text)

-- a part without the blanks at its ends is a tag, unless nothing is left
abbrev pub tag_of : Bytes → List Bytes
tag_of part = if length (trimmed part) == 0 then [] else trimmed part ∷ []

-- the tags that a text lists, those of its parts in turn
unfoldable pub tags_in : Bytes → List Bytes
tags_in text = flat_map tag_of (parts text)

-- ---- in a path

-- a digit of base 16, in lower case
abbrev pub hex_digit : ℕ → ℕ
hex_digit d = if nat_lt d 10 then 48 + d else 87 + d

abbrev pub slug_byte : ℕ → Bytes
slug_byte b = if is_name_byte b then b ∷ [] else 46 ∷ hex_digit (b / 16) ∷ hex_digit (b % 16) ∷ []

-- a tag with each byte but ASCII letters, digits, `-` and `_` written as `.` and two digits
unfoldable pub slug : Bytes → Bytes
slug tag = flat_map slug_byte tag
