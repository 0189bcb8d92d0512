-- Kinds of bytes, runs of them, and names without regard to case.
use Rattle.std.specs.Prelude.{ℕ, Bool, not, ◌==◌, ◌||◌, drop, slice_index}
use Rattle.std.specs.List.{prefix_len}
use Rattle.hk_base.specs.Bytes.{Bytes}

-- space, tab, LF, CR or form feed
abbrev pub is_white : ℕ → Bool
is_white b = b == 32 || b == 9 || b == 10 || b == 13 || b == 12

-- white, `/` and `>` end the name of a tag
abbrev pub is_tag_byte : ℕ → Bool
is_tag_byte b = not (is_white b || b == 47 || b == 62)

-- white, `/`, `>` and `=` end the name of an attribute
abbrev pub is_attribute_byte : ℕ → Bool
is_attribute_byte b = not (is_white b || b == 47 || b == 62 || b == 61)

-- white and `>` end a value without quotes
abbrev pub is_value_byte : ℕ → Bool
is_value_byte b = not (is_white b || b == 62)

abbrev pub is_quote : ℕ → Bool
is_quote b = b == 34 || b == 39

abbrev pub is_other : ℕ → ℕ → Bool
is_other quote b = not (b == quote)

-- the first byte, or NUL of no bytes
abbrev pub first : Bytes → ℕ
first text = slice_index text 0

-- what stands after the longest run of bytes that pass
abbrev pub after_run : (ℕ → Bool) → Bytes → Bytes
after_run p text = drop (prefix_len p text) text
