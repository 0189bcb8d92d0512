-- What a header line is.
use Rattle.std.specs.Prelude.{ℕ, Bool, true, false, ◌&&◌, ◌||◌, ◌==◌, nat_le, if◌then◌else◌, [], ◌∷◌, take, drop, Option, Some, None}
use Rattle.std.specs.List.{prefix_len}
use Rattle.hk_base.specs.Bytes.{Bytes}
use Rattle.hk_meta.specs.Scalar.{Scalar, is_blank, skip_blanks, is_ignored, scalar}

-- a line that says nothing, one more member of a list, a key with its value or with a list that follows, or a line that
-- is refused
pub data Line : Type 0 where
  ignored : Line
  member : Bytes → Line
  key_line : Bytes → Option Bytes → Line
  refused : Line

-- after a dash or a colon: the end, or a blank
abbrev pub begins_value : Bytes → Bool
begins_value [] = true
begins_value (c ∷ cs) = is_blank c

-- what follows a mark that a value may follow
abbrev pub after_mark : ℕ → Bytes → Option Bytes
after_mark mark [] = None
after_mark mark (c ∷ cs) = if (c == mark) && begins_value cs then Some cs else None

abbrev pub member_by : Option Scalar → Line
member_by None = refused
member_by (Some s) = member s.0

-- ASCII letters and digits, `_`, `-` and `.`
abbrev pub is_key_byte : ℕ → Bool
is_key_byte c =
    (nat_le 97 c && nat_le c 122) || (nat_le 65 c && nat_le c 90) || (nat_le 48 c && nat_le c 57)
    || (c == 95) || (c == 45) || (c == 46)

abbrev pub key_len : Bytes → ℕ
key_len line = prefix_len is_key_byte line

-- a plain scalar without bytes is no value: a list follows
abbrev pub value_by : Bytes → Bool → Option Bytes
value_by [] true = None
value_by [] false = Some []
value_by (c ∷ cs) plain = Some (c ∷ cs)

abbrev pub key_by : Bytes → Option Scalar → Line
key_by key None = refused
key_by key (Some s) = key_line key (value_by s.0 s.1)

abbrev pub key_then : Bytes → Option Bytes → Line
key_then key None = refused
key_then key (Some text) = key_by key (scalar false text)

-- a key in the first column, blanks, a colon, and a value or none
unfoldable pub key_line_of : Bytes → Line
key_line_of line =
    if key_len line == 0 then refused
    else key_then (take (key_len line) line) (after_mark 58 (skip_blanks (drop (key_len line) line)))

-- blanks, a dash, and a value or none; else a key line
abbrev pub dash_or_key : Bytes → Option Bytes → Line
dash_or_key line None = key_line_of line
dash_or_key line (Some text) = member_by (scalar true text)

unfoldable pub line_of : Bytes → Line
line_of line = if is_ignored line then ignored else dash_or_key line (after_mark 45 (skip_blanks line))
