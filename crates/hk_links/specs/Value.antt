-- Which values of links stay inside the site, and the paths in them.
use Rattle.std.specs.Prelude.{ℕ, Bool, ◌==◌, ◌||◌, ◌&&◌, not, nat_eq, codes, slice_index}
use Rattle.std.specs.List.{starts_with, take_while}
use Rattle.std.specs.Char.{is_ascii_alphabetic, is_ascii_alphanumeric}
use Rattle.hk_base.specs.Bytes.{Bytes}
use Rattle.hk_html.specs.Kind.{after_run}

-- an ASCII letter, a digit, `+`, `-` or `.`
abbrev pub is_scheme_byte : ℕ → Bool
is_scheme_byte b = is_ascii_alphanumeric b || b == 43 || b == 45 || b == 46

-- the first byte, or NUL of no bytes
abbrev pub first : Bytes → ℕ
first text = slice_index text 0

-- an ASCII letter, and then such bytes up to a `:`
abbrev pub has_scheme : Bytes → Bool
has_scheme value = is_ascii_alphabetic (first value) && first (after_run is_scheme_byte value) == 58

-- a value that begins with neither `//` nor a scheme
abbrev pub is_internal : Bytes → Bool
is_internal value = not (starts_with nat_eq value (codes "//") || has_scheme value)

abbrev pub is_other : ℕ → ℕ → Bool
is_other mark b = not (b == mark)

-- what stands before the first such byte, or all
abbrev pub before : ℕ → Bytes → Bytes
before mark text = take_while (is_other mark) text

-- what stands before the first `#`, and of that what stands before the first `?`
abbrev pub path_of : Bytes → Bytes
path_of value = before 63 (before 35 value)
