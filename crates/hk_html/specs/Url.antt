-- The URL of a target.
use Rattle.std.specs.Prelude.{ℕ, ◌+◌, ◌/◌, ◌%◌, ◌==◌, Bool, ◌||◌, [], ◌∷◌, nat_lt, if◌then◌else◌}
use Rattle.std.specs.List.{flat_map}
use Rattle.std.specs.Char.{is_ascii_alphanumeric}
use Rattle.hk_base.specs.Bytes.{Bytes}

-- an ASCII letter, a digit, `-`, `.`, `_`, `~` or `/`
abbrev pub is_plain : ℕ → Bool
is_plain b = is_ascii_alphanumeric b || b == 45 || b == 46 || b == 95 || b == 126 || b == 47

-- a digit from 0 to 15, in upper case
abbrev pub hex_digit : ℕ → ℕ
hex_digit d = if nat_lt d 10 then 48 + d else 55 + d

-- a plain byte as it is, any other as `%` and two digits
abbrev pub escaped : ℕ → Bytes
escaped b = if is_plain b then b ∷ [] else 37 ∷ hex_digit (b / 16) ∷ hex_digit (b % 16) ∷ []

-- `/` and the target, escaped
abbrev pub url_of : Bytes → Bytes
url_of target = 47 ∷ flat_map escaped target
