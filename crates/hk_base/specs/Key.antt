-- What a key is.
use Rattle.std.specs.Prelude.{ℕ, Bool, false, ◌&&◌, ◌||◌, not, ◌==◌, nat_le, [], ◌∷◌, length}
use Rattle.std.specs.List.{list_all}
use Rattle.hk_base.specs.Bytes.{Bytes}

-- an ASCII letter or `_`
abbrev pub is_letter : ℕ → Bool
is_letter c = (nat_le 97 c && nat_le c 122) || ((nat_le 65 c && nat_le c 90) || c == 95)

-- a byte that a key may go on with
abbrev pub is_key_byte : ℕ → Bool
is_key_byte c = is_letter c || ((nat_le 48 c && nat_le c 57) || (c == 45 || c == 46))

abbrev pub begins_with_letter : Bytes → Bool
begins_with_letter [] = false
begins_with_letter (c ∷ cs) = is_letter c

abbrev pub ends_with_dash : Bytes → Bool
ends_with_dash [] = false
ends_with_dash (c ∷ []) = c == 45
ends_with_dash (c ∷ d ∷ cs) = ends_with_dash (d ∷ cs)

-- begins with a letter or `_`, goes on with key bytes, doesn't end in `-`, and has at most 64 bytes
abbrev pub is_key : Bytes → Bool
is_key k = begins_with_letter k && (list_all is_key_byte k && (not (ends_with_dash k) && nat_le (length k) 64))
