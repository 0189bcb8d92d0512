-- The numbers of texts and of patterns.
use Rattle.std.specs.Prelude.{ℕ, suc, List, [], ◌∷◌, ◌++◌, length, map, Option, Some, None, option_map, bytes_eq, if◌then◌else◌}
use Rattle.hk_base.specs.Bytes.{Bytes}
use Rattle.hk_pattern.specs.declared.pattern.Pattern.{Pattern}
use Rattle.hk_forms.specs.PatternText.{text_of}

-- how many texts stand before the first that is this one
abbrev pub place_of : Bytes → List Bytes → Option ℕ
place_of text [] = None
place_of text (x ∷ xs) = if bytes_eq x text then Some 0 else option_map suc (place_of text xs)

abbrev pub texts_of : List Pattern → List Bytes
texts_of ps = map text_of ps

abbrev pub numbered_by : Option ℕ → List Pattern → Pattern → ℕ × List Pattern
numbered_by (Some n) ps p = (n, ps)
numbered_by None ps p = (length ps, ps ++ p ∷ [])

-- the number of a pattern among those so far, and the patterns then: a text that isn't there yet goes last
abbrev pub numbered : List Pattern → Pattern → ℕ × List Pattern
numbered ps p = numbered_by (place_of (text_of p) (texts_of ps)) ps p

abbrev pub with_name_by : Option ℕ → List Bytes → Bytes → List Bytes
with_name_by (Some n) names name = names
with_name_by None names name = names ++ name ∷ []

-- names with one more, unless it is there already
abbrev pub with_name : List Bytes → Bytes → List Bytes
with_name names name = with_name_by (place_of name names) names name
