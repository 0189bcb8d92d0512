-- What stands inside a tag: keys that are no words, and paths of partials.
use Rattle.std.specs.Prelude.{Bool, ◌&&◌, ◌||◌, not, ◌==◌, List, [], ◌∷◌, codes, bytes_eq}
use Rattle.std.specs.List.{list_all, list_any}
use Rattle.hk_base.specs.Bytes.{Bytes}
use Rattle.hk_base.specs.Identifier.{is_path}
use Rattle.hk_base.specs.Key.{is_key}

-- the words that a bare key may not be
abbrev pub words : List Bytes
words = codes "if" ∷ codes "for" ∷ codes "partial" ∷ codes "else" ∷ codes "sep" ∷ codes "endif" ∷ codes "endfor" ∷ []

abbrev pub is_word : Bytes → Bool
is_word k = list_any (bytes_eq k) words

abbrev pub is_bare_key : Bytes → Bool
is_bare_key k = is_key k && not (is_word k)

-- an identifier's path without `"` and `$`
abbrev pub is_partial_path : Bytes → Bool
is_partial_path path = is_path path && list_all (λ c. not (c == 34 || c == 36)) path
