-- The parts of a tag, each well-formed for the text after it.
use Rattle.std.specs.Prelude.{◌≡◌, ℕ, Bool, true, ◌⊎◌, List, [], ◌∷◌, ◌++◌, codes}
use Rattle.std.specs.List.{list_all}
use Rattle.hk_base.specs.Bytes.{Bytes}
use Rattle.hk_html.specs.Part.{Part, mark, bare, valued, parts_text}
use Rattle.hk_laws.specs.Runs.{is_of, is_outside, BeginsOther, IsLongest}

-- space, tab, LF, CR and form feed
abbrev pub whites : Bytes
whites = codes " \t\n\r\u{c}"

abbrev pub is_white_byte : ℕ → Bool
is_white_byte = is_of whites

-- white, `/` and `>` end the name of a tag, and `=` the name of an attribute, too
abbrev pub is_tag_name_byte : ℕ → Bool
is_tag_name_byte = is_outside (codes " \t\n\r\u{c}/>")

abbrev pub is_attribute_name_byte : ℕ → Bool
is_attribute_name_byte = is_outside (codes " \t\n\r\u{c}/>=")

-- white and `>` end a value without quotes
abbrev pub is_open_value_byte : ℕ → Bool
is_open_value_byte = is_outside (codes " \t\n\r\u{c}>")

abbrev pub is_quote_mark : ℕ → Bool
is_quote_mark = is_of (codes "\"'")

-- the name of an attribute: one byte that is no white, `/` or `>`, and the longest run after it
pub record IsAttributeName (name rest : Bytes) : Type 0 where
  pub head : ℕ
  pub more : Bytes
  pub spelled : name ≡ head ∷ more
  pub begins : is_tag_name_byte head ≡ true
  pub longest : IsLongest is_attribute_name_byte more rest

-- an attribute without a value: its name and the white after it, and then no `=`
pub record IsBare (text rest : Bytes) : Type 0 where
  pub name : Bytes
  pub white : Bytes
  pub spelled : text ≡ name ++ white
  pub named : IsAttributeName name (white ++ rest)
  pub spaced : IsLongest is_white_byte white rest
  pub unsigned : BeginsOther (is_of (codes "=")) rest

-- a name, and what stands between it and its value: white, `=` and white
pub record IsSigned (name between rest : Bytes) : Type 0 where
  pub before : Bytes
  pub after : Bytes
  pub spelled : between ≡ before ++ (codes "=" ++ after)
  pub named : IsAttributeName name (between ++ rest)
  pub white : list_all is_white_byte before ≡ true
  pub spaced : IsLongest is_white_byte after rest

-- a value up to the next quote of its kind, with that quote
pub record IsQuoted (name between value close rest : Bytes) : Type 0 where
  pub quote : ℕ
  pub sign : Bytes
  pub spelled : between ≡ sign ++ (quote ∷ [])
  pub signed : IsSigned name sign (quote ∷ (value ++ (close ++ rest)))
  pub kind : is_quote_mark quote ≡ true
  pub inside : list_all (is_outside (quote ∷ [])) value ≡ true
  pub closed : close ≡ quote ∷ []

-- a value without quotes
pub record IsUnquoted (name between value close rest : Bytes) : Type 0 where
  pub signed : IsSigned name between (value ++ rest)
  pub plain : BeginsOther is_quote_mark (value ++ rest)
  pub longest : IsLongest is_open_value_byte value rest
  pub closed : close ≡ []

-- the part of a tag is well-formed for the text after it
abbrev pub FitsPart : Part → Bytes → Type 0
FitsPart (mark b) rest = is_of (codes " \t\n\r\u{c}/") b ≡ true
FitsPart (bare text) rest = IsBare text rest
FitsPart (valued name between value close) rest = IsQuoted name between value close rest ⊎ IsUnquoted name between value close rest

abbrev pub FitsParts : List Part → Bytes → Type 0
FitsParts [] rest = Unit {0}
FitsParts (part ∷ parts) rest = FitsPart part (parts_text parts ++ rest) × FitsParts parts rest
