-- Quoted scalars, as spellings of their values.
use Rattle.std.specs.Prelude.{◌≡◌, ℕ, Bool, true, false, ◌==◌, if◌then◌else◌, List, [], ◌∷◌, ◌++◌, codes, Option, Some}
use Rattle.std.specs.List.{flat_map, list_all}
use Rattle.hk_base.specs.Bytes.{Bytes}
use Rattle.hk_laws.specs.Runs.{is_of, is_outside, BeginsOther}

-- what may stand between double quotes: a byte as it is, or one of four escapes
pub data Letter : Type 0 where
  plain : ℕ → Letter
  quote : Letter
  backslash : Letter
  line_feed : Letter
  tab : Letter

abbrev pub letter_text : Letter → Bytes
letter_text (plain b) = b ∷ []
letter_text quote = codes "\\\""
letter_text backslash = codes "\\\\"
letter_text line_feed = codes "\\n"
letter_text tab = codes "\\t"

abbrev pub letter_value : Letter → Bytes
letter_value (plain b) = b ∷ []
letter_value quote = codes "\""
letter_value backslash = codes "\\"
letter_value line_feed = codes "\n"
letter_value tab = codes "\t"

abbrev pub is_letter : Letter → Bool
is_letter (plain b) = is_outside (codes "\"\\") b
is_letter quote = true
is_letter backslash = true
is_letter line_feed = true
is_letter tab = true

-- after a double quote, the text spells this value up to the closing quote, and this rest stands after it
pub record IsDoubleQuoted (text value rest : Bytes) : Type 0 where
  pub letters : List Letter
  pub fits : list_all is_letter letters ≡ true
  pub spelled : text ≡ flat_map letter_text letters ++ (codes "\"" ++ rest)
  pub means : value ≡ flat_map letter_value letters

-- between single quotes two of them stand for one
abbrev pub doubled : ℕ → Bytes
doubled b = if b == 39 then codes "''" else b ∷ []

-- the same after a single quote
pub record IsSingleQuoted (text value rest : Bytes) : Type 0 where
  pub spelled : text ≡ flat_map doubled value ++ (codes "'" ++ rest)
  pub ended : BeginsOther (is_of (codes "'")) rest

-- a quoted text is read exactly where it spells its value
abbrev pub ReadsQuoted : (Bytes → Option (Bytes × Bytes)) → (Bytes → Bytes → Bytes → Type 0) → Type 0
ReadsQuoted read Spells =
    (text value rest : Bytes) → (read text ≡ Some (value, rest) → Spells text value rest) × (Spells text value rest → read text ≡ Some (value, rest))

-- a value between double quotes, with its escapes
abbrev pub escaped : ℕ → Bytes
escaped b =
    if b == 34 then codes "\\\""
    else (if b == 92 then codes "\\\\"
    else (if b == 10 then codes "\\n"
    else (if b == 9 then codes "\\t"
    else b ∷ [])))

abbrev pub double_quoted : Bytes → Bytes
double_quoted value = codes "\"" ++ (flat_map escaped value ++ codes "\"")

abbrev pub single_quoted : Bytes → Bytes
single_quoted value = codes "'" ++ (flat_map doubled value ++ codes "'")

-- what is printed between quotes is read back, in lists too
abbrev pub ReadsBack : (Bool → Bytes → Option (Bytes × Bool)) → Type 0
ReadsBack read =
    (in_list : Bool) (value : Bytes)
    → (read in_list (double_quoted value) ≡ Some (value, false)) × (read in_list (single_quoted value) ≡ Some (value, false))
