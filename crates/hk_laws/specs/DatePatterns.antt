-- Date patterns, as plain bytes and forms joined.
use Rattle.std.specs.Prelude.{◌≡◌, ◌≤◌, ℕ, Bool, true, List, [], ◌∷◌, ◌++◌, length, nat_lt, codes}
use Rattle.std.specs.List.{flat_map, list_all}
use Rattle.hk_base.specs.Bytes.{Bytes}
use Rattle.hk_meta.specs.DateFormat.{form_text}
use Rattle.hk_meta.specs.declared.date.Moment.{Moment}
use Rattle.hk_laws.specs.Runs.{is_of, is_outside}

-- a byte that stands for itself, or a percent sign and a letter
pub data PatternPart : Type 0 where
  plain : ℕ → PatternPart
  form : ℕ → PatternPart

abbrev pub pattern_text : PatternPart → Bytes
pattern_text (plain b) = b ∷ []
pattern_text (form letter) = codes "%" ++ (letter ∷ [])

abbrev pub is_pattern_part : PatternPart → Bool
is_pattern_part (plain b) = is_outside (codes "%") b
is_pattern_part (form letter) = is_of (codes "YmdHMSeBbAa%") letter

-- at most 256 bytes of ASCII, which are plain bytes and forms joined
pub record IsDatePattern (pattern : Bytes) : Type 0 where
  pub parts : List PatternPart
  pub spelled : pattern ≡ flat_map pattern_text parts
  pub fits : list_all is_pattern_part parts ≡ true
  pub short : length pattern ≤ 256
  pub ascii : list_all (λ b. nat_lt b 128) pattern ≡ true

-- what a part prints of a moment
abbrev pub part_printed : Moment → PatternPart → Bytes
part_printed moment (plain b) = b ∷ []
part_printed moment (form letter) = form_text moment letter

-- a pattern is accepted exactly where it is one
abbrev pub AcceptsPatterns : (Bytes → Bool) → Type 0
AcceptsPatterns accepts = (pattern : Bytes) → (accepts pattern ≡ true → IsDatePattern pattern) × (IsDatePattern pattern → accepts pattern ≡ true)

-- a pattern prints its parts, one after the other
abbrev pub PrintsParts : (Moment → Bytes → Bytes) → Type 0
PrintsParts print =
    (moment : Moment) (parts : List PatternPart) → list_all is_pattern_part parts ≡ true
    → print moment (flat_map pattern_text parts) ≡ flat_map (part_printed moment) parts
