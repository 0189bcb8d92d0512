-- How far tokens reach in a text, in the grammar's own words.
use Rattle.std.specs.Prelude.{◌≡◌, Bool, true, false, List, [], ◌∷◌, ◌++◌}
use Rattle.std.specs.List.{flat_map, list_all}
use Rattle.hk_base.specs.Bytes.{Bytes}
use Rattle.hk_template.specs.Token.{Token, token_text, is_token, texts_apart}
use Rattle.hk_template.specs.Cut.{cut}

-- no token that can stand in a template stands at the front of these bytes
abbrev pub NoToken : Bytes → Type 0
NoToken bytes = (t : Token) (rest : Bytes) → is_token t ≡ true → bytes ≡ token_text t ++ rest → ⊥

-- a dollar sign is left that begins no token
abbrev pub IsStuck : Bytes → Type 0
IsStuck [] = ⊥
IsStuck (c ∷ cs) = (c ≡ 36) × NoToken (c ∷ cs)

-- the text is spelled by these tokens and a rest, which is empty if they are the whole text, and else can't go on
pub record IsCut (bytes : Bytes) (tokens : List Token) (whole : Bool) : Type 0 where
  pub rest : Bytes
  pub spelled : bytes ≡ flat_map token_text tokens ++ rest
  pub proper : list_all is_token tokens ≡ true
  pub apart : texts_apart tokens ≡ true
  pub finished : whole ≡ true → rest ≡ []
  pub stuck : whole ≡ false → IsStuck rest

-- each text is cut as far as tokens reach
abbrev pub CutsAll : Type 0
CutsAll = (bytes : Bytes) → let c = cut bytes in IsCut bytes c.0 c.1
