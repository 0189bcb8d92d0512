-- The cutting of an HTML text into pieces, as a relation.
use Rattle.std.specs.Prelude.{◌≡◌, ℕ, ◌⊎◌, List, [], ◌∷◌, ◌++◌, codes}
use Rattle.std.specs.Char.{is_ascii_alphabetic}
use Rattle.std.specs.List.{flat_map}
use Rattle.hk_base.specs.Bytes.{Bytes}
use Rattle.hk_html.specs.Part.{Part, parts_text}
use Rattle.hk_html.specs.Piece.{Piece, comment, tag, unfinished, other, piece_text}
use Rattle.hk_laws.specs.Letters.{SameLetters}
use Rattle.hk_laws.specs.Runs.{Begins, IsLongest, BeginsWith, NoneBefore, IsBeforeFirst}
use Rattle.hk_laws.specs.Tags.{is_tag_name_byte, FitsParts}

-- `<!--`, what stands before the first `-->` after it, and that `-->`
pub record IsClosedComment (text rest : Bytes) : Type 0 where
  pub inside : Bytes
  pub spelled : text ≡ codes "<!--" ++ (inside ++ codes "-->")
  pub first : NoneBefore (BeginsWith (codes "-->")) inside (codes "-->" ++ rest)

-- the rest of the text where no `-->` comes
pub record IsOpenComment (text rest : Bytes) : Type 0 where
  pub inside : Bytes
  pub spelled : text ≡ codes "<!--" ++ inside
  pub last : rest ≡ []
  pub endless : NoneBefore (BeginsWith (codes "-->")) inside []

-- the name of a tag: it begins with a letter and is as long as it can be
pub record IsTagName (name rest : Bytes) : Type 0 where
  pub letter : Begins is_ascii_alphabetic name
  pub longest : IsLongest is_tag_name_byte name rest

-- `</` and the same name
pub record IsEndTag (name text : Bytes) : Type 0 where
  pub again : Bytes
  pub rest : Bytes
  pub spelled : text ≡ codes "</" ++ (again ++ rest)
  pub longest : IsLongest is_tag_name_byte again rest
  pub same : SameLetters again name

abbrev pub HasRawText : Bytes → Type 0
HasRawText name = SameLetters name (codes "script") ⊎ SameLetters name (codes "style")

-- after the tag `script` or `style` all before the first end tag, and after any other none
pub record IsRawText (name raw rest : Bytes) : Type 0 where
  pub some : HasRawText name → IsBeforeFirst (IsEndTag name) raw rest
  pub none : (HasRawText name → ⊥) → raw ≡ []

-- `<` and a name, parts up to the first `>` between parts, and raw text
pub record IsTag (head : Bytes) (parts : List Part) (raw rest : Bytes) : Type 0 where
  pub name : Bytes
  pub spelled : head ≡ codes "<" ++ name
  pub named : IsTagName name (parts_text parts ++ (codes ">" ++ (raw ++ rest)))
  pub parted : FitsParts parts (codes ">" ++ (raw ++ rest))
  pub raw_text : IsRawText name raw rest

-- `<`, a name and the rest of the text, where no `>` comes between parts
pub record IsUnfinished (text rest : Bytes) : Type 0 where
  pub name : Bytes
  pub left : Bytes
  pub spelled : text ≡ codes "<" ++ (name ++ left)
  pub last : rest ≡ []
  pub named : IsTagName name left
  pub endless : (parts : List Part) (more : Bytes) → left ≡ parts_text parts ++ (codes ">" ++ more) → FitsParts parts (codes ">" ++ more) → ⊥

-- a byte that begins neither a comment nor a tag
pub record IsOther (b : ℕ) (rest : Bytes) : Type 0 where
  pub no_comment : BeginsWith (codes "<!--") (b ∷ rest) → ⊥
  pub no_tag : (more : Bytes) → b ∷ rest ≡ codes "<" ++ more → Begins is_ascii_alphabetic more → ⊥

-- the piece is well-formed for the text after it
abbrev pub FitsPiece : Piece → Bytes → Type 0
FitsPiece (comment text) rest = IsClosedComment text rest ⊎ IsOpenComment text rest
FitsPiece (tag head parts raw) rest = IsTag head parts raw rest
FitsPiece (unfinished text) rest = IsUnfinished text rest
FitsPiece (other b) rest = IsOther b rest

abbrev pub FitsPieces : List Piece → Type 0
FitsPieces [] = Unit {0}
FitsPieces (piece ∷ more) = FitsPiece piece (flat_map piece_text more) × FitsPieces more

-- the pieces joined are the text, and each is well-formed for the text after it
pub record IsCutting (text : Bytes) (cut : List Piece) : Type 0 where
  pub joined : text ≡ flat_map piece_text cut
  pub fits : FitsPieces cut

-- a text has one cutting, which is the one that links and roots are defined by
abbrev pub CutsEach : (Bytes → List Piece) → Type 0
CutsEach scan = (text : Bytes) → IsCutting text (scan text)

abbrev pub OneCutting : Type 0
OneCutting = (text : Bytes) (one another : List Piece) → IsCutting text one → IsCutting text another → one ≡ another
