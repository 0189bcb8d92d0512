-- The links of a cutting, and its text with a root before each root URL, as relations.
use Rattle.std.specs.Prelude.{◌≡◌, ◌⊎◌, List, [], ◌∷◌, ◌++◌, codes}
use Rattle.hk_base.specs.Bytes.{Bytes}
use Rattle.hk_html.specs.Part.{Part, mark, bare, valued, part_text}
use Rattle.hk_html.specs.Piece.{Piece, comment, tag, unfinished, other, piece_text}
use Rattle.hk_laws.specs.Letters.{SameLetters}
use Rattle.hk_laws.specs.Runs.{BeginsWith}
use Rattle.hk_laws.specs.Cuttings.{IsCutting}

-- the attributes that hold URLs
abbrev pub HoldsUrl : Bytes → Type 0
HoldsUrl name = SameLetters name (codes "href") ⊎ SameLetters name (codes "src")

-- the value is the first link where its attribute holds URLs, and the others are those of what comes after
pub record BeginsLinks (name value : Bytes) (After : List Bytes → Type 0) (links : List Bytes) : Type 0 where
  pub url : HoldsUrl name → (more : List Bytes) × (links ≡ value ∷ more) × After more
  pub none : (HoldsUrl name → ⊥) → After links

abbrev pub PartsLinks : List Part → List Bytes → Type 0
PartsLinks [] links = links ≡ []
PartsLinks (mark b ∷ parts) links = PartsLinks parts links
PartsLinks (bare text ∷ parts) links = PartsLinks parts links
PartsLinks (valued name between value close ∷ parts) links = BeginsLinks name value (PartsLinks parts) links

-- the links of finished tags, one tag after the other
abbrev pub HasLinks : List Piece → List Bytes → Type 0
HasLinks [] links = links ≡ []
HasLinks (comment text ∷ more) links = HasLinks more links
HasLinks (tag head parts raw ∷ more) links =
    (own : List Bytes) × (rest : List Bytes) × (links ≡ own ++ rest) × PartsLinks parts own × HasLinks more rest
HasLinks (unfinished text ∷ more) links = HasLinks more links
HasLinks (other b ∷ more) links = HasLinks more links

-- it begins with `/` and not with `//`
pub record IsRootUrl (url : Bytes) : Type 0 where
  pub slash : BeginsWith (codes "/") url
  pub one : BeginsWith (codes "//") url → ⊥

-- the root stands before the value where the attribute holds URLs and the value is a root URL
pub record IsRooted (root name between value close text : Bytes) : Type 0 where
  pub rooted : HoldsUrl name → IsRootUrl value → text ≡ name ++ (between ++ (root ++ (value ++ close)))
  pub kept : (HoldsUrl name → IsRootUrl value → ⊥) → text ≡ name ++ (between ++ (value ++ close))

abbrev pub PartRooted : Bytes → Part → Bytes → Type 0
PartRooted root (mark b) text = text ≡ part_text (mark b)
PartRooted root (bare spelling) text = text ≡ spelling
PartRooted root (valued name between value close) text = IsRooted root name between value close text

abbrev pub PartsRooted : Bytes → List Part → Bytes → Type 0
PartsRooted root [] text = text ≡ []
PartsRooted root (part ∷ parts) text = (own : Bytes) × (rest : Bytes) × (text ≡ own ++ rest) × PartRooted root part own × PartsRooted root parts rest

abbrev pub PieceRooted : Bytes → Piece → Bytes → Type 0
PieceRooted root (comment spelling) text = text ≡ spelling
PieceRooted root (tag head parts raw) text = (inner : Bytes) × (text ≡ head ++ (inner ++ (codes ">" ++ raw))) × PartsRooted root parts inner
PieceRooted root (unfinished spelling) text = text ≡ spelling
PieceRooted root (other b) text = text ≡ piece_text (other b)

-- the text of a cutting with the root before each root URL of a finished tag, and all other bytes as they are
abbrev pub HasRoots : Bytes → List Piece → Bytes → Type 0
HasRoots root [] text = text ≡ []
HasRoots root (piece ∷ more) text = (own : Bytes) × (rest : Bytes) × (text ≡ own ++ rest) × PieceRooted root piece own × HasRoots root more rest

-- the links of a text are those of its cutting
abbrev pub LinksOfEach : (Bytes → List Bytes) → Type 0
LinksOfEach links = (text : Bytes) (cut : List Piece) → IsCutting text cut → HasLinks cut (links text)

-- and so is the text with roots
abbrev pub RootsOfEach : (Bytes → Bytes → Bytes) → Type 0
RootsOfEach rooted = (root text : Bytes) (cut : List Piece) → IsCutting text cut → HasRoots root cut (rooted root text)
