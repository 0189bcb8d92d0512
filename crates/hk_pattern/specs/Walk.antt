-- What the walk over pieces and path keeps.
use Rattle.std.specs.Prelude.{◌≡◌, ◌<◌, ◌≤◌, Bool, true, false, ◌==◌, List, [], ◌∷◌, length, Option, Some, None, if◌then◌else◌}
use Rattle.hk_base.specs.Bytes.{Bytes}
use Rattle.hk_pattern.specs.declared.piece.Piece.{Piece}
use Rattle.hk_pattern.specs.declared.piece.Piece.TheVariants.{Byte, Star, Stars}
use Rattle.hk_pattern.specs.declared.walk.Head.{Head}
use Rattle.hk_pattern.specs.declared.walk.Head.TheVariants as head
use Rattle.hk_pattern.specs.declared.walk.Walk.{Walk}
use Rattle.hk_pattern.specs.declared.walk.Walk.TheVariants as walk
use Rattle.hk_pattern.specs.Glob.{covers}

-- the later pieces at the later path decide for the earlier ones: as they stand, and with any cut after a `*` or a `**`
pub record Keeps (ps : List Piece) (path : Bytes) (qs : List Piece) (rest : Bytes) : Type 0 where
  pub same : covers qs rest ≡ covers ps path
  pub star : covers (Star ∷ ps) path ≡ true → covers (Star ∷ qs) rest ≡ true
  pub stars : covers (Stars ∷ ps) path ≡ true → covers (Stars ∷ qs) rest ≡ true

-- whether the first piece is the first byte
abbrev pub begins : List Piece → Bytes → Bool
begins (Byte b ∷ ps) (c ∷ cs) = b == c
begins ps cs = false

-- what the pieces up to a `*`, a `**` or the end say
abbrev pub Headed : List Piece → Bytes → Head → Type 0
Headed ps path head.Covered = covers ps path ≡ true
Headed ps path (head.Star qs rest) = Keeps ps path (Star ∷ qs.now) rest.now × ((length qs.now < length ps) × (length rest.now ≤ length path))
Headed ps path (head.Stars qs rest) = Keeps ps path (Stars ∷ qs.now) rest.now × ((length qs.now < length ps) × (length rest.now ≤ length path))
Headed ps path head.TooShort = covers (Stars ∷ ps) path ≡ false
Headed ps path head.Differs = (covers ps path ≡ false) × (0 < length path)

-- what the pieces up to a `**` or the end say
abbrev pub Walked : List Piece → Bytes → Walk → Type 0
Walked ps path walk.Covered = covers ps path ≡ true
Walked ps path (walk.Stars qs rest) =
    ((covers (Stars ∷ qs.now) rest.now ≡ covers ps path) × (covers (Stars ∷ qs.now) rest.now ≡ covers (Stars ∷ ps) path))
    × ((length qs.now < length ps) × (length rest.now ≤ length path))
Walked ps path walk.TooShort = covers (Stars ∷ ps) path ≡ false
Walked ps path walk.Crossed = covers (Star ∷ ps) path ≡ false
Walked ps path walk.Differs = (covers ps path ≡ false) × (0 < length path)

-- what stands after the first slash
abbrev pub past_slash : Bytes → Option Bytes
past_slash [] = None
past_slash (c ∷ cs) = if c == 47 then Some cs else past_slash cs
