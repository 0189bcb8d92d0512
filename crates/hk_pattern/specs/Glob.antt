-- Which paths a glob covers.
use Rattle.std.specs.Prelude.{◌≡◌, ◌≢◌, ℕ, Bool, true, false, ◌&&◌, ◌||◌, not, ◌==◌, if◌then◌else◌, List, [], ◌∷◌, ◌++◌, length, nat_lt, Result, Ok, Err}
use Rattle.std.specs.List.{AllByRecursion}
use Rattle.hk_base.specs.Bytes.{Bytes}
use Rattle.hk_pattern.specs.declared.glob.GlobFault.{GlobFault}
use Rattle.hk_pattern.specs.declared.glob.GlobFault.TheVariants.{TooLong}
use Rattle.hk_pattern.specs.declared.piece.Piece.{Piece}
use Rattle.hk_pattern.specs.declared.piece.Piece.TheVariants.{Byte, Star, Stars}

-- the pieces of a glob, from the left: `\` with a following byte is that byte, `**` any bytes, `*` any bytes but `/`
abbrev pub pieces : Bytes → List Piece
pieces [] = []
pieces (b ∷ []) = (if b == 42 then Star else Byte b) ∷ []
pieces (b ∷ c ∷ cs) =
    if b == 92 then Byte c ∷ pieces cs
    else (if b == 42 then (if c == 42 then Stars ∷ pieces cs else Star ∷ pieces (c ∷ cs))
    else Byte b ∷ pieces (c ∷ cs))

abbrev pub is_byte : Piece → ℕ → Bool
is_byte (Byte b) c = b == c
is_byte Star c = false
is_byte Stars c = false

-- the path can be cut into parts that match the pieces in turn
abbrev pub Covers : List Piece → Bytes → Type 0
Covers [] path = path ≡ []
Covers (Byte b ∷ ps) path = (rest : Bytes) × (path ≡ b ∷ rest) × Covers ps rest
Covers (Star ∷ ps) path = (part : Bytes) × (rest : Bytes) × (path ≡ part ++ rest) × AllByRecursion (λ c. c ≢ 47) part × Covers ps rest
Covers (Stars ∷ ps) path = (part : Bytes) × (rest : Bytes) × (path ≡ part ++ rest) × Covers ps rest

-- some cut of the path: a part of bytes that pass, and a rest
abbrev pub some_cut : (ℕ → Bool) → (Bytes → Bool) → Bytes → Bool
some_cut passes rest [] = rest []
some_cut passes rest (c ∷ cs) = rest (c ∷ cs) || (passes c && some_cut passes rest cs)

abbrev pub headed : ℕ → (Bytes → Bool) → Bytes → Bool
headed b rest [] = false
headed b rest (c ∷ cs) = (b == c) && rest cs

abbrev pub is_inner : ℕ → Bool
is_inner byte = not (byte == 47)

abbrev pub is_any : ℕ → Bool
is_any byte = true

-- the same as a test
abbrev pub covers : List Piece → Bytes → Bool
covers [] [] = true
covers [] (c ∷ cs) = false
covers (Byte b ∷ ps) path = headed b (covers ps) path
covers (Star ∷ ps) path = some_cut is_inner (covers ps) path
covers (Stars ∷ ps) path = some_cut is_any (covers ps) path

-- the glob of a text, which is seen as the text, or its fault
abbrev pub read_glob : Bytes → Result Bytes GlobFault
read_glob text = if nat_lt 1024 (length text) then Err TooLong else Ok text
