-- Reading paths one after another.
use Rattle.std.specs.Prelude.{List, [], ◌∷◌, Option, Some, None}
use Rattle.std.specs.FinMap.{get}
use Rattle.hk_base.specs.Bytes.{Bytes, Files}

-- an entry in front, where the path is there
abbrev pub entry_front : Bytes → Option Bytes → List (Bytes × Bytes) → List (Bytes × Bytes)
entry_front path None rest = rest
entry_front path (Some bytes) rest = (path, bytes) ∷ rest

-- what the paths hold; one that is absent is left out
abbrev pub read_at : Files → List Bytes → List (Bytes × Bytes)
read_at m [] = []
read_at m (path ∷ paths) = entry_front path (get m path) (read_at m paths)
