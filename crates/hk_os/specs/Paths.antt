-- Paths of the system.
use Rattle.std.specs.Prelude.{[], ◌∷◌, ◌++◌}
use Rattle.hk_base.specs.Bytes.{Bytes}

-- a name in a folder: between them stands a slash, unless one of them is empty
abbrev pub path_below : Bytes → Bytes → Bytes
path_below [] name = name
path_below folder [] = folder
path_below folder name = folder ++ 47 ∷ name
