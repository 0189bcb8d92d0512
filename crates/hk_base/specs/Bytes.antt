-- Texts, paths and folders as values.
use Rattle.std.specs.Prelude.{ℕ, Bool, List, map}
use Rattle.std.specs.Ordering.{nat_cmp}
use Rattle.std.specs.Cmp.Lexicographic.{slice_cmp}
use Rattle.std.specs.FinMap.{FinMap}
use Rattle.std.specs.FinMap.Entries.{is_sorted}

-- the bytes of a text
abbrev pub Bytes : Type 0
Bytes = List ℕ

-- a folder: what each path holds, the paths in the order of their bytes
abbrev pub Files : Type 0
Files = FinMap (slice_cmp nat_cmp) (List ℕ)

-- the paths of a list of files
abbrev pub paths_of : List (Bytes × Bytes) → List Bytes
paths_of es = map (λ e. e.0) es

-- whether paths strictly ascend
abbrev pub ascends : List Bytes → Bool
ascends paths = is_sorted (slice_cmp nat_cmp) (map (λ path. (path, path)) paths)
