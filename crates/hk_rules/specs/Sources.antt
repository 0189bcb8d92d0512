-- The files that items are made of.
use Rattle.std.specs.Prelude.{List, ◌++◌, not, map, filter, fold, Option, Some, None, bytes_eq, if◌then◌else◌}
use Rattle.hk_base.specs.Bytes.{Bytes}
use Rattle.hk_rules.specs.Resource.{is_companion, companion_ending}
use Rattle.hk_rules.specs.declared.source_file.SourceFile.{SourceFile}

-- files that go with others
abbrev pub companions : List (Bytes × Bytes) → List (Bytes × Bytes)
companions files = filter (λ file. is_companion file.0) files

-- and all other files
abbrev pub others : List (Bytes × Bytes) → List (Bytes × Bytes)
others files = filter (λ file. not (is_companion file.0)) files

abbrev pub text_if : Bytes → Option Bytes → Bytes × Bytes → Option Bytes
text_if path found file = if bytes_eq file.0 path then Some file.1 else found

-- what the file at a path holds, where no path stands twice
abbrev pub text_at : List (Bytes × Bytes) → Bytes → Option Bytes
text_at files path = fold (text_if path) None files

-- a file, with what stands at its companion's path
abbrev pub source_by : (Bytes → Option Bytes) → Bytes × Bytes → Bytes × SourceFile
source_by companion file = (file.0, record { text = file.1; companion = companion (file.0 ++ companion_ending) })

abbrev pub sources_by : (Bytes → Option Bytes) → List (Bytes × Bytes) → List (Bytes × SourceFile)
sources_by companion files = map (source_by companion) files

-- the files that are no companions, in their order, each with its companion
unfoldable pub sources : List (Bytes × Bytes) → List (Bytes × SourceFile)
sources files = sources_by (text_at (companions files)) (others files)
