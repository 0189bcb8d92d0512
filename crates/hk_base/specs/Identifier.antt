-- What an identifier is: a path with an optional version, and their order.
use Rattle.std.specs.Prelude.{ℕ, Bool, true, false, ◌&&◌, ◌||◌, not, ◌==◌, nat_lt, List, [], ◌∷◌, ◌++◌, length, Option, Some, None, Result, Ok, Err, is_some, if◌then◌else◌}
use Rattle.std.specs.List.{list_all, slice_split}
use Rattle.std.specs.Option.{option_cmp}
use Rattle.std.specs.Ordering.{nat_cmp, on, then_cmp}
use Rattle.std.specs.declared.cmp.Ordering.{Ordering}
use Rattle.std.specs.Cmp.Lexicographic.{slice_cmp}
use Rattle.hk_base.specs.declared.identifier.IdentFault.{IdentFault}
use Rattle.hk_base.specs.declared.identifier.IdentFault.TheVariants.{EmptyPath, PathTooLong, BadByte, BadPart, BadVersion}
use Rattle.hk_base.specs.Bytes.{Bytes}

pub record Ident : Type 0 where
  pub path : Bytes
  pub version : Option Bytes

-- a byte that is no control byte
abbrev pub is_plain : ℕ → Bool
is_plain byte = not (nat_lt byte 32 || byte == 127)

-- a part between slashes that is not empty, `.` or `..`
abbrev pub is_part : Bytes → Bool
is_part [] = false
is_part (a ∷ []) = not (a == 46)
is_part (a ∷ b ∷ []) = not (a == 46 && b == 46)
is_part (a ∷ b ∷ c ∷ more) = true

abbrev pub parts : Bytes → List Bytes
parts path = slice_split (λ byte. byte == 47) path

-- the first fault of a path
abbrev pub path_fault : Bytes → Option IdentFault
path_fault path =
    if length path == 0 then Some EmptyPath
    else (if nat_lt 1024 (length path) then Some PathTooLong
    else (if not (list_all is_plain path) then Some BadByte
    else (if not (list_all is_part (parts path)) then Some BadPart
    else None)))

abbrev pub is_version : Bytes → Bool
is_version version = not (length version == 0 || nat_lt 64 (length version)) && list_all is_plain version

abbrev pub version_fault : Option Bytes → Option IdentFault
version_fault None = None
version_fault (Some version) = if is_version version then None else Some BadVersion

abbrev pub first_of : Option IdentFault → Option IdentFault → Option IdentFault
first_of (Some fault) later = Some fault
first_of None later = later

-- the first fault of a path with a version
abbrev pub ident_fault : Bytes → Option Bytes → Option IdentFault
ident_fault path version = first_of (path_fault path) (version_fault version)

abbrev pub unless : Option IdentFault → Ident → Result Ident IdentFault
unless (Some fault) id = Err fault
unless None id = Ok id

-- the identifier of a path and a version, or their first fault
abbrev pub read_ident : Bytes → Option Bytes → Result Ident IdentFault
read_ident path version = unless (ident_fault path version) (record { path = path; version = version })

-- whether a path is some identifier's
abbrev pub is_path : Bytes → Bool
is_path path = not (is_some (path_fault path))

-- the order: by the path's bytes, then no version before a version, then by the version's bytes
abbrev pub ident_cmp : Ident → Ident → Ordering
ident_cmp = then_cmp (on (λ id. id.path) (slice_cmp nat_cmp)) (on (λ id. id.version) (option_cmp (slice_cmp nat_cmp)))

abbrev pub print_version : Option Bytes → Bytes
print_version None = []
print_version (Some version) = 32 ∷ 40 ∷ version ++ 41 ∷ []

-- the path, and with a version a space and the version in round brackets
abbrev pub print_ident : Ident → Bytes
print_ident id = id.path ++ print_version id.version
