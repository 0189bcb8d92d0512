-- What a route makes of a path's bytes.
use Rattle.std.specs.Prelude.{ℕ, ◌+◌, ◌-◌, Bool, true, ◌&&◌, not, ◌==◌, nat_eq, [], ◌∷◌, ◌++◌, length, take, Option, Some, None, zero, suc, if◌then◌else◌}
use Rattle.std.specs.List.{starts_with, list_any}
use Rattle.hk_base.specs.Bytes.{Bytes}

abbrev pub has_slash : Bytes → Bool
has_slash bytes = list_any (λ byte. byte == 47) bytes

abbrev pub later_by : Option ℕ → Bool → Option ℕ
later_by (Some at) here = Some (at + 1)
later_by None here = if here then Some 0 else None

-- where the extension begins: at the last dot of the last component that isn't the component's first byte. `first`
-- says whether these bytes begin a component
abbrev pub extension_at : Bool → Bytes → Option ℕ
extension_at first [] = None
extension_at first (c ∷ cs) = later_by (extension_at (c == 47) cs) (c == 46 && not first && not (has_slash cs))

-- the mark of an extension after one more byte
abbrev pub mark_after : Option ℕ → ℕ → Bool → ℕ → Option ℕ
mark_after found at first c = if c == 47 then None else (if c == 46 && not first then Some at else found)

abbrev pub front_by : Bytes → Option ℕ → Bytes
front_by path (Some at) = take at path
front_by path None = path

abbrev pub without_extension : Bytes → Bytes
without_extension path = front_by path (extension_at true path)

-- the path with this extension in place of its own
abbrev pub with_extension : Bytes → Bytes → Bytes
with_extension extension path = without_extension path ++ 46 ∷ extension

abbrev pub occurs : Bytes → Bytes → Bool
occurs old path = not (length old == 0) && starts_with nat_eq path old

-- the path with each occurrence of `old` replaced, from left to right, after `passed` bytes of an occurrence
abbrev pub replaced_after : Bytes → Bytes → ℕ → Bytes → Bytes
replaced_after old new passed [] = []
replaced_after old new (suc passed) (c ∷ cs) = replaced_after old new passed cs
replaced_after old new zero (c ∷ cs) =
    if occurs old (c ∷ cs) then new ++ replaced_after old new (length old - 1) cs else c ∷ replaced_after old new zero cs

abbrev pub replaced : Bytes → Bytes → Bytes → Bytes
replaced old new path = replaced_after old new 0 path
