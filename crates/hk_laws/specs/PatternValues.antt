-- The values that are identifiers and patterns, row by row.
use Rattle.std.specs.Prelude.{◌≡◌, ◌≤◌, ℕ, zero, suc, true, List, length, Some, None, codes}
use Rattle.toml.specs.Data.{Data, string, boolean, array, Items}
use Rattle.hk_base.specs.Bytes.{Bytes}
use Rattle.hk_base.specs.Identifier.{Ident, is_path, is_version}
use Rattle.hk_pattern.specs.declared.pattern.Pattern.{Pattern, Glob, Ids, And, Or, Not, HasVersion, HasNoVersion}
use Rattle.hk_laws.specs.Values.{only_at, two_items, AreListed}

-- an identifier is a string, the path, or an array of two strings, the path and the version
pub data IsIdent : Data → Ident → Type 0 where
  bare : (path : Bytes) → is_path path ≡ true → IsIdent (string path) (record { path = path; version = None })
  versioned : (path version : Bytes) → is_path path ≡ true → is_version version ≡ true
      → IsIdent (array (two_items (string path) (string version))) (record { path = path; version = Some version })

-- what a rule creates is a string, the path
pub data IsCreated : Data → Ident → Type 0 where
  created : (path : Bytes) → is_path path ≡ true → IsCreated (string path) (record { path = path; version = None })

-- an array of them
pub record AreCreated (d : Data) (made : List Ident) : Type 0 where
  pub items : Items
  pub array_is : d ≡ array items
  pub listed : AreListed IsCreated items made

-- a version is a string
pub data IsVersion : Data → Bytes → Type 0 where
  versioning : (text : Bytes) → is_version text ≡ true → IsVersion (string text) text

-- the patterns, by what the patterns in them are
pub data PatternRow (Inner : Data → Pattern → Type 0) : Data → Pattern → Type 0 where
  bare_glob : (glob : Bytes) → length glob ≤ 1024 → PatternRow Inner (string glob) (Glob glob)
  glob : (glob : Bytes) → length glob ≤ 1024 → PatternRow Inner (only_at (codes "glob") (string glob)) (Glob glob)
  ids : (ds : Items) (ids : List Ident) → AreListed IsIdent ds ids → PatternRow Inner (only_at (codes "ids") (array ds)) (Ids ids)
  all : (ds : Items) (patterns : List Pattern) → AreListed Inner ds patterns → PatternRow Inner (only_at (codes "and") (array ds)) (And patterns)
  any : (ds : Items) (patterns : List Pattern) → AreListed Inner ds patterns → PatternRow Inner (only_at (codes "or") (array ds)) (Or patterns)
  other : (d : Data) (pattern : Pattern) → Inner d pattern → PatternRow Inner (only_at (codes "not") d) (Not pattern)
  has_version : (version : Bytes) → is_version version ≡ true → PatternRow Inner (only_at (codes "has_version") (string version)) (HasVersion version)
  no_version : PatternRow Inner (only_at (codes "no_version") (boolean true)) HasNoVersion

-- with at most so many patterns open at once
abbrev pub IsPatternWithin : ℕ → Data → Pattern → Type 0
IsPatternWithin zero d pattern = ⊥
IsPatternWithin (suc n) d pattern = PatternRow (IsPatternWithin n) d pattern

abbrev pub IsPattern : Data → Pattern → Type 0
IsPattern d pattern = IsPatternWithin 16 d pattern
