-- Which paths and versions a pattern matches.
use Rattle.std.specs.Prelude.{Bool, true, false, ◌&&◌, not, Option, Some, None, is_some, bytes_eq}
use Rattle.std.specs.List.{list_all, list_any}
use Rattle.hk_base.specs.Bytes.{Bytes}
use Rattle.hk_base.specs.Identifier.{Ident}
use Rattle.hk_pattern.specs.declared.pattern.Pattern.{Pattern, fold-Pattern}
use Rattle.hk_pattern.specs.declared.pattern.Pattern.TheOpen.{Pattern-F}
use Rattle.hk_pattern.specs.Glob.{covers, pieces}

abbrev pub same_version : Option Bytes → Option Bytes → Bool
same_version None None = true
same_version (Some a) (Some b) = bytes_eq a b
same_version None (Some b) = false
same_version (Some a) None = false

abbrev pub is_id : Bytes → Option Bytes → Ident → Bool
is_id path version id = bytes_eq id.path path && same_version id.version version

-- a test of a path and a version
abbrev pub Test : Type 0
Test = Bytes → Option Bytes → Bool

-- what a pattern tests, from what the patterns in it test
abbrev pub test_of : Pattern-F Test → Test
test_of (Pattern-F.Glob glob) path version = covers (pieces glob) path
test_of (Pattern-F.Ids ids) path version = list_any (is_id path version) ids
test_of (Pattern-F.And tests) path version = list_all (λ test. test path version) tests
test_of (Pattern-F.Or tests) path version = list_any (λ test. test path version) tests
test_of (Pattern-F.Not test) path version = not (test path version)
test_of (Pattern-F.HasVersion own) path version = same_version (Some own) version
test_of Pattern-F.HasNoVersion path version = not (is_some version)

abbrev pub matches : Pattern → Bytes → Option Bytes → Bool
matches = fold-Pattern Test test_of
