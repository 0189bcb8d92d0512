-- The text of a pattern, by which patterns are told apart.
use Rattle.std.specs.Prelude.{ℕ, List, [], ◌∷◌, ◌++◌, length, Option, Some, None, codes}
use Rattle.std.specs.Fmt.{decimal}
use Rattle.hk_base.specs.Bytes.{Bytes}
use Rattle.hk_base.specs.Identifier.{Ident}
use Rattle.hk_pattern.specs.declared.pattern.Pattern.{Pattern, fold-Pattern}
use Rattle.hk_pattern.specs.declared.pattern.Pattern.TheOpen.{Pattern-F}

-- a number on a line of its own
abbrev pub num : ℕ → Bytes
num n = decimal n ++ codes "\n"

-- bytes after a line with their number, and an LF
abbrev pub str : Bytes → Bytes
str bytes = num (length bytes) ++ (bytes ++ codes "\n")

abbrev pub opt : Option Bytes → Bytes
opt None = codes "-\n"
opt (Some bytes) = codes "+\n" ++ str bytes

abbrev pub ident_text : Ident → Bytes
ident_text id = str id.path ++ opt id.version

abbrev pub idents_text : List Ident → Bytes
idents_text [] = []
idents_text (id ∷ ids) = ident_text id ++ idents_text ids

abbrev pub texts_joined : List Bytes → Bytes
texts_joined [] = []
texts_joined (text ∷ texts) = text ++ texts_joined texts

-- the text of a pattern, from the texts of the patterns in it
abbrev pub text_by : Pattern-F Bytes → Bytes
text_by (Pattern-F.Glob glob) = str (codes "glob") ++ str glob
text_by (Pattern-F.Ids ids) = str (codes "ids") ++ (num (length ids) ++ idents_text ids)
text_by (Pattern-F.And texts) = str (codes "and") ++ (num (length texts) ++ texts_joined texts)
text_by (Pattern-F.Or texts) = str (codes "or") ++ (num (length texts) ++ texts_joined texts)
text_by (Pattern-F.Not text) = str (codes "not") ++ text
text_by (Pattern-F.HasVersion version) = str (codes "version") ++ str version
text_by Pattern-F.HasNoVersion = str (codes "noversion")

abbrev pub text_of : Pattern → Bytes
text_of = fold-Pattern Bytes text_by
