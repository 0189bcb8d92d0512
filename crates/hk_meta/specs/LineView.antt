-- What contracts see of a line that was read.
use Rattle.std.specs.Prelude.{option_map}
use Rattle.hk_meta.specs.Line.{Line, ignored, member, key_line, refused}
use Rattle.hk_meta.specs.declared.line.Kind.{Kind}
use Rattle.hk_meta.specs.declared.line.Kind.TheVariants.{Ignored, Member, Key, Refused}

abbrev pub line_view : Kind → Line
line_view Ignored = ignored
line_view (Member value) = member value.items
line_view (Key key value) = key_line key.now (option_map (λ v. v.items) value)
line_view Refused = refused
