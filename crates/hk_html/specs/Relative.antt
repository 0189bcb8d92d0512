-- A text with its root URLs made relative, and the URLs in it.
use Rattle.std.specs.Prelude.{List}
use Rattle.std.specs.List.{flat_map}
use Rattle.hk_base.specs.Bytes.{Bytes}
use Rattle.hk_html.specs.Piece.{pieces, piece_links, piece_with_root}

-- the pieces, in which the root stands before each root URL
abbrev pub with_roots : Bytes → Bytes → Bytes
with_roots root body = flat_map (piece_with_root root) (pieces body)

-- the values of `href` and `src` in finished tags, in order
abbrev pub links_of : Bytes → List Bytes
links_of body = flat_map piece_links (pieces body)
