-- What a scan has read.
use Rattle.std.specs.Prelude.{◌≡◌, ◌<◌, ℕ, ◌+◌, Bool, true, false, Some, None, List, ◌++◌, map, length, take, drop, slice_range}
use Rattle.std.specs.List.{flat_map}
use Rattle.hk_base.specs.Bytes.{Bytes}
use Rattle.hk_html.specs.declared.scan.Link.{Link}
use Rattle.hk_html.specs.declared.scan.Scan.{Scan}
use Rattle.hk_html.specs.Kind.{first, after_run, is_tag_byte}
use Rattle.hk_html.specs.Part.{Part, with_root, first_part, parts_of, part_text, part_links, part_with_root}
use Rattle.hk_html.specs.Piece.{Piece, first_piece, tag_by, piece_text, piece_links, piece_with_root}

-- a link, and what stands before it since the link before
abbrev pub link_with_root : Bytes → Link → Bytes
link_with_root root link = link.before.now ++ with_root root link.value.now

abbrev pub links_with_root : Bytes → List Link → Bytes
links_with_root root links = flat_map (link_with_root root) links

abbrev pub link_values : List Link → List Bytes
link_values links = map (λ link. link.value.now) links

-- what was read, with the root before each root URL
abbrev pub written : Bytes → Scan → Bytes
written root scan = links_with_root root scan.links.items ++ slice_range scan.body.now scan.from scan.at

-- what is still to be read
abbrev pub ahead : Scan → Bytes
ahead scan = drop scan.at scan.body.now

-- so many bytes were read: this text with a root, and these values of links
pub record Reads (old new : Scan) (count : ℕ) (texts : Bytes → Bytes) (values : List Bytes) : Type 0 where
  pub body : new.body.now ≡ old.body.now
  pub at : new.at ≡ old.at + count
  pub text : (root : Bytes) → written root new ≡ written root old ++ texts root
  pub found : link_values new.links.items ≡ link_values old.links.items ++ values
  pub kept : take (length old.links.items) new.links.items ≡ old.links.items

abbrev pub ReadsPart : Scan → Scan → Part → Type 0
ReadsPart old new part = Reads old new (length (part_text part)) (λ root. part_with_root root part) (part_links part)

abbrev pub ReadsParts : Scan → Scan → List Part → Type 0
ReadsParts old new parts =
    Reads old new (length (flat_map part_text parts)) (λ root. flat_map (part_with_root root) parts) (flat_map part_links parts)

abbrev pub ReadsPiece : Scan → Scan → Piece → Type 0
ReadsPiece old new piece = Reads old new (length (piece_text piece)) (λ root. piece_with_root root piece) (piece_links piece)

abbrev pub ReadsPieces : Scan → Scan → List Piece → Type 0
ReadsPieces old new all =
    Reads old new (length (flat_map piece_text all)) (λ root. flat_map (piece_with_root root) all) (flat_map piece_links all)

-- the part, and the piece, with which what is still to be read begins
abbrev pub part_ahead : Scan → Part
part_ahead scan = first_part (first (ahead scan)) (drop 1 (ahead scan))

abbrev pub piece_ahead : Scan → Piece
piece_ahead scan = first_piece (first (ahead scan)) (drop 1 (ahead scan))

-- the parts of a tag were read up to the `>` that ends it; or the text ends first, and the links before are kept
abbrev pub ReadsTag : Scan → Scan → Bool → Type 0
ReadsTag old new true =
    (parts : List Part) × (parts_of (ahead old) ≡ Some parts) × ReadsParts old new parts × (0 < length (ahead new)) × (first (ahead new) ≡ 62)
ReadsTag old new false =
    (parts_of (ahead old) ≡ None) × (new.body.now ≡ old.body.now) × (take (length old.links.items) new.links.items ≡ old.links.items)

-- the piece that begins with the `<` of a tag
abbrev pub tag_ahead : Scan → Piece
tag_ahead scan =
    tag_by (first (ahead scan)) (drop 1 (ahead scan)) (parts_of (after_run is_tag_byte (drop 1 (ahead scan))))
