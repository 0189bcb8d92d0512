-- The pieces of an HTML text.
use Rattle.std.specs.Prelude.{ℕ, zero, suc, ◌+◌, Bool, ◌==◌, ◌||◌, ◌&&◌, List, [], ◌∷◌, ◌++◌, Option, Some, None, length, take, drop, if◌then◌else◌, nat_eq, codes}
use Rattle.std.specs.List.{take_while, flat_map, starts_with}
use Rattle.std.specs.Char.{is_ascii_alphabetic}
use Rattle.std.specs.Str.{str_eq_ignore_ascii_case}
use Rattle.hk_base.specs.Bytes.{Bytes}
use Rattle.hk_html.specs.Kind.{is_tag_byte, first, after_run}
use Rattle.hk_html.specs.Part.{Part, parts_of, parts_text, part_links, part_with_root}
use Rattle.hk_html.specs.Place.{first_place, place_of_word}

-- a comment; a finished tag: `<` and its name, its parts up to the `>`, and the raw text after that; the rest of a text
-- in which a tag has no end; any other byte
pub data Piece : Type 0 where
  comment : Bytes → Piece
  tag : Bytes → List Part → Bytes → Piece
  unfinished : Bytes → Piece
  other : ℕ → Piece

abbrev pub piece_text : Piece → Bytes
piece_text (comment text) = text
piece_text (tag head parts raw) = head ++ (parts_text parts ++ (62 ∷ raw))
piece_text (unfinished text) = text
piece_text (other b) = b ∷ []

-- whether raw text follows a tag of this name
abbrev pub has_raw_text : Bytes → Bool
has_raw_text name = str_eq_ignore_ascii_case name (codes "script") || str_eq_ignore_ascii_case name (codes "style")

-- whether `</` and the same whole name come next
abbrev pub ends_raw_text : Bytes → Bytes → Bool
ends_raw_text name text =
    starts_with nat_eq text (codes "</") && str_eq_ignore_ascii_case (take_while is_tag_byte (drop 2 text)) name

-- the raw text with which what comes after a tag begins
abbrev pub raw_text : Bytes → Bytes → Bytes
raw_text name text = if has_raw_text name then take (first_place (ends_raw_text name) text) text else []

-- the piece that begins with `<` and the name of a tag, by the parts that come after the name
abbrev pub tag_by : ℕ → Bytes → Option (List Part) → Piece
tag_by x xs None = unfinished (x ∷ xs)
tag_by x xs (Some parts) =
    tag (x ∷ take_while is_tag_byte xs) parts
    (raw_text (take_while is_tag_byte xs) (drop (length (parts_text parts) + 1) (after_run is_tag_byte xs)))

-- the piece that begins with x: a comment goes through the first `-->` after its four bytes
abbrev pub first_piece : ℕ → Bytes → Piece
first_piece x xs =
    if starts_with nat_eq (x ∷ xs) (codes "<!--")
    then comment (x ∷ take (place_of_word (codes "-->") (drop 3 xs) + 6) xs)
    else if x == 60 && is_ascii_alphabetic (first xs)
    then tag_by x xs (parts_of (after_run is_tag_byte xs))
    else other x

-- the pieces after `skip` bytes that belong to the piece before; a piece's own bytes after its first are skipped in turn
abbrev pub pieces_after : ℕ → Bytes → List Piece
pieces_after skip [] = []
pieces_after (suc skip) (x ∷ xs) = pieces_after skip xs
pieces_after zero (x ∷ xs) =
    first_piece x xs ∷ pieces_after (length (drop 1 (piece_text (first_piece x xs)))) xs

-- a text, cut from the left
abbrev pub pieces : Bytes → List Piece
pieces text = pieces_after 0 text

abbrev pub piece_links : Piece → List Bytes
piece_links (comment text) = []
piece_links (tag head parts raw) = flat_map part_links parts
piece_links (unfinished text) = []
piece_links (other b) = []

abbrev pub piece_with_root : Bytes → Piece → Bytes
piece_with_root root (comment text) = text
piece_with_root root (tag head parts raw) = head ++ (flat_map (part_with_root root) parts ++ (62 ∷ raw))
piece_with_root root (unfinished text) = text
piece_with_root root (other b) = b ∷ []
