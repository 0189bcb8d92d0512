-- The parts of a tag between its name and its end.
use Rattle.std.specs.Prelude.{ℕ, zero, suc, Bool, ◌==◌, ◌||◌, ◌&&◌, not, List, [], ◌∷◌, ◌++◌, Option, Some, None, length, take, drop, if◌then◌else◌, nat_eq, codes}
use Rattle.std.specs.List.{take_while, flat_map, starts_with}
use Rattle.std.specs.Option.{option_map}
use Rattle.std.specs.Str.{str_eq_ignore_ascii_case}
use Rattle.hk_base.specs.Bytes.{Bytes}
use Rattle.hk_html.specs.Kind.{is_white, is_attribute_byte, is_value_byte, is_quote, is_other, first, after_run}

-- white or a `/`; an attribute without `=`, with the white after it; or one with a value: its name, what stands between
-- name and value, the value, and the quote that closes it
pub data Part : Type 0 where
  mark : ℕ → Part
  bare : Bytes → Part
  valued : Bytes → Bytes → Bytes → Bytes → Part

abbrev pub part_text : Part → Bytes
part_text (mark b) = b ∷ []
part_text (bare text) = text
part_text (valued name between value close) = name ++ (between ++ (value ++ close))

-- the part whose value the text begins with, after `=` and white: up to the next quote of the same kind, or else the
-- longest run without white and `>`
abbrev pub value_part : Bytes → Bytes → Bytes → Part
value_part name between text =
    if is_quote (first text)
    then valued name (between ++ first text ∷ []) (take_while (is_other (first text)) (drop 1 text)) (take 1 (after_run (is_other (first text)) (drop 1 text)))
    else valued name between (take_while is_value_byte text) []

-- the part with this name and the white after it, by what comes then
abbrev pub named_part : Bytes → Bytes → Bytes → Part
named_part name white text =
    if first text == 61
    then value_part name (white ++ 61 ∷ take_while is_white (drop 1 text)) (after_run is_white (drop 1 text))
    else bare (name ++ white)

-- the attribute whose name begins with x
abbrev pub attribute : ℕ → Bytes → Part
attribute x xs =
    named_part (x ∷ take_while is_attribute_byte xs) (take_while is_white (after_run is_attribute_byte xs))
    (after_run is_white (after_run is_attribute_byte xs))

-- the part that begins with x
abbrev pub first_part : ℕ → Bytes → Part
first_part x xs = if is_white x || x == 47 then mark x else attribute x xs

-- the parts up to the next `>` between parts, or none if no `>` comes; `skip` bytes belong to the part before, and a
-- part's own bytes after its first are skipped in turn
abbrev pub parts_after : ℕ → Bytes → Option (List Part)
parts_after skip [] = None
parts_after (suc skip) (x ∷ xs) = parts_after skip xs
parts_after zero (x ∷ xs) =
    if x == 62
    then Some []
    else option_map (λ parts. first_part x xs ∷ parts) (parts_after (length (drop 1 (part_text (first_part x xs)))) xs)

abbrev pub parts_of : Bytes → Option (List Part)
parts_of text = parts_after 0 text

abbrev pub parts_text : List Part → Bytes
parts_text parts = flat_map part_text parts

-- the attributes that hold URLs
abbrev pub is_link : Bytes → Bool
is_link name = str_eq_ignore_ascii_case name (codes "href") || str_eq_ignore_ascii_case name (codes "src")

abbrev pub part_links : Part → List Bytes
part_links (mark b) = []
part_links (bare text) = []
part_links (valued name between value close) = if is_link name then value ∷ [] else []

-- a URL that begins with `/` and not with `//`
abbrev pub is_rooted : Bytes → Bool
is_rooted url = starts_with nat_eq url (codes "/") && not (starts_with nat_eq url (codes "//"))

abbrev pub with_root : Bytes → Bytes → Bytes
with_root root url = if is_rooted url then root ++ url else url

abbrev pub part_with_root : Bytes → Part → Bytes
part_with_root root (mark b) = b ∷ []
part_with_root root (bare text) = text
part_with_root root (valued name between value close) =
    name ++ (between ++ ((if is_link name then with_root root value else value) ++ close))
