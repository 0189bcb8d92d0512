-- What the parts of a path stand for.
use Rattle.std.specs.Prelude.{List, [], ◌∷◌, ◌++◌, map}
use Rattle.std.specs.List.{flat_map}
use Rattle.percent_encoding.specs.Percent.{percent_decode}
use Rattle.hk_base.specs.Bytes.{Bytes}
use Rattle.hk_links.specs.declared.path.Part.{Part}
use Rattle.hk_links.specs.declared.path.Part.TheVariants.{Plain, Escaped}

abbrev pub part_text : Part → Bytes
part_text (Plain bytes) = bytes.now
part_text (Escaped bytes) = percent_decode bytes.now

abbrev pub part_texts : List Part → List Bytes
part_texts parts = map part_text parts

-- a part with the `/` before it
abbrev pub slash_and_text : Part → Bytes
slash_and_text part = 47 ∷ part_text part

-- the parts with a `/` between each two
abbrev pub joined_text : List Part → Bytes
joined_text [] = []
joined_text (part ∷ rest) = part_text part ++ flat_map slash_and_text rest
