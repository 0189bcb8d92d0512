-- How long what was read of a tag is.
use Rattle.std.specs.Prelude.{ℕ, ◌+◌, length}
use Rattle.hk_html.specs.declared.attribute.Attribute.{Attribute}
use Rattle.hk_html.specs.declared.attribute.Attribute.TheVariants.{Bare, Valued}
use Rattle.hk_html.specs.Part.{Part, mark, bare, valued}

-- the lengths of an attribute's parts
abbrev pub sizes_of : Part → Attribute
sizes_of (mark b) = Bare 1
sizes_of (bare text) = Bare (length text)
sizes_of (valued name between value close) =
    Valued (record { name = length name; between = length between; value = length value; close = length close })

-- how long the attribute is
abbrev pub size_of : Attribute → ℕ
size_of (Bare count) = count
size_of (Valued sizes) = sizes.name + sizes.between + sizes.value + sizes.close
