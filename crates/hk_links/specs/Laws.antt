-- What becomes of the links of a page that is made relative.
use Rattle.std.specs.Prelude.{◌≡◌, filter, map, List}
use Rattle.hk_base.specs.Bytes.{Bytes}
use Rattle.hk_html.specs.Part.{with_root}
use Rattle.hk_html.specs.Relative.{links_of, with_roots}
use Rattle.hk_html.specs.Root.{root_of}
use Rattle.hk_links.specs.Value.{is_internal}
use Rattle.hk_links.specs.Path.{resolved}

-- a value as it is when it was made relative for a target
abbrev pub relative : Bytes → Bytes → Bytes
relative target value = with_root (root_of target) value

-- the paths to which the internal links of a page with this target lead
abbrev pub paths : Bytes → Bytes → List Bytes
paths target body = map (resolved target) (filter is_internal (links_of body))

-- a value that was made relative is internal where it was
abbrev pub StaysInternal : Type 0
StaysInternal = (target value : Bytes) → is_internal (relative target value) ≡ is_internal value

-- it leads to the path to which it led
abbrev pub LeadsAsBefore : Type 0
LeadsAsBefore = (target value : Bytes) → resolved target (relative target value) ≡ resolved target value

-- the links of a page that was made relative lead to the paths to which they led
abbrev pub PageLeadsAsBefore : Type 0
PageLeadsAsBefore = (target body : Bytes) → paths target (with_roots (root_of target) body) ≡ paths target body
