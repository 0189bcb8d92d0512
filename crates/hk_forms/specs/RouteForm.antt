-- The form of a route.
use Rattle.std.specs.Prelude.{ℕ, zero, suc, [], ◌∷◌, ◌==◌, Option, Some, None, option_map, codes, bytes_eq, if◌then◌else◌}
use Rattle.toml.specs.Data.{Data, Items, Members, as_str, as_array, as_table}
use Rattle.hk_base.specs.Bytes.{Bytes}
use Rattle.hk_pattern.specs.declared.pattern.Pattern.{Pattern}
use Rattle.hk_route.specs.declared.route.Route.{Route, Id, Extension, Constant, Gsub, When, Compose, First}
use Rattle.hk_forms.specs.Members.{only, both, two, listed}
use Rattle.hk_forms.specs.PatternForm.{pattern_at, most_open}

-- the text without one dot in front
abbrev pub without_dot : Bytes → Bytes
without_dot [] = []
without_dot (b ∷ bs) = if b == 46 then bs else b ∷ bs

abbrev pub some_text : Bytes → Option Bytes
some_text [] = None
some_text (b ∷ bs) = Some (b ∷ bs)

-- an extension is what is left without one dot in front, if anything is
abbrev pub extension_of : Option Bytes → Option Route
extension_of (Some text) = option_map Extension (some_text (without_dot text))
extension_of None = None

abbrev pub gsub_by : Option Bytes → Option Bytes → Option Route
gsub_by (Some old) (Some new) = option_map (λ text. Gsub text new) (some_text old)
gsub_by _ _ = None

abbrev pub gsub_pair : Option (Data × Data) → Option Route
gsub_pair (Some p) = gsub_by (as_str p.0) (as_str p.1)
gsub_pair None = None

-- an old text, which isn't empty, and a new one
abbrev pub gsub_of : Option Items → Option Route
gsub_of (Some ds) = gsub_pair (two ds)
gsub_of None = None

-- a route with no routes in it, by its key
abbrev pub leaf : Bytes → Data → Option Route
leaf key d =
    if bytes_eq key (codes "extension") then extension_of (as_str d)
    else if bytes_eq key (codes "constant") then option_map Constant (as_str d)
    else if bytes_eq key (codes "gsub") then gsub_of (as_array d)
    else None

abbrev pub compose_by : (Data → Option Route) → Option Items → Option Route
compose_by inner (Some ds) = option_map Compose (listed inner ds)
compose_by inner None = None

-- the route of a table with this one key
abbrev pub keyed : (Data → Option Route) → Bytes → Data → Option Route
keyed inner key d = if bytes_eq key (codes "compose") then compose_by inner (as_array d) else leaf key d

abbrev pub when_by : Option Pattern → Option Route → Option Route
when_by (Some pattern) (Some route) = Some (When pattern route)
when_by _ _ = None

-- the route of a table with the keys `use` and `when`
abbrev pub use_when : (Data → Option Pattern) → (Data → Option Route) → Option (Data × Data) → Option Route
use_when pattern inner (Some p) = when_by (pattern p.1) (inner p.0)
use_when pattern inner None = None

abbrev pub table_by : (Data → Option Pattern) → (Data → Option Route) → Option (Bytes × Data) → Option (Data × Data) → Option Route
table_by pattern inner (Some m) pair = keyed inner m.0 m.1
table_by pattern inner None pair = use_when pattern inner pair

abbrev pub in_table : (Data → Option Pattern) → (Data → Option Route) → Option Members → Option Route
in_table pattern inner (Some ms) = table_by pattern inner (only ms) (both (codes "use") (codes "when") ms)
in_table pattern inner None = None

abbrev pub named : Bytes → Option Route
named word = if bytes_eq word (codes "id") then Some Id else None

abbrev pub route_by : (Data → Option Pattern) → (Data → Option Route) → Option Bytes → Option Items → Option Members → Option Route
route_by pattern inner (Some word) ds ms = named word
route_by pattern inner None (Some ds) ms = option_map First (listed inner ds)
route_by pattern inner None None ms = in_table pattern inner ms

-- the route that a value is, with at most so many routes and patterns open at once: the word `id`, an array of routes,
-- or a table
abbrev pub route_at : ℕ → Data → Option Route
route_at zero d = None
route_at (suc n) d = route_by (pattern_at n) (route_at n) (as_str d) (as_array d) (as_table d)

abbrev pub route_of : Data → Option Route
route_of d = route_at most_open d
