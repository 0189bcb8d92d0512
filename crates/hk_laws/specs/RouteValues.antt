-- The values that are routes, row by row.
use Rattle.std.specs.Prelude.{◌≢◌, ℕ, zero, suc, List, ◌∷◌, codes}
use Rattle.toml.specs.Data.{Data, string, array, Items}
use Rattle.hk_base.specs.Bytes.{Bytes}
use Rattle.hk_pattern.specs.declared.pattern.Pattern.{Pattern}
use Rattle.hk_route.specs.declared.route.Route.{Route, Id, Extension, Constant, Gsub, When, Compose, First}
use Rattle.hk_laws.specs.Values.{only_at, two_items, AreListed, HasTwo}
use Rattle.hk_laws.specs.PatternValues.{IsPatternWithin}

-- the routes, by what the patterns and the routes in them are. Of an extension one dot in front is dropped, and something is
-- left; the text that is replaced isn't empty
pub data RouteRow (Choice : Data → Pattern → Type 0) (Inner : Data → Route → Type 0) : Data → Route → Type 0 where
  same : RouteRow Choice Inner (string (codes "id")) Id
  first : (ds : Items) (routes : List Route) → AreListed Inner ds routes → RouteRow Choice Inner (array ds) (First routes)
  dotted : (b : ℕ) (bs : Bytes) → RouteRow Choice Inner (only_at (codes "extension") (string (46 ∷ (b ∷ bs)))) (Extension (b ∷ bs))
  extension : (b : ℕ) (bs : Bytes) → b ≢ 46 → RouteRow Choice Inner (only_at (codes "extension") (string (b ∷ bs))) (Extension (b ∷ bs))
  constant : (path : Bytes) → RouteRow Choice Inner (only_at (codes "constant") (string path)) (Constant path)
  gsub : (b : ℕ) (bs new : Bytes)
      → RouteRow Choice Inner (only_at (codes "gsub") (array (two_items (string (b ∷ bs)) (string new)))) (Gsub (b ∷ bs) new)
  where_ : (t d e : Data) (pattern : Pattern) (route : Route) → HasTwo (codes "use") (codes "when") e d t → Choice d pattern → Inner e route
      → RouteRow Choice Inner t (When pattern route)
  compose : (ds : Items) (routes : List Route) → AreListed Inner ds routes → RouteRow Choice Inner (only_at (codes "compose") (array ds)) (Compose routes)

-- with at most so many routes and patterns open at once
abbrev pub IsRouteWithin : ℕ → Data → Route → Type 0
IsRouteWithin zero d route = ⊥
IsRouteWithin (suc n) d route = RouteRow (IsPatternWithin n) (IsRouteWithin n) d route

abbrev pub IsRoute : Data → Route → Type 0
IsRoute d route = IsRouteWithin 16 d route
