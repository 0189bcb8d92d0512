-- Routes that are read replace no empty text.
use Rattle.std.proofs.Common.{◌≡◌, ℕ, zero, suc, Bool, true, List, [], ◌∷◌, map, Option, Some, None, option_map, nat_lt, refl, sym, ap, ◌∙◌}
use Rattle.std.specs.Prelude.{bytes_eq, codes}
use Rattle.std.specs.List.{AllByRecursion}
use Rattle.toml.specs.Data.{Data, Items, Members, as_str, as_array, as_table}
use Rattle.hk_base.specs.Bytes.{Bytes}
use Rattle.hk_base.proofs.Both.{both-true}
use Rattle.hk_pattern.specs.declared.pattern.Pattern.{Pattern}
use Rattle.hk_route.specs.declared.route.Route.{Route, Id, Extension, Constant, Gsub, When, Compose, First}
use Rattle.hk_route.specs.declared.route.Route.TheFolds.{fold-roll-Route}
use Rattle.hk_route.specs.declared.route.Route.TheOpen.{Route-F}
use Rattle.hk_route.specs.declared.route.Route.TheVariants.{rolls-Id, rolls-Extension, rolls-Constant, rolls-Gsub, rolls-When, rolls-Compose, rolls-First}
use Rattle.hk_rules_file.specs.Linked.{all_true, has_bytes, has_bytes_by}
use Rattle.hk_forms.specs.Members.{only, both, two, each, listed, most_members, count_items}
use Rattle.hk_forms.specs.PatternForm.{pattern_at, most_open}
use Rattle.hk_forms.specs.RouteForm.{without_dot, some_text, extension_of, gsub_by, gsub_pair, gsub_of, leaf, compose_by, when_by, table_by, route_by, route_at, route_of}
use Rattle.hk_rules_file.proofs.LinkedSteps.{Holds, holds-either, holds-each}

abbrev HasBytes : Route → Type 0
HasBytes route = has_bytes route ≡ true

bytes-id : HasBytes Id
bytes-id = ap has_bytes (sym rolls-Id) ∙ fold-roll-Route Bool has_bytes_by Route-F.Id

bytes-extension : (text : Bytes) → HasBytes (Extension text)
bytes-extension text = ap has_bytes (sym (rolls-Extension text)) ∙ fold-roll-Route Bool has_bytes_by (Route-F.Extension text)

bytes-constant : (text : Bytes) → HasBytes (Constant text)
bytes-constant text = ap has_bytes (sym (rolls-Constant text)) ∙ fold-roll-Route Bool has_bytes_by (Route-F.Constant text)

bytes-gsub : (b : ℕ) (old new : Bytes) → HasBytes (Gsub (b ∷ old) new)
bytes-gsub b old new = ap has_bytes (sym (rolls-Gsub (b ∷ old) new)) ∙ fold-roll-Route Bool has_bytes_by (Route-F.Gsub (b ∷ old) new)

bytes-when : (pattern : Pattern) (route : Route) → has_bytes (When pattern route) ≡ has_bytes route
bytes-when pattern route = ap has_bytes (sym (rolls-When pattern route)) ∙ fold-roll-Route Bool has_bytes_by (Route-F.When pattern route)

bytes-compose : (routes : List Route) → has_bytes (Compose routes) ≡ all_true (map has_bytes routes)
bytes-compose routes = ap has_bytes (sym (rolls-Compose routes)) ∙ fold-roll-Route Bool has_bytes_by (Route-F.Compose routes)

bytes-first : (routes : List Route) → has_bytes (First routes) ≡ all_true (map has_bytes routes)
bytes-first routes = ap has_bytes (sym (rolls-First routes)) ∙ fold-roll-Route Bool has_bytes_by (Route-F.First routes)

all-bytes : (routes : List Route) → AllByRecursion HasBytes routes → all_true (map has_bytes routes) ≡ true
all-bytes [] h = refl
all-bytes (route ∷ routes) h = both-true (has_bytes route) (all_true (map has_bytes routes)) h.0 (all-bytes routes h.1)

compose-bytes : (o : Option (List Route)) → Holds (AllByRecursion HasBytes) o → Holds HasBytes (option_map Compose o)
compose-bytes None h = tt
compose-bytes (Some routes) h = bytes-compose routes ∙ all-bytes routes h

first-bytes : (o : Option (List Route)) → Holds (AllByRecursion HasBytes) o → Holds HasBytes (option_map First o)
first-bytes None h = tt
first-bytes (Some routes) h = bytes-first routes ∙ all-bytes routes h

listed-bytes : (inner : Data → Option Route) → ((d : Data) → Holds HasBytes (inner d)) → (ds : Items) → Holds (AllByRecursion HasBytes) (listed inner ds)
listed-bytes inner h ds = holds-either (AllByRecursion HasBytes) (nat_lt most_members (count_items ds)) None (each inner ds) tt (holds-each HasBytes inner h ds)

extension-bytes : (text : Option Bytes) → Holds HasBytes (extension_of text)
extension-bytes None = tt
extension-bytes (Some text) = at (some_text (without_dot text))
  where
    at : (o : Option Bytes) → Holds HasBytes (option_map Extension o)
    at None = tt
    at (Some t) = bytes-extension t

constant-bytes : (text : Option Bytes) → Holds HasBytes (option_map Constant text)
constant-bytes None = tt
constant-bytes (Some text) = bytes-constant text

gsub_by-bytes : (old new : Option Bytes) → Holds HasBytes (gsub_by old new)
gsub_by-bytes None new = tt
gsub_by-bytes (Some old) None = tt
gsub_by-bytes (Some []) (Some new) = tt
gsub_by-bytes (Some (b ∷ old)) (Some new) = bytes-gsub b old new

gsub_pair-bytes : (p : Option (Data × Data)) → Holds HasBytes (gsub_pair p)
gsub_pair-bytes None = tt
gsub_pair-bytes (Some p) = gsub_by-bytes (as_str p.0) (as_str p.1)

gsub-bytes : (ds : Option Items) → Holds HasBytes (gsub_of ds)
gsub-bytes None = tt
gsub-bytes (Some ds) = gsub_pair-bytes (two ds)

leaf-bytes : (key : Bytes) (d : Data) → Holds HasBytes (leaf key d)
leaf-bytes key d =
    holds-either HasBytes (bytes_eq key (codes "extension")) (extension_of (as_str d)) _ (extension-bytes (as_str d))
    (holds-either HasBytes (bytes_eq key (codes "constant")) (option_map Constant (as_str d)) _ (constant-bytes (as_str d))
    (holds-either HasBytes (bytes_eq key (codes "gsub")) (gsub_of (as_array d)) None (gsub-bytes (as_array d)) tt))

compose_by-bytes : (inner : Data → Option Route) → ((d : Data) → Holds HasBytes (inner d)) → (ds : Option Items) → Holds HasBytes (compose_by inner ds)
compose_by-bytes inner h None = tt
compose_by-bytes inner h (Some ds) = compose-bytes (listed inner ds) (listed-bytes inner h ds)

when-bytes : (pattern : Option Pattern) (route : Option Route) → Holds HasBytes route → Holds HasBytes (when_by pattern route)
when-bytes None route h = tt
when-bytes (Some pattern) None h = tt
when-bytes (Some pattern) (Some route) h = bytes-when pattern route ∙ h

table-bytes : (pattern : Data → Option Pattern) (inner : Data → Option Route) → ((d : Data) → Holds HasBytes (inner d)) → (one : Option (Bytes × Data)) (pair : Option (Data × Data)) → Holds HasBytes (table_by pattern inner one pair)
table-bytes pattern inner h (Some m) pair = holds-either HasBytes (bytes_eq m.0 (codes "compose")) (compose_by inner (as_array m.1)) (leaf m.0 m.1) (compose_by-bytes inner h (as_array m.1)) (leaf-bytes m.0 m.1)
table-bytes pattern inner h None (Some p) = when-bytes (pattern p.1) (inner p.0) (h p.0)
table-bytes pattern inner h None None = tt

route_by-bytes : (pattern : Data → Option Pattern) (inner : Data → Option Route) → ((d : Data) → Holds HasBytes (inner d)) → (word : Option Bytes) (ds : Option Items) (ms : Option Members) → Holds HasBytes (route_by pattern inner word ds ms)
route_by-bytes pattern inner h (Some word) ds ms = holds-either HasBytes (bytes_eq word (codes "id")) (Some Id) None bytes-id tt
route_by-bytes pattern inner h None (Some ds) ms = first-bytes (listed inner ds) (listed-bytes inner h ds)
route_by-bytes pattern inner h None None (Some ms) = table-bytes pattern inner h (only ms) (both (codes "use") (codes "when") ms)
route_by-bytes pattern inner h None None None = tt

route_at-bytes : (n : ℕ) (d : Data) → Holds HasBytes (route_at n d)
route_at-bytes zero d = tt
route_at-bytes (suc n) d = route_by-bytes (pattern_at n) (route_at n) (λ e. route_at-bytes n e) (as_str d) (as_array d) (as_table d)

-- each text that a route replaces has bytes
pub route-bytes : (d : Data) → Holds HasBytes (route_of d)
route-bytes d = route_at-bytes most_open d
