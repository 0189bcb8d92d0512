-- Routes are read exactly where they are such values.
use Rattle.std.proofs.Common.{◌≡◌, ◌≢◌, ℕ, zero, suc, true, false, ◌==◌, if◌then◌else◌, codes, [], ◌∷◌, refl, sym, ap, subst, ◌∙◌, Option, Some, None, option_map}
use Rattle.std.proofs.lemmas.Bool.{ne_eqb, eqb-true}
use Rattle.toml.specs.Data.{Data, string, integer, float, boolean, datetime, array, table, Items, Members, no_members, member, as_str, as_array, as_table}
use Rattle.hk_base.specs.Bytes.{Bytes}
use Rattle.hk_forms.specs.Members.{both, listed, two}
use Rattle.hk_forms.specs.PatternForm.{pattern_at}
use Rattle.hk_forms.specs.RouteForm.{some_text, extension_of, gsub_by, gsub_pair, gsub_of, compose_by, keyed, when_by, use_when, route_by, route_at, route_of}
use Rattle.hk_pattern.specs.declared.pattern.Pattern.{Pattern}
use Rattle.hk_route.specs.declared.route.Route.{Route, Id, Extension, Constant, Gsub, When, Compose, First}
use Rattle.hk_laws.specs.Values.{Reads, only_at, two_items, HasTwo, in_order, turned}
use Rattle.hk_laws.specs.PatternValues.{IsPatternWithin}
use Rattle.hk_laws.specs.RouteValues.{RouteRow, same, first, dotted, extension, constant, gsub, where_, compose, IsRouteWithin, IsRoute}
use Rattle.hk_laws.proofs.ValueLemmas.{at_key, of_map, is_string, is_array, is_two, is_both, listed_is, is_listed, list_is}
use Rattle.hk_laws.proofs.PatternValueLemmas.{reads_patterns_within}

abbrev Row : (Data → Pattern → Type 0) → (Data → Route → Type 0) → Data → Route → Type 0
Row Choice Inner d r = RouteRow Choice Inner d r

abbrev Extended : (Data → Pattern → Type 0) → (Data → Route → Type 0) → Bytes → Route → Type 0
Extended Choice Inner text r = RouteRow Choice Inner (only_at (codes "extension") (string text)) r

some_route : (left : Bytes) (r : Route) → option_map Extension (some_text left) ≡ Some r → (b : ℕ) × (bs : Bytes) × (left ≡ b ∷ bs) × (Extension (b ∷ bs) ≡ r)
some_route [] r e = let no_ : ⊥ = cc in absurd no_
some_route (b ∷ bs) r e = let is : Extension (b ∷ bs) ≡ r = cc in (b, bs, refl, is)

extended : (Choice : Data → Pattern → Type 0) (Inner : Data → Route → Type 0) (text : Bytes) (r : Route) → extension_of (Some text) ≡ Some r → Extended Choice Inner text r
extended Choice Inner [] r e = let no_ : ⊥ = cc in absurd no_
extended Choice Inner (b ∷ bs) r e =
    elim (b == 46) as (λ dot. (b == 46) ≡ dot → option_map Extension (some_text (if dot then bs else b ∷ bs)) ≡ Some r → Extended Choice Inner (b ∷ bs) r) [
      | true ↦ λ is made.
          let left = some_route bs r made in
          subst (λ t. Extended Choice Inner t r) (sym (λ i. eqb-true b 46 is i ∷ left.2 i)) (subst (Extended Choice Inner (46 ∷ (left.0 ∷ left.1))) left.3 (dotted left.0 left.1))
      | false ↦ λ is_not made.
          let route : Extension (b ∷ bs) ≡ r = cc in
          subst (Extended Choice Inner (b ∷ bs)) route (extension b bs (λ dot. let no_ : ⊥ = cc in no_))
    ] refl e

abbrev IsGsub : Items → Route → Type 0
IsGsub ds r = (b : ℕ) × (bs : Bytes) × (new : Bytes) × (ds ≡ two_items (string (b ∷ bs)) (string new)) × (Gsub (b ∷ bs) new ≡ r)

gsub_texts : (ds : Items) (r : Route) (p : Data × Data) (old new : Option Bytes) → two ds ≡ Some p → as_str p.0 ≡ old → as_str p.1 ≡ new → gsub_by old new ≡ Some r → IsGsub ds r
gsub_texts ds r p None new at old_is new_is e = let no_ : ⊥ = cc in absurd no_
gsub_texts ds r p (Some old) None at old_is new_is e = let no_ : ⊥ = cc in absurd no_
gsub_texts ds r p (Some []) (Some new) at old_is new_is e = let no_ : ⊥ = cc in absurd no_
gsub_texts ds r p (Some (b ∷ bs)) (Some new) at old_is new_is e =
    let is : Gsub (b ∷ bs) new ≡ r = cc in
    let one = is_string p.0 (b ∷ bs) old_is in
    let more = is_string p.1 new new_is in
    (b, bs, new, is_two ds p.0 p.1 at ∙ (λ i. two_items (one i) (more i)), is)

gsub_two : (ds : Items) (r : Route) (pair : Option (Data × Data)) → two ds ≡ pair → gsub_pair pair ≡ Some r → IsGsub ds r
gsub_two ds r None at e = let no_ : ⊥ = cc in absurd no_
gsub_two ds r (Some p) at e = gsub_texts ds r p (as_str p.0) (as_str p.1) at refl refl e

gsub_is : (o : Option Items) (r : Route) → gsub_of o ≡ Some r → (ds : Items) × (o ≡ Some ds) × IsGsub ds r
gsub_is None r e = let no_ : ⊥ = cc in absurd no_
gsub_is (Some ds) r e = (ds, refl, gsub_two ds r (two ds) refl e)

text_is : (o : Option Bytes) (r : Route) → extension_of o ≡ Some r → (text : Bytes) × (o ≡ Some text) × (extension_of (Some text) ≡ Some r)
text_is None r e = let no_ : ⊥ = cc in absurd no_
text_is (Some text) r e = (text, refl, e)

-- the row of a table with this key alone
row_at : (Choice : Data → Pattern → Type 0) (inner : Data → Option Route) (Inner : Data → Route → Type 0) → Reads inner Inner → (key : Bytes) (d : Data) (r : Route) → keyed inner key d ≡ Some r → Row Choice Inner (only_at key d) r
row_at Choice inner Inner reads key d r e =
    at_key (λ k. Row Choice Inner (only_at k d) r) key (codes "compose") _ _ r (λ f.
    let is = list_is inner Inner Compose (compose_by inner) (λ ds. refl) refl reads d r f in
    subst (λ t. Row Choice Inner (only_at (codes "compose") t) r) (sym is.2) (subst (Row Choice Inner (only_at (codes "compose") (array is.0))) is.4 (compose is.0 is.1 is.3)))
    (λ e. at_key (λ k. Row Choice Inner (only_at k d) r) key (codes "extension") _ _ r (λ f.
    let is = text_is (as_str d) r f in
    subst (λ t. Row Choice Inner (only_at (codes "extension") t) r) (sym (is_string d is.0 is.1)) (extended Choice Inner is.0 r is.2))
    (λ e. at_key (λ k. Row Choice Inner (only_at k d) r) key (codes "constant") _ _ r (λ f.
    let is = of_map Constant (as_str d) r f in
    subst (λ t. Row Choice Inner (only_at (codes "constant") t) r) (sym (is_string d is.0 is.1)) (subst (Row Choice Inner (only_at (codes "constant") (string is.0))) is.2 (constant is.0)))
    (λ e. at_key (λ k. Row Choice Inner (only_at k d) r) key (codes "gsub") _ _ r (λ f.
    let is = gsub_is (as_array d) r f in
    subst (λ t. Row Choice Inner (only_at (codes "gsub") t) r) (sym (is_array d is.0 is.1 ∙ ap array is.2.3)) (subst (Row Choice Inner (only_at (codes "gsub") (array (two_items (string (is.2.0 ∷ is.2.1)) (string is.2.2))))) is.2.4 (gsub is.2.0 is.2.1 is.2.2)))
    (λ e. let no_ : ⊥ = cc in absurd no_) e) e) e) e

use_is_when : codes "use" ≡ codes "when" → ⊥
use_is_when e = let no_ : ⊥ = cc in no_

when_is : (pattern : Data → Option Pattern) (Choice : Data → Pattern → Type 0) → Reads pattern Choice → (inner : Data → Option Route) (Inner : Data → Route → Type 0) → Reads inner Inner
    → (t d e : Data) (r : Route) → HasTwo (codes "use") (codes "when") e d t → when_by (pattern d) (inner e) ≡ Some r → Row Choice Inner t r
when_is pattern Choice chooses inner Inner reads t d e r has is = go (pattern d) (inner e) refl refl is
  where
    go : (o : Option Pattern) (u : Option Route) → pattern d ≡ o → inner e ≡ u → when_by o u ≡ Some r → Row Choice Inner t r
    go None u at to is = let no_ : ⊥ = cc in absurd no_
    go (Some p) None at to is = let no_ : ⊥ = cc in absurd no_
    go (Some p) (Some route) at to is =
        let made : When p route ≡ r = cc in
        subst (Row Choice Inner t) made (where_ t d e p route has ((chooses d p).0 at) ((reads e route).0 to))

two_at : (pattern : Data → Option Pattern) (Choice : Data → Pattern → Type 0) → Reads pattern Choice → (inner : Data → Option Route) (Inner : Data → Route → Type 0) → Reads inner Inner
    → (ms : Members) (r : Route) → use_when pattern inner (both (codes "use") (codes "when") ms) ≡ Some r → Row Choice Inner (table ms) r
two_at pattern Choice chooses inner Inner reads ms r e = go (both (codes "use") (codes "when") ms) refl e
  where
    go : (pair : Option (Data × Data)) → both (codes "use") (codes "when") ms ≡ pair → use_when pattern inner pair ≡ Some r → Row Choice Inner (table ms) r
    go None at e = let no_ : ⊥ = cc in absurd no_
    go (Some p) at e = when_is pattern Choice chooses inner Inner reads (table ms) p.1 p.0 r (is_both (codes "use") (codes "when") p.0 p.1 ms use_is_when at) e

row_is : (pattern : Data → Option Pattern) (Choice : Data → Pattern → Type 0) → Reads pattern Choice → (inner : Data → Option Route) (Inner : Data → Route → Type 0) → Reads inner Inner
    → (d : Data) (r : Route) → route_by pattern inner (as_str d) (as_array d) (as_table d) ≡ Some r → Row Choice Inner d r
row_is pattern Choice chooses inner Inner reads (string word) r e =
    at_key (λ k. Row Choice Inner (string k) r) word (codes "id") _ _ r (λ f. let is : Id ≡ r = cc in subst (Row Choice Inner (string (codes "id"))) is same)
    (λ f. let no_ : ⊥ = cc in absurd no_) e
row_is pattern Choice chooses inner Inner reads (array ds) r e =
    let is = of_map First (listed inner ds) r e in
    subst (Row Choice Inner (array ds)) is.2 (first ds is.0 (listed_is inner Inner reads ds is.0 is.1))
row_is pattern Choice chooses inner Inner reads (table (member k d no_members)) r e = row_at Choice inner Inner reads k d r e
row_is pattern Choice chooses inner Inner reads (table no_members) r e = two_at pattern Choice chooses inner Inner reads no_members r e
row_is pattern Choice chooses inner Inner reads (table (member k d (member l f ms))) r e = two_at pattern Choice chooses inner Inner reads (member k d (member l f ms)) r e
row_is pattern Choice chooses inner Inner reads (integer z) r e = let no_ : ⊥ = cc in absurd no_
row_is pattern Choice chooses inner Inner reads (float x) r e = let no_ : ⊥ = cc in absurd no_
row_is pattern Choice chooses inner Inner reads (boolean b) r e = let no_ : ⊥ = cc in absurd no_
row_is pattern Choice chooses inner Inner reads (datetime t) r e = let no_ : ⊥ = cc in absurd no_

when_row : (pattern : Data → Option Pattern) (inner : Data → Option Route) (t d e : Data) (p : Pattern) (r : Route) → HasTwo (codes "use") (codes "when") e d t → pattern d ≡ Some p → inner e ≡ Some r
    → route_by pattern inner (as_str t) (as_array t) (as_table t) ≡ Some (When p r)
when_row pattern inner _ d e p r in_order at to = λ i. when_by (at i) (to i)
when_row pattern inner _ d e p r turned at to = λ i. when_by (at i) (to i)

not_dot : (b : ℕ) (bs : Bytes) → b ≢ 46 → extension_of (Some (b ∷ bs)) ≡ Some (Extension (b ∷ bs))
not_dot b bs other = ap (λ dot. option_map Extension (some_text (if dot then bs else b ∷ bs))) (ne_eqb b 46 other)

is_row : (pattern : Data → Option Pattern) (Choice : Data → Pattern → Type 0) → Reads pattern Choice → (inner : Data → Option Route) (Inner : Data → Route → Type 0) → Reads inner Inner
    → (d : Data) (r : Route) → Row Choice Inner d r → route_by pattern inner (as_str d) (as_array d) (as_table d) ≡ Some r
is_row pattern Choice chooses inner Inner reads _ _ same = refl
is_row pattern Choice chooses inner Inner reads _ _ (first ds rs are) = ap (option_map First) (is_listed inner Inner reads ds rs are)
is_row pattern Choice chooses inner Inner reads _ _ (dotted b bs) = refl
is_row pattern Choice chooses inner Inner reads _ _ (extension b bs other) = not_dot b bs other
is_row pattern Choice chooses inner Inner reads _ _ (constant path) = refl
is_row pattern Choice chooses inner Inner reads _ _ (gsub b bs new) = refl
is_row pattern Choice chooses inner Inner reads _ _ (where_ t d e p r has at to) = when_row pattern inner t d e p r has ((chooses d p).1 at) ((reads e r).1 to)
is_row pattern Choice chooses inner Inner reads _ _ (compose ds rs are) = ap (option_map Compose) (is_listed inner Inner reads ds rs are)

reads_routes_within : (n : ℕ) → Reads (route_at n) (IsRouteWithin n)
reads_routes_within zero d r = (λ e. let no_ : ⊥ = cc in absurd no_, λ is. absurd is)
reads_routes_within (suc n) d r = (
  row_is (pattern_at n) (IsPatternWithin n) (reads_patterns_within n) (route_at n) (IsRouteWithin n) (reads_routes_within n) d r,
  is_row (pattern_at n) (IsPatternWithin n) (reads_patterns_within n) (route_at n) (IsRouteWithin n) (reads_routes_within n) d r,
)

pub reads_routes : Reads route_of IsRoute
reads_routes = reads_routes_within 16
