-- The pairs of an item but its last: those that hold its pages on the way.
use Rattle.std.specs.Prelude.{◌≡◌, ◌≢◌, ℕ, ◌<◌, true, List, [], ◌∷◌, nat_eq}
use Rattle.std.specs.List.{AllByRecursion, list_any}
use Rattle.hk_chain.specs.Layout.{Shape, pairs, item_of, final_of}

-- the numbers rise
abbrev pub Ascending : List ℕ → Type 0
Ascending [] = Unit {0}
Ascending (p ∷ ps) = AllByRecursion (λ q. p < q) ps × Ascending ps

-- these are the pairs of an item in order, without the last
pub record AreSnapshots (lay : Shape) (i : ℕ) (ps : List ℕ) : Type 0 where
  pub own : AllByRecursion (λ p. (p < pairs lay) × (item_of lay p ≡ i) × (p ≢ final_of lay i)) ps
  pub rising : Ascending ps
  pub all : (p : ℕ) → p < pairs lay → item_of lay p ≡ i → p ≢ final_of lay i → list_any (nat_eq p) ps ≡ true
