-- The facts of an item whose compiler went through.
use Rattle.std.specs.Prelude.{◌≡◌, ℕ, ◌<◌, List, [], ◌∷◌, ◌++◌, length, Option, Some, nat_eq}
use Rattle.std.specs.List.{AllByRecursion, IsDistinct}
use Rattle.hk_chain.specs.Facts.{TraceMark, group, save, FactsView}
use Rattle.hk_chain.specs.Layout.{Shape, pairs, final_of}
use Rattle.hk_chain.specs.Snapshots.{AreSnapshots}

-- the pairs of the groups of a trace, in order
abbrev pub asked_in : List TraceMark → List ℕ
asked_in [] = []
asked_in (group ps ∷ marks) = ps ++ asked_in marks
asked_in (save p ∷ marks) = asked_in marks

-- its saved pairs, in order
abbrev pub saved_in : List TraceMark → List ℕ
saved_in [] = []
saved_in (group ps ∷ marks) = saved_in marks
saved_in (save p ∷ marks) = p ∷ saved_in marks

abbrev pub HasPair : TraceMark → Type 0
HasPair (group ps) = 0 < length ps
HasPair (save p) = Unit {0}

-- its trace has the asked pairs in groups, none twice and no empty group, and saves all pairs of the item in order, the
-- finished page's at the end
pub record AreFacts (lay : Shape) (i : ℕ) (f : FactsView) : Type 0 where
  pub groups : AllByRecursion HasPair f.trace
  pub asked : asked_in f.trace ≡ f.asks
  pub once : IsDistinct nat_eq f.asks
  pub within : AllByRecursion (λ p. p < pairs lay) f.asks
  pub patterns : IsDistinct nat_eq f.patterns
  pub saved : (way : List ℕ) × AreSnapshots lay i way × (saved_in f.trace ≡ way ++ final_of lay i ∷ [])
  pub last : (marks : List TraceMark) × (f.trace ≡ marks ++ save (final_of lay i) ∷ [])

-- each item that has facts has such
abbrev pub AllAreFacts : Shape → (ℕ → Option FactsView) → Type 0
AllAreFacts lay facts = (i : ℕ) (f : FactsView) → i < lay.items → facts i ≡ Some f → AreFacts lay i f
