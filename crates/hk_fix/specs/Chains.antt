-- What makes the runs of tasks those of a family of compilers.
use Rattle.std.specs.Prelude.{◌≡◌, ℕ, ◌<◌, List, [], ◌∷◌, nat_eq}
use Rattle.std.specs.List.{AllByRecursion, IsDistinct}
use Rattle.hk_chain.specs.declared.page.Page.{Page}
use Rattle.hk_chain.specs.Layout.{Shape, pairs}
use Rattle.hk_chain.specs.Snapshots.{AreSnapshots}
use Rattle.hk_fix.specs.Task.{Task, gives, fails, asks, notes, used, saved}

-- P holds of each group that a task may ask for
abbrev pub AllGroups : {A : Type 0} → (List ℕ → Type 0) → Task A → Type 0
AllGroups P (gives x) = Unit {0}
AllGroups P (fails e) = Unit {0}
AllGroups P (asks ps f) = P ps × ((xs : List Page) → AllGroups P (f xs))
AllGroups P (notes n t) = AllGroups P t

abbrev pub NothingLeft : List ℕ → Type 0
NothingLeft [] = Unit {0}
NothingLeft (p ∷ ps) = ⊥

abbrev pub NextIs : ℕ → List ℕ → (List ℕ → Type 0) → Type 0
NextIs p [] P = ⊥
NextIs p (q ∷ qs) P = (p ≡ q) × P qs

-- a task saves pages for exactly these pairs in order, where it goes through
abbrev pub Saves : {A : Type 0} → List ℕ → Task A → Type 0
Saves ps (gives x) = NothingLeft ps
Saves ps (fails e) = Unit {0}
Saves ps (asks qs f) = (xs : List Page) → Saves ps (f xs)
Saves ps (notes (used n) t) = Saves ps t
Saves ps (notes (saved p x) t) = NextIs p ps (λ qs. Saves qs t)

-- each item's task asks for pairs of the layout, for none twice in a group, and saves the item's pairs
pub record AreChains (lay : Shape) (task : ℕ → Task Page) (snapshots : ℕ → List ℕ) : Type 0 where
  pub distinct : (i : ℕ) → i < lay.items → AllGroups (IsDistinct nat_eq) (task i)
  pub within : (i : ℕ) → i < lay.items → AllGroups (AllByRecursion (λ p. p < pairs lay)) (task i)
  pub saves : (i : ℕ) → i < lay.items → Saves (snapshots i) (task i)
  pub in_order : (i : ℕ) → i < lay.items → AreSnapshots lay i (snapshots i)
