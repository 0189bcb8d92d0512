-- A computation that may ask for pages. What it asks for doesn't depend on which pages are known, but on the pages alone.
use Rattle.std.specs.Prelude.{ℕ, List, [], ◌∷◌, ◌++◌, Option, Some, None}
use Rattle.hk_chain.specs.declared.page.Page.{Page}
use Rattle.hk_chain.specs.declared.fault.Fault.{Fault}
use Rattle.hk_fix.specs.Pages.{Pages, lacking, all_pages}

-- a pattern that was used, or a page that was saved
pub data Note : Type 0 where
  used : ℕ → Note
  saved : ℕ → Page → Note

-- what a run leaves in its log: a group of pairs that are asked for at once, or a note
pub data Mark : Type 0 where
  asked : List ℕ → Mark
  note : Note → Mark

pub data Task (A : Type 0) : Type 0 where
  gives : A → Task A
  fails : Fault → Task A
  asks : List ℕ → (List Page → Task A) → Task A
  notes : Note → Task A → Task A

-- one after the other
infixl 10 ◌▷◌
abbrev pub ◌▷◌ : {A B : Type 0} → Task A → (A → Task B) → Task B
gives x ▷ f = f x
fails e ▷ f = fails e
asks ps g ▷ f = asks ps (λ xs. g xs ▷ f)
notes m t ▷ f = notes m (t ▷ f)

pub data End (A : Type 0) : Type 0 where
  done : A → End A
  fault : Fault → End A
  waits : List ℕ → End A

pub record Run (A : Type 0) : Type 0 where
  pub log : List Mark
  pub end : End A

abbrev pub onward : {A : Type 0} → List Mark → Run A → Run A
onward log r = record { log = log ++ r.log; end = r.end }

abbrev pub answered : {A : Type 0} → List ℕ → List ℕ → (List Page → Run A) → Option (List Page) → Run A
answered ps lacks f None = record { log = asked ps ∷ []; end = waits lacks }
answered ps lacks f (Some xs) = onward (asked ps ∷ []) (f xs)

-- what it does under the known pages: a group that isn't known whole ends it in the wait for what is lacking
abbrev pub run : {A : Type 0} → Task A → Pages → Run A
run (gives x) k = record { log = []; end = done x }
run (fails e) k = record { log = []; end = fault e }
run (asks ps f) k = answered ps (lacking k ps) (λ xs. run (f xs) k) (all_pages k ps)
run (notes m t) k = onward (note m ∷ []) (run t k)
