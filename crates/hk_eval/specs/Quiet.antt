-- Tasks that save nothing.
use Rattle.std.specs.Prelude.{List}
use Rattle.hk_chain.specs.declared.page.Page.{Page}
use Rattle.hk_fix.specs.Task.{Task, gives, fails, asks, notes, used, saved}

-- a task that saves nothing
abbrev pub Quiet : {A : Type 0} → Task A → Type 0
Quiet (gives x) = Unit {0}
Quiet (fails e) = Unit {0}
Quiet (asks ps f) = (xs : List Page) → Quiet (f xs)
Quiet (notes (used n) t) = Quiet t
Quiet (notes (saved p x) t) = ⊥
