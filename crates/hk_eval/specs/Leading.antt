-- How a task goes on, under every map of pages that extends what is told.
use Rattle.std.specs.Prelude.{◌≡◌, List, []}
use Rattle.hk_chain.specs.Facts.{FactsView}
use Rattle.hk_fix.specs.Pages.{Pages, Extends}
use Rattle.hk_fix.specs.Task.{Task, Mark, run, onward}
use Rattle.hk_fix.specs.Run.{saves_of}
use Rattle.hk_eval.specs.Noted.{noted}

-- the first leaves this log and goes on as the second
abbrev pub Leads : {A : Type 0} → Pages → Task A → List Mark → Task A → Type 0
Leads k t log u = (m : Pages) → Extends k m → run t m ≡ onward log (run u m)

-- the first has come to the second without a save, and its marks were noted
pub record Went {A : Type 0} (k : Pages) (t : Task A) (old : FactsView) (u : Task A) (new : FactsView) : Type 0 where
  pub log : List Mark
  pub quiet : saves_of log ≡ []
  pub notes : new ≡ noted old log
  pub leads : Leads k t log u
