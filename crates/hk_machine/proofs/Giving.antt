-- A step that gives a page.
use Rattle.std.proofs.Common.{ap, sym, ◌∙◌}
use Rattle.hk_chain.specs.declared.page.Page.{Page}
use Rattle.hk_chain.specs.Facts.{FactsView}
use Rattle.hk_fix.specs.Pages.{Pages}
use Rattle.hk_fix.specs.Run.{saves_of, is_wait}
use Rattle.hk_fix.specs.Task.{Task, ◌▷◌, Run}
use Rattle.hk_eval.specs.Leading.{Went}
use Rattle.hk_eval.proofs.Running.{bind-done, run-over, quiet-run}
use Rattle.hk_machine.specs.Acting.{Given}

-- a step that gave a page has led to what follows
pub given-went : (k : Pages) (t : Task Page) (f : Page → Task Page) (old : FactsView) (page : Page) (new : FactsView) → Given k t old page new → Went k (t ▷ f) old (f page) new
given-went k t f old page new g =
    record {
      log = g.log;
      quiet = ap (λ (r : Run Page). saves_of r.log) (sym g.is) ∙ quiet-run t k g.quiet;
      notes = g.notes;
      leads = λ m ext. bind-done m t f g.log page (run-over t k m ext (ap (λ (r : Run Page). is_wait r.end) g.is) ∙ g.is);
    }
