-- Steps that render, once their template was looked for.
use Rattle.std.proofs.Common.{◌≡◌, refl, sym, ap, ◌∙◌, subst, ℕ, true, [], ◌∷◌}
use Rattle.hk_base.specs.Identifier.{Ident}
use Rattle.hk_chain.specs.declared.page.Page.{Page}
use Rattle.hk_chain.specs.Facts.{FactsView}
use Rattle.hk_fix.specs.Pages.{Pages}
use Rattle.hk_fix.specs.Run.{saves_of}
use Rattle.hk_fix.specs.Task.{Task, ◌▷◌, waits, Run, run}
use Rattle.hk_rules.specs.Plan.{Lookups}
use Rattle.hk_template.specs.Tree.{Nodes}
use Rattle.hk_eval.specs.Blocks.{block_nodes}
use Rattle.hk_eval.specs.Asking.{is_text, text_if}
use Rattle.hk_eval.specs.Laws.{quiet-bind}
use Rattle.hk_eval.specs.Leading.{Leads}
use Rattle.hk_eval.specs.Quiet.{Quiet}
use Rattle.hk_eval.specs.Replies.{found_end, Comes}
use Rattle.hk_eval.specs.Templates.{tree_task, template_task}
use Rattle.hk_eval.specs.declared.found.Found.{Found}
use Rattle.hk_eval.specs.declared.found.Found.TheVariants as founds
use Rattle.hk_eval.specs.declared.place.Place.{Place}
use Rattle.hk_eval.proofs.Following.{leads-done}
use Rattle.hk_eval.proofs.Running.{bind-waits, bind-faults, quiet-run}
use Rattle.hk_machine.specs.Acting.{Acts, Begins}
use Rattle.hk_machine.specs.Applying.{page_with, rendered_task, apply_task, self_task}
use Rattle.hk_machine.specs.Laws.{quiet-rendered}
use Rattle.hk_machine.specs.declared.act.Act.{Act}
use Rattle.hk_machine.specs.declared.act.Act.TheVariants as acts

-- a template that was read leaves no log
pub ran-comes : (k : Pages) (t : Task Nodes) (old : FactsView) (found : Found) → run t k ≡ record { log = []; end = found_end found } → Comes k t old (found_end found) old
ran-comes k t old (founds.Tree block) e = ([], e, refl)
ran-comes k t old (founds.Asks pair) e = (ap (λ (r : Run Nodes). r.end) e, refl)
ran-comes k t old (founds.Fails x) e = ap (λ (r : Run Nodes). r.end) e

module _ (plan : Lookups) (k : Pages) (t : Task Nodes) (q : Quiet t) (item context : ℕ) (page : Page) (old new : FactsView) where
  abbrev R : Nodes → Task Page
  R = rendered_task plan item context page

  abbrev here : Place
  here = record { item = item; page = page; context = context }

  quiet : Quiet (t ▷ R)
  quiet = quiet-bind R t q (quiet-rendered plan item context page)

  -- what came of the template, and what began with it
  pub begins-acts : (x : Page) (found : Found) (act : Act) → Comes k t old (found_end found) new → Begins plan (record { item = item; page = page; context = context }) found act → Acts plan k (t ▷ rendered_task plan item context page) x old act new
  begins-acts x (founds.Tree block) act c b =
      subst (λ (a : Act). Acts plan k (t ▷ R) x old a new) (sym b.1)
      (record {
        log = c.0;
        quiet = ap (λ (r : Run Nodes). saves_of r.log) (sym c.1) ∙ quiet-run t k q;
        notes = c.2;
        leads = subst (λ (u : Task Page). Leads k (t ▷ R) c.0 u) (ap (λ u. u ▷ page_with) (sym b.2)) (leads-done k t R c.0 (block_nodes block) c.1);
      })
  begins-acts x (founds.Asks pair) act c b =
      subst (λ (a : Act). Acts plan k (t ▷ R) x old a new) (sym b.1)
      (quiet, ap (λ (r : Run Page). r.end) (bind-waits k t R (pair ∷ []) c.0) ∙ ap waits (sym b.2), c.1)
  begins-acts x (founds.Fails e) act c b =
      subst (λ (a : Act). Acts plan k (t ▷ R) x old a new) (sym b) (quiet, ap (λ (r : Run Page). r.end) (bind-faults k t R e c))

module _ (plan : Lookups) (item context : ℕ) (page : Page) where
  -- the current page is text
  pub text-applied : (id : Ident) → is_text page.kind ≡ true → apply_task plan item id context page ≡ template_task plan id ▷ rendered_task plan item context page
  text-applied id e = ap (λ b. text_if (plan.id item) page b ▷ (λ text. template_task plan id ▷ rendered_task plan item context text)) e

  pub text-itself : is_text page.kind ≡ true → self_task plan item context page ≡ tree_task page.body ▷ rendered_task plan item context page
  text-itself e = ap (λ b. text_if (plan.id item) page b ▷ (λ text. tree_task text.body ▷ rendered_task plan item context text)) e
