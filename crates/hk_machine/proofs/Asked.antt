-- Steps whose pages are told.
use Rattle.std.proofs.Common.{◌≡◌, sym, ap, ◌∙◌, ℕ, true, [], ◌∷◌, Some}
use Rattle.hk_base.specs.Identifier.{Ident}
use Rattle.hk_chain.specs.declared.page.Page.{Page}
use Rattle.hk_chain.specs.Facts.{FactsView}
use Rattle.hk_fix.specs.Pages.{Pages}
use Rattle.hk_fix.specs.Task.{asks, asked, done, Run, run, onward}
use Rattle.hk_machine.specs.Acting.{Given}
use Rattle.hk_eval.specs.Asking.{first_page, is_text, text_if, need_text}
use Rattle.hk_eval.specs.Laws.{quiet-text}
use Rattle.hk_eval.specs.Noted.{with_group}

-- a page that was loaded
pub load-given : (k : Pages) (p : ℕ) (x y : Page) (id : Ident) (f g : FactsView) → k p ≡ Some x → is_text x.kind ≡ true → g ≡ with_group f (p ∷ []) → y ≡ x → Given k (asks (p ∷ []) (λ xs. need_text id (first_page xs))) f y g
load-given k p x y id f g at text noted same =
    record {
      log = asked (p ∷ []) ∷ [];
      quiet = λ xs. quiet-text id (first_page xs) (is_text (first_page xs).kind);
      notes = noted;
      is = rw at (ap (λ b. onward (asked (p ∷ []) ∷ []) (run (text_if id x b) k)) text ∙ ap (λ (z : Page). (let r : Run Page = record { log = asked (p ∷ []) ∷ []; end = done z } in r)) (sym same));
    }
