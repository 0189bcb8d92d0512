-- Runs of tasks one after another, and how a task goes on.
use Rattle.std.proofs.Common.{◌≡◌, refl, sym, ap, ◌∙◌, ℕ, false, cond, List, [], ◌∷◌, ◌++◌, append_assoc, Option, Some, None, is_none}
use Rattle.hk_chain.specs.declared.page.Page.{Page}
use Rattle.hk_chain.specs.declared.fault.Fault.{Fault}
use Rattle.hk_chain.specs.Facts.{FactsView}
use Rattle.hk_fix.specs.Pages.{Pages, Extends, lacking, all_pages}
use Rattle.hk_fix.specs.Task.{Task, gives, fails, asks, notes, used, saved, ◌▷◌, Mark, asked, note, End, done, fault, waits, Run, run, onward, answered}
use Rattle.hk_fix.specs.TaskLaws.{follow, run_bind, run_waits, run_same, Agree}
use Rattle.hk_fix.specs.Run.{Save, asks_of, saves_of, lacked, is_wait}
use Rattle.hk_eval.specs.Quiet.{Quiet}
use Rattle.hk_eval.specs.Leading.{Leads, Went}
use Rattle.hk_eval.specs.Noted.{noted}
use Rattle.hk_eval.proofs.NotedLogs.{noted-append}

module _ {A B : Type 0} (k : Pages) (t : Task A) (f : A → Task B) where
  pub bind-done : (log : List Mark) (v : A) → run t k ≡ record { log = log; end = done v } → run (t ▷ f) k ≡ onward log (run (f v) k)
  bind-done log v e = run_bind t f k ∙ ap (λ (r : Run A). follow r.log r.end (λ x. run (f x) k)) e

  pub bind-waits : (l : List ℕ) → (run t k).end ≡ waits l → run (t ▷ f) k ≡ record { log = (run t k).log; end = waits l }
  bind-waits l e = run_bind t f k ∙ ap (λ x. follow (run t k).log x (λ x. run (f x) k)) e

  pub bind-faults : (x : Fault) → (run t k).end ≡ fault x → run (t ▷ f) k ≡ record { log = (run t k).log; end = fault x }
  bind-faults x e = run_bind t f k ∙ ap (λ x. follow (run t k).log x (λ x. run (f x) k)) e

-- pages of pairs of which none lacks are the same under more pages
agrees : (k m : Pages) (ps : List ℕ) → Extends k m → lacking k ps ≡ [] → Agree k m ps
agrees k m [] ext e = tt
agrees k m (p ∷ ps) ext e = at (k p) refl e (λ w. agrees k m ps ext w)
  where
    at : (o : Option Page) → k p ≡ o → cond (is_none o) (p ∷ lacking k ps) (lacking k ps) ≡ [] → (lacking k ps ≡ [] → Agree k m ps) → Agree k m (p ∷ ps)
    at None q w rec = cc
    at (Some x) q w rec = (ext p x q ∙ sym q, rec w)

over-lacks : {A : Type 0} (e : End A) → is_wait e ≡ false → lacked e ≡ []
over-lacks (done x) w = refl
over-lacks (fault f) w = refl
over-lacks (waits ps) w = cc

-- a run that doesn't wait is the same under more pages
pub run-over : {A : Type 0} (t : Task A) (k m : Pages) → Extends k m → is_wait (run t k).end ≡ false → run t m ≡ run t k
run-over t k m ext w = run_same t k m (agrees k m (asks_of (run t k).log) ext (run_waits t k ∙ over-lacks (run t k).end w))

pub saves-append : (a b : List Mark) → saves_of (a ++ b) ≡ saves_of a ++ saves_of b
saves-append [] b = refl
saves-append (asked ps ∷ a) b = saves-append a b
saves-append (note (used n) ∷ a) b = saves-append a b
saves-append (note (saved p x) ∷ a) b = ap (λ (l : List Save). (let s : Save = record { pair = p; page = x } in s ∷ l)) (saves-append a b)

-- a quiet task saves nothing
pub quiet-run : {A : Type 0} (t : Task A) (k : Pages) → Quiet t → saves_of (run t k).log ≡ []
quiet-run (gives x) k q = refl
quiet-run (fails e) k q = refl
quiet-run (asks ps f) k q =
    elim (all_pages k ps) as (λ o. saves_of (answered ps (lacking k ps) (λ xs. run (f xs) k) o).log ≡ []) [
      | None ↦ refl
      | Some xs ↦ quiet-run (f xs) k (q xs)
    ]
quiet-run (notes (used n) t) k q = quiet-run t k q
quiet-run (notes (saved p x) t) k q = absurd q

onward-twice : {A : Type 0} (a b : List Mark) (r : Run A) → onward a (onward b r) ≡ onward (a ++ b) r
onward-twice a b r = ap (λ l. record { log = l; end = r.end }) (sym (append_assoc a b r.log))

pub leads-on : {A : Type 0} (k : Pages) (t u w : Task A) (a b : List Mark) → Leads k t a u → Leads k u b w → Leads k t (a ++ b) w
leads-on k t u w a b h g = λ m ext. h m ext ∙ (ap (onward a) (g m ext) ∙ onward-twice a b (run w m))

pub leads-more : {A : Type 0} (k m : Pages) (t u : Task A) (a : List Mark) → Extends k m → Leads k t a u → Leads m t a u
leads-more k m t u a ext h = λ n more. h n (λ p x e. more p x (ext p x e))

pub went-none : {A : Type 0} (k : Pages) (t : Task A) (f : FactsView) → Went k t f t f
went-none k t f = record { log = []; quiet = refl; notes = refl; leads = λ m ext. refl }

pub went-on : {A : Type 0} (k : Pages) (t u w : Task A) (a b c : FactsView) → Went k t a u b → Went k u b w c → Went k t a w c
went-on k t u w a b c h g =
    record {
      log = h.log ++ g.log;
      quiet = saves-append h.log g.log ∙ (ap (λ l. l ++ saves_of g.log) h.quiet ∙ g.quiet);
      notes = g.notes ∙ (ap (λ f. noted f g.log) h.notes ∙ sym (noted-append a h.log g.log));
      leads = leads-on k t u w h.log g.log h.leads g.leads;
    }
