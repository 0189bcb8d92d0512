-- What follows a task that has led to something.
use Rattle.std.proofs.Common.{◌≡◌, refl, sym, ap, ◌∙◌, List, [], ◌++◌, append_assoc}
use Rattle.hk_fix.specs.Pages.{Pages}
use Rattle.hk_fix.specs.Task.{Task, ◌▷◌, Mark, End, done, fault, waits, Run, run, onward}
use Rattle.hk_fix.specs.TaskLaws.{follow, run_bind}
use Rattle.hk_fix.specs.Run.{is_wait}
use Rattle.hk_eval.specs.Leading.{Leads}
use Rattle.hk_eval.proofs.Running.{bind-done, run-over}

pub leads-same : {A : Type 0} (k : Pages) (t u : Task A) → t ≡ u → Leads k t [] u
leads-same k t u e = λ m ext. ap (λ w. run w m) e

module _ {A B : Type 0} where
  -- a task that gives something leads to what follows
  pub leads-done : (k : Pages) (u : Task A) (f : A → Task B) (log : List Mark) (v : A) → run u k ≡ record { log = log; end = done v } → Leads k (u ▷ f) log (f v)
  leads-done k u f log v e = λ m ext. bind-done m u f log v (run-over u k m ext (ap (λ (r : Run A). is_wait r.end) e) ∙ e)

  onward-follow : (a b : List Mark) (e : End A) (f : A → Run B) → onward a (follow b e f) ≡ follow (a ++ b) e f
  onward-follow a b (done x) f = ap (λ l. record { log = l; end = (f x).end }) (sym (append_assoc a b (f x).log))
  onward-follow a b (fault e) f = refl
  onward-follow a b (waits ps) f = refl

  -- what follows the first follows the second
  pub leads-bind : (k : Pages) (t u : Task A) (log : List Mark) (f : A → Task B) → Leads k t log u → Leads k (t ▷ f) log (u ▷ f)
  leads-bind k t u log f h = λ m ext.
      run_bind t f m ∙ (ap (λ (r : Run A). follow r.log r.end (λ x. run (f x) m)) (h m ext)
      ∙ (sym (onward-follow log (run u m).log (run u m).end (λ x. run (f x) m)) ∙ ap (onward log) (sym (run_bind u f m))))
