-- What a node comes to, from what was looked up.
use Rattle.std.proofs.Common.{◌≡◌, refl, sym, ap, ◌∙◌, subst, ℕ, Vec, List, [], ◌∷◌, ◌++◌, append-nil}
use Rattle.std.specs.declared.alloc.Global.{Global}
use Rattle.hk_base.specs.Bytes.{Bytes}
use Rattle.hk_chain.specs.Facts.{FactsView}
use Rattle.hk_chain.specs.declared.fault.Fault.{Fault}
use Rattle.hk_chain.specs.declared.numbers.PairNo.{PairNo}
use Rattle.hk_fix.specs.Pages.{Pages}
use Rattle.hk_fix.specs.Task.{Task, gives, fails, ◌▷◌, Mark, End, done, fault, waits, Run, run, onward}
use Rattle.hk_fix.specs.TaskLaws.{bind_assoc}
use Rattle.hk_rules.specs.Plan.{Lookups}
use Rattle.hk_eval.specs.Going.{Moves}
use Rattle.hk_eval.specs.Leading.{Leads}
use Rattle.hk_eval.specs.Noted.{noted}
use Rattle.hk_eval.specs.Replies.{Comes}
use Rattle.hk_eval.specs.Rest.{onto, frame_rest}
use Rattle.hk_eval.specs.declared.frame.Frame.{Frame}
use Rattle.hk_eval.specs.declared.moves.Move.TheVariants as moves
use Rattle.hk_eval.proofs.Following.{leads-done}
use Rattle.hk_eval.proofs.Running.{bind-done, bind-waits, bind-faults}

log-nil : {A : Type 0} (log : List Mark) (e : End A) → onward log (record { log = []; end = e }) ≡ record { log = log; end = e }
log-nil log e = ap (λ l. record { log = l; end = e }) (append-nil log)

module _ {A : Type 0} (plan : Lookups) (k : Pages) (u : Task A) (f : A → Task Bytes) (t : Task Bytes) (is : t ≡ u ▷ f) (old new : FactsView) (e : End A) (came : Comes k u old e new) (out : Bytes) where
  of_end : (w : End A) → e ≡ w → Comes k u old w new
  of_end w q = subst (λ w. Comes k u old w new) q came

  -- it waits, or fails
  pub then_asks : (pairs : Vec PairNo Global) (pair : ℕ) → pairs.items ≡ pair ∷ [] → e ≡ waits (pair ∷ []) → Moves plan k t old out (moves.Asks pairs) new out
  then_asks pairs pair m q =
      let c = of_end (waits (pair ∷ [])) q in
      (ap (λ (w : Task Bytes). (run w k).end) is ∙ (ap (λ (r : Run Bytes). r.end) (bind-waits k u f (pair ∷ []) c.0) ∙ ap waits (sym m)), c.1, refl)

  pub then_faults : (x : Fault) → e ≡ fault x → Moves plan k t old out (moves.Fails x) new out
  then_faults x q = ap (λ (w : Task Bytes). (run w k).end) is ∙ ap (λ (r : Run Bytes). r.end) (bind-faults k u f x (of_end (fault x) q))

  module _ (v : A) (q : e ≡ done v) where
    found : Comes k u old (done v) new
    found = of_end (done v) q

    -- what was found is no value of the kind that is wanted
    pub then_fails : (x : Fault) → f v ≡ fails x → Moves plan k t old out (moves.Fails x) new out
    then_fails x w =
        ap (λ (w : Task Bytes). (run w k).end) is ∙ ap (λ (r : Run Bytes). r.end) (bind-done k u f found.0 v found.1 ∙ ap (λ (t : Task Bytes). onward found.0 (run t k)) w)

    -- it is a text
    pub then_gives : (bytes more : Bytes) → f v ≡ gives bytes → more ≡ out ++ bytes → Moves plan k t old out moves.Wrote new more
    then_gives bytes more w o =
        record {
          log = found.0;
          text = bytes;
          notes = found.2;
          written = o;
          is = ap (λ (w : Task Bytes). run w k) is ∙ (bind-done k u f found.0 v found.1 ∙ (ap (λ (t : Task Bytes). onward found.0 (run t k)) w ∙ log-nil found.0 (done bytes)));
        }

    -- what follows is a frame's work
    pub then_frame : (frame : Frame) → ((o : Bytes) → onto o (f v) ≡ frame_rest plan frame o) → Moves plan k t old out (moves.Push frame) new out
    then_frame frame w =
        record {
          log = found.0;
          notes = found.2;
          written = refl;
          leads = λ o. subst (λ (x : Task Bytes). Leads k (onto o x) found.0 (frame_rest plan frame o)) (sym is)
              (subst (λ (x : Task Bytes). Leads k (onto o (u ▷ f)) found.0 x) (w o)
              (subst (λ (x : Task Bytes). Leads k x found.0 (onto o (f v))) (sym (bind_assoc u f (λ x. gives (o ++ x)))) (leads-done k u (λ x. onto o (f x)) found.0 v found.1)));
        }
