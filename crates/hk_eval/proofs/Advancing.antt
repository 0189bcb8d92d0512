-- Steps one after another, up to a stop.
use Rattle.std.proofs.Common.{◌≡◌, refl, sym, ap, ◌∙◌, subst, ℕ, Vec, List, [], ◌∷◌, ◌++◌}
use Rattle.std.specs.declared.alloc.Global.{Global}
use Rattle.hk_base.specs.Bytes.{Bytes}
use Rattle.hk_chain.specs.Facts.{FactsView}
use Rattle.hk_chain.specs.declared.numbers.PairNo.{PairNo}
use Rattle.hk_chain.specs.declared.fault.Fault.{Fault}
use Rattle.hk_fix.specs.Pages.{Pages, Extends}
use Rattle.hk_fix.specs.Run.{saves_of}
use Rattle.hk_fix.specs.Task.{Task, gives, Run, run, fault, waits}
use Rattle.hk_eval.specs.Going.{Goes, Steps, Stops}
use Rattle.hk_eval.specs.Leading.{Leads, Went}
use Rattle.hk_eval.specs.Noted.{noted}
use Rattle.hk_eval.specs.Quiet.{Quiet}
use Rattle.hk_eval.specs.declared.moves.Act.{Act}
use Rattle.hk_eval.specs.declared.moves.Act.TheVariants as acts
use Rattle.hk_eval.specs.declared.moves.Stop.{Stop}
use Rattle.hk_eval.specs.declared.moves.Stop.TheVariants as stops
use Rattle.hk_eval.proofs.NotedLogs.{noted-append}
use Rattle.hk_eval.proofs.Running.{leads-on, leads-more, quiet-run, saves-append}

pub goes-none : (k : Pages) (t u : Task Bytes) (f : FactsView) → t ≡ u → Goes k t f u f
goes-none k t u f e = record { log = []; notes = refl; leads = λ m ext. ap (λ w. run w m) e }

pub goes-end : (k : Pages) (t u : Task Bytes) (f g : FactsView) → Goes k t f u g → (run t k).end ≡ (run u k).end
goes-end k t u f g so = ap (λ (r : Run Bytes). r.end) (so.leads k (λ p x q. q))

pub goes-more : (k m : Pages) (t u : Task Bytes) (f g : FactsView) → Extends k m → Goes k t f u g → Goes m t f u g
goes-more k m t u f g ext so = record { log = so.log; notes = so.notes; leads = leads-more k m t u so.log ext so.leads }

module _ (k : Pages) (t u w : Task Bytes) (f g h : FactsView) (so : Goes k t f u g) where
  pub goes-both : Goes k u g w h → Goes k t f w h
  goes-both s =
      record {
        log = so.log ++ s.log;
        notes = s.notes ∙ (ap (λ x. noted x s.log) so.notes ∙ sym (noted-append f so.log s.log));
        leads = leads-on k t u w so.log s.log so.leads s.leads;
      }

  module _ (out : Bytes) (step : Act) (s : Steps k u g step w h out) where
    taken : (v : Act) → step ≡ v → Steps k u g v w h out
    taken v e = subst (λ v. Steps k u g v w h out) e s

    pub then-goes : step ≡ acts.Goes → Goes k t f w h
    then-goes e = goes-both (taken acts.Goes e)

    pub then-asks : (stop : Stop) (pairs : Vec PairNo Global) → step ≡ acts.Asks pairs → stop ≡ stops.Asks pairs → Stops k t f stop w h
    then-asks stop pairs e q =
        let a = taken (acts.Asks pairs) e in
        subst (λ v. Stops k t f v w h) (sym q)
        (goes-both (record { log = []; notes = a.2; leads = λ m ext. ap (λ x. run x m) (sym a.1) }), ap (λ (x : Task Bytes). (run x k).end) a.1 ∙ a.0)

    pub then-text : (stop : Stop) (text : Bytes) (v : Task Bytes) → step ≡ acts.Done → stop ≡ stops.Text text → text ≡ out → Stops k t f stop v h
    then-text stop text v e q is =
        let a = taken acts.Done e in
        subst (λ x. Stops k t f x v h) (sym q)
        (record {
          log = so.log;
          notes = a.1 ∙ so.notes;
          leads = subst (λ (x : Task Bytes). Leads k t so.log x) (a.0 ∙ ap gives (sym is)) so.leads;
        })

    pub then-stops : (stop : Stop) (x : Fault) (v : Task Bytes) → step ≡ acts.Fails x → stop ≡ stops.Fails x → Stops k t f stop v h
    then-stops stop x v e q = subst (λ y. Stops k t f y v h) (sym q) (goes-end k t u f g so ∙ taken (acts.Fails x) e)

-- what a task that saves nothing leads to saves nothing either
none-before : {A : Type 0} (xs ys : List A) → xs ++ ys ≡ [] → xs ≡ []
none-before [] ys e = refl
none-before (x ∷ xs) ys e = cc

none-after : {A : Type 0} (xs ys : List A) → xs ++ ys ≡ [] → ys ≡ []
none-after [] ys e = e
none-after (x ∷ xs) ys e = cc

module _ (k : Pages) (t u : Task Bytes) (f g : FactsView) (quiet : Quiet t) (so : Goes k t f u g) where
  nothing : saves_of so.log ++ saves_of (run u k).log ≡ []
  nothing = sym (saves-append so.log (run u k).log) ∙ (ap (λ (r : Run Bytes). saves_of r.log) (sym (so.leads k (λ p x q. q))) ∙ quiet-run t k quiet)

  pub goes-went : Went k t f u g
  goes-went = record { log = so.log; quiet = none-before (saves_of so.log) (saves_of (run u k).log) nothing; notes = so.notes; leads = so.leads }

  pub goes-quiet : saves_of (run u k).log ≡ []
  goes-quiet = none-after (saves_of so.log) (saves_of (run u k).log) nothing
