-- One step of a chain, and a rendering that goes on.
use Rattle.std.proofs.Common.{◌≡◌, refl, sym, ap, ◌∙◌, subst, List, [], ◌∷◌, ◌++◌, Option, Some, None, ℕ}
use Rattle.hk_base.specs.Bytes.{Bytes}
use Rattle.hk_chain.specs.declared.page.Page.{Page}
use Rattle.hk_chain.specs.declared.fault.Fault.{Fault}
use Rattle.hk_chain.specs.Facts.{FactsView}
use Rattle.hk_fix.specs.Pages.{Pages}
use Rattle.hk_fix.specs.Task.{Task, gives, notes, saved, ◌▷◌, fault, waits, Run, run, onward}
use Rattle.hk_fix.specs.Run.{Save, saves_of}
use Rattle.hk_rules.specs.Plan.{Lookups}
use Rattle.hk_eval.specs.Asking.{text_page}
use Rattle.hk_eval.specs.Going.{Goes}
use Rattle.hk_eval.specs.Laws.{quiet-bind}
use Rattle.hk_eval.specs.Leading.{Went}
use Rattle.hk_eval.specs.Left.{left_of}
use Rattle.hk_eval.specs.Quiet.{Quiet}
use Rattle.hk_eval.specs.declared.stack.Stack.{Stack}
use Rattle.hk_eval.proofs.Following.{leads-bind}
use Rattle.hk_eval.proofs.Running.{bind-waits, bind-faults, quiet-run, saves-append, went-none, went-on}
use Rattle.hk_machine.specs.Acting.{Given, Stops, Turns}
use Rattle.hk_machine.specs.Applying.{page_with}
use Rattle.hk_machine.specs.declared.act.Stop.{Stop}
use Rattle.hk_machine.specs.declared.act.Stop.TheVariants as stops
use Rattle.hk_machine.proofs.Giving.{given-went}
use Rattle.hk_machine.proofs.Quieting.{quiet-left}

-- what follows the first follows the second
pub went-bind : {A B : Type 0} (k : Pages) (t u : Task A) (f : A → Task B) (old new : FactsView) → Went k t old u new → Went k (t ▷ f) old (u ▷ f) new
went-bind k t u f old new w = record { log = w.log; quiet = w.quiet; notes = w.notes; leads = leads-bind k t u w.log f w.leads }

-- ---- steps after others

module _ (k : Pages) (start t u : Task Page) (first old new : FactsView) (page : Page) (w : Went k start first t old) where
  went-run : run start k ≡ onward w.log (run t k)
  went-run = w.leads k (λ p x e. e)

  went-saves : saves_of (run start k).log ≡ saves_of (run t k).log
  went-saves = ap (λ (r : Run Page). saves_of r.log) went-run ∙ (saves-append w.log (run t k).log ∙ ap (λ (l : List Save). l ++ saves_of (run t k).log) w.quiet)

  pub went-stops : (stop : Stop) → Stops k t old stop u new page → Stops k start first stop u new page
  went-stops (stops.Saves pair) s = went-on k start t (notes (saved pair page) u) first old new w s
  went-stops (stops.Asks pairs) s = (went-on k start t u first old new w s.0, s.1, s.2)
  went-stops stops.Done s = (went-on k start t u first old new w s.0, s.1)
  went-stops (stops.Fails e) s = (ap (λ (r : Run Page). r.end) went-run ∙ s.0, went-saves ∙ s.1)

  pub went-turns : (o : Option Stop) → Turns k t old o u new page → Turns k start first o u new page
  went-turns None s = went-on k start t u first old new w s
  went-turns (Some stop) s = went-stops stop s

-- ---- what a step comes to

module _ (k : Pages) (t : Task Page) (f : Page → Task Page) (start : Task Page) (is : start ≡ t ▷ f) (old new : FactsView) (page : Page) where
  pub turn-gives : (other : Page) (next : Task Page) → next ≡ f other → Given k t old other new → Went k start old next new
  turn-gives other next e g = subst (λ (u : Task Page). Went k u old next new) (sym is) (subst (λ (u : Task Page). Went k (t ▷ f) old u new) (sym e) (given-went k t f old other new g))

  pub turn-saves : (pair : ℕ) (next : Task Page) → next ≡ f page → t ≡ notes (saved pair page) (gives page) → new ≡ old → Went k start old (notes (saved pair page) next) new
  turn-saves pair next e q same =
      let z : start ≡ notes (saved pair page) next = is ∙ (ap (λ (u : Task Page). u ▷ f) q ∙ ap (λ (u : Task Page). notes (saved pair page) u) (sym e)) in
      subst (λ (g : FactsView). Went k start old (notes (saved pair page) next) g) (sym same) (subst (λ (u : Task Page). Went k start old u old) z (went-none k start old))

  pub turn-asks : (l : List ℕ) → Quiet t → (run t k).end ≡ waits l → new ≡ old → Went k start old start new × ((run start k).end ≡ waits l) × (saves_of (run start k).log ≡ [])
  turn-asks l q e same = (
    subst (λ (g : FactsView). Went k start old start g) (sym same) (went-none k start old),
    ap (λ (u : Task Page). (run u k).end) is ∙ ap (λ (r : Run Page). r.end) (bind-waits k t f l e),
    ap (λ (u : Task Page). saves_of (run u k).log) is ∙ (ap (λ (r : Run Page). saves_of r.log) (bind-waits k t f l e) ∙ quiet-run t k q),
  )

  pub turn-fails : (x : Fault) → Quiet t → (run t k).end ≡ fault x → ((run start k).end ≡ fault x) × (saves_of (run start k).log ≡ [])
  turn-fails x q e = (
    ap (λ (u : Task Page). (run u k).end) is ∙ ap (λ (r : Run Page). r.end) (bind-faults k t f x e),
    ap (λ (u : Task Page). saves_of (run u k).log) is ∙ (ap (λ (r : Run Page). saves_of r.log) (bind-faults k t f x e) ∙ quiet-run t k q),
  )

  pub turn-renders : (u : Task Page) → Went k t old u new → Went k start old (u ▷ f) new
  turn-renders u w = subst (λ (v : Task Page). Went k v old (u ▷ f) new) (sym is) (went-bind k t u f old new w)

-- ---- a rendering that goes on

none-before : {X : Type 0} (xs ys : List X) → xs ++ ys ≡ [] → xs ≡ []
none-before [] ys e = refl
none-before (x ∷ xs) ys e = cc

-- a task that saves nothing has come to its rest without a save
goes-went : (k : Pages) (t u : Task Bytes) (old new : FactsView) → Quiet t → Goes k t old u new → Went k t old u new
goes-went k t u old new q g =
    let all : saves_of g.log ++ saves_of (run u k).log ≡ [] = sym (saves-append g.log (run u k).log) ∙ (ap (λ (r : Run Bytes). saves_of r.log) (sym (g.leads k (λ p x e. e))) ∙ quiet-run t k q) in
    record { log = g.log; quiet = none-before (saves_of g.log) (saves_of (run u k).log) all; notes = g.notes; leads = g.leads }

module _ (plan : Lookups) (k : Pages) (s : Stack) (f : Page → Task Page) (start : Task Page) (is : start ≡ (left_of plan s ▷ page_with) ▷ f) (old new : FactsView) where
  abbrev T : Task Bytes
  T = left_of plan s

  to : (u : Task Bytes) → Goes k (left_of plan s) old u new → Went k start old ((u ▷ page_with) ▷ f) new
  to u g = subst (λ (v : Task Page). Went k v old ((u ▷ page_with) ▷ f) new) (sym is) (went-bind k (T ▷ page_with) (u ▷ page_with) f old new (went-bind k T u page_with old new (goes-went k T u old new (quiet-left plan s) g)))

  pub render-text : (text : Bytes) (next : Task Page) → next ≡ f (text_page text) → Goes k (left_of plan s) old (gives text) new → Went k start old next new
  render-text text next e g = subst (λ (u : Task Page). Went k start old u new) (sym e) (to (gives text) g)

  quiet-page : (r : Stack) → Quiet (left_of plan r ▷ page_with)
  quiet-page r = quiet-bind page_with (left_of plan r) (quiet-left plan r) (λ x. tt)

  pub render-asks : (r : Stack) (next : Task Page) (l : List ℕ) → next ≡ (left_of plan r ▷ page_with) ▷ f → Goes k (left_of plan s) old (left_of plan r) new → (run (left_of plan r) k).end ≡ waits l
      → Went k start old next new × ((run next k).end ≡ waits l) × (saves_of (run next k).log ≡ [])
  render-asks r next l e g w =
      let u : Task Page = left_of plan r ▷ page_with in
      let inner : (run (left_of plan r ▷ page_with) k).end ≡ waits l = ap (λ (x : Run Page). x.end) (bind-waits k (left_of plan r) page_with l w) in (
        subst (λ (v : Task Page). Went k start old v new) (sym e) (to (left_of plan r) g),
        ap (λ (v : Task Page). (run v k).end) e ∙ ap (λ (x : Run Page). x.end) (bind-waits k u f l inner),
        ap (λ (v : Task Page). saves_of (run v k).log) e ∙ (ap (λ (x : Run Page). saves_of x.log) (bind-waits k u f l inner) ∙ quiet-run u k (quiet-page r)),
      )

  pub render-fails : (x : Fault) → (run (left_of plan s) k).end ≡ fault x → ((run start k).end ≡ fault x) × (saves_of (run start k).log ≡ [])
  render-fails x w =
      let u : Task Page = left_of plan s ▷ page_with in
      let inner : (run (left_of plan s ▷ page_with) k).end ≡ fault x = ap (λ (y : Run Page). y.end) (bind-faults k (left_of plan s) page_with x w) in (
        ap (λ (v : Task Page). (run v k).end) is ∙ ap (λ (y : Run Page). y.end) (bind-faults k u f x inner),
        ap (λ (v : Task Page). saves_of (run v k).log) is ∙ (ap (λ (y : Run Page). saves_of y.log) (bind-faults k u f x inner) ∙ quiet-run u k (quiet-page s)),
      )
