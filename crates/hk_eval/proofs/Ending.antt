-- Why the answers of a rendering are those of its run.
use Rattle.std.proofs.Common.{◌≡◌, refl, sym, ap, ◌∙◌, subst, ℕ, Vec, true, false, cond, not, nat_eq, filter, List, [], ◌∷◌, ◌++◌, append-nil, Option, Some, None, is_none, eqb-true, Contains}
use Rattle.std.proofs.Math.Path.{fun_ext}
use Rattle.std.specs.List.{AllByRecursion, IsDistinct}
use Rattle.std.proofs.lemmas.List.Elements.{All-from_recursion, All-contains}
use Rattle.std.specs.declared.alloc.Global.{Global}
use Rattle.hk_base.specs.Bytes.{Bytes}
use Rattle.hk_chain.specs.Facts.{FactsView}
use Rattle.hk_chain.specs.declared.fault.Fault.{Fault}
use Rattle.hk_chain.specs.declared.numbers.PairNo.{PairNo}
use Rattle.hk_chain.specs.declared.page.Page.{Page}
use Rattle.hk_fix.specs.Facts.{facts_of}
use Rattle.hk_fix.specs.Pages.{Pages, Extends, lacking, tell}
use Rattle.hk_fix.specs.Run.{asks_of, lacked, saves_of}
use Rattle.hk_fix.specs.Task.{Task, gives, Mark, asked, note, used, saved, Run, done, fault, waits, run}
use Rattle.hk_fix.specs.TaskLaws.{run_waits, run_once}
use Rattle.hk_rules.specs.Plan.{lookups}
use Rattle.hk_rules.specs.PlanView.{PlanView}
use Rattle.hk_eval.specs.Going.{Goes, Stops}
use Rattle.hk_eval.specs.Keeping.{course_view, Keeps, HasRoom, Stays, Went}
use Rattle.hk_eval.specs.Laws.{quiet-render}
use Rattle.hk_eval.specs.Left.{left_of, IsStackOf}
use Rattle.hk_eval.specs.Noted.{no_facts, noted}
use Rattle.hk_eval.specs.Rendered.{Rendered, rendered, told_page, Ends}
use Rattle.hk_eval.specs.Rendering.{render}
use Rattle.hk_eval.specs.Told.{ToldView, told_pages, is_listed}
use Rattle.hk_eval.specs.declared.course.Course.{Course}
use Rattle.hk_eval.specs.declared.moves.Stop.{Stop}
use Rattle.hk_eval.specs.declared.moves.Stop.TheVariants as stops
use Rattle.hk_eval.specs.declared.render_step.RenderStep.{RenderStep}
use Rattle.hk_eval.specs.declared.render_step.RenderStep.TheVariants as steps
use Rattle.hk_eval.specs.declared.stack.Stack.{Stack}
use Rattle.hk_eval.proofs.Advancing.{goes-both, goes-end, goes-more}
use Rattle.hk_eval.proofs.Awaiting.{all-out}
use Rattle.hk_eval.proofs.NotedLogs.{FreshSaves, noted-facts}
use Rattle.hk_eval.proofs.Once.{render-once}
use Rattle.hk_eval.proofs.Running.{quiet-run}

-- a log without saves has none twice
fresh-quiet : (kept : List ℕ) (log : List Mark) → saves_of log ≡ [] → FreshSaves kept log
fresh-quiet kept [] e = tt
fresh-quiet kept (asked ps ∷ log) e = fresh-quiet kept log e
fresh-quiet kept (note (used n) ∷ log) e = fresh-quiet kept log e
fresh-quiet kept (note (saved p x) ∷ log) e = cc

-- the pairs that a run waits for aren't known
pub waits-unknown : {A : Type 0} (t : Task A) (k : Pages) (l : List ℕ) → (run t k).end ≡ waits l → AllByRecursion (λ p. k p ≡ None) l
waits-unknown t k l e = subst (AllByRecursion (λ p. k p ≡ None)) (run_waits t k ∙ ap lacked e) (each (asks_of (run t k).log))
  where
    keep : (o : Option Page) (p : ℕ) (rest : List ℕ) → k p ≡ o → AllByRecursion (λ q. k q ≡ None) rest → AllByRecursion (λ q. k q ≡ None) (cond (is_none o) (p ∷ rest) rest)
    keep None p rest q h = (q, h)
    keep (Some x) p rest q h = h

    each : (ps : List ℕ) → AllByRecursion (λ p. k p ≡ None) (lacking k ps)
    each [] = tt
    each (p ∷ ps) = keep (k p) p (lacking k ps) refl (each ps)

-- one page more
pub tell-extends : (k m : Pages) (p : ℕ) (x : Page) → k p ≡ None → ((q : ℕ) → m q ≡ tell k p x q) → Extends k m
tell-extends k m p x none told q y e = told q ∙ elim (nat_eq p q) as (λ b. nat_eq p q ≡ b → cond b (Some x) (k q) ≡ Some y) [
  | true ↦ λ t. let z : k q ≡ None = ap k (sym (eqb-true p q t)) ∙ none in cc
  | false ↦ λ t. e
] refl

module _ (plan : PlanView) (old : Course) (keeps : Keeps plan old) (closed : old.awaits ≡ []) (stack : Stack) (notes : FactsView) (within : IsStackOf plan stack) where
  abbrev T : Task Bytes
  T = render (lookups plan) old.tree old.here

  abbrev K : Pages
  K = told_pages old.told

  abbrev L : Task Bytes
  L = left_of (lookups plan) old.stack

  abbrev gone_on : Course
  gone_on = record { tree = old.tree; here = old.here; stack = stack; told = old.told; notes = notes; awaits = old.awaits; facts = old.facts; has_ended = old.has_ended }

  -- pages are wanted
  module _ (pairs : Vec PairNo Global) (stop : Stop) (is : stop ≡ stops.Asks pairs) (s : Stops (told_pages old.told) (left_of (lookups plan) old.stack) old.notes stop (left_of (lookups plan) stack) notes) where
    asks : Stops K L old.notes (stops.Asks pairs) (left_of (lookups plan) stack) notes
    asks = subst (λ v. Stops K L old.notes v (left_of (lookups plan) stack) notes) is s

    goes : Goes K T no_facts (left_of (lookups plan) stack) notes
    goes = goes-both K T L (left_of (lookups plan) stack) no_facts old.notes notes keeps.goes asks.0

    whole : (run (render (lookups plan) old.tree old.here) (told_pages old.told)).end ≡ waits pairs.items
    whole = goes-end K T (left_of (lookups plan) stack) no_facts notes goes ∙ asks.1

    pub ask-untold : AllByRecursion (λ p. told_pages old.told p ≡ None) pairs.items
    ask-untold = waits-unknown T K pairs.items whole

    pub ask-distinct : IsDistinct nat_eq pairs.items
    ask-distinct = run_once T (render-once plan old.tree old.here) K pairs.items whole

    module _ (told : ToldView) (pages : (q : ℕ) → told_pages told q ≡ told_pages old.told q) (listed : AllByRecursion (λ p. is_listed told p ≡ true) pairs.items) (new : Course)
        (gone : new ≡ record { tree = old.tree; here = old.here; stack = stack; told = told; notes = notes; awaits = pairs.items; facts = old.facts; has_ended = old.has_ended }) where
      abbrev waiting : Course
      waiting = record { tree = old.tree; here = old.here; stack = stack; told = told; notes = notes; awaits = pairs.items; facts = old.facts; has_ended = old.has_ended }

      still : (ps : List ℕ) → AllByRecursion (λ p. told_pages old.told p ≡ None) ps → AllByRecursion (λ p. told_pages told p ≡ None) ps
      still [] h = tt
      still (p ∷ ps) h = (pages p ∙ h.0, still ps h.1)

      pub ask-went : (step : RenderStep) → step ≡ steps.Ask → Went plan old step new
      ask-went step e =
          subst (λ (v : RenderStep). Went plan old v new) (sym e) (subst (λ (c : Course). Went plan old steps.Ask c) (sym gone)
          (record {
            ends = (whole, λ i. record { plan = plan; tree = old.tree; here = old.here; told = fun_ext pages i; awaits = pairs.items; facts = old.facts; has_ended = old.has_ended; is_spent = false });
            keeps = λ going. record {
              renders = keeps.renders;
              within = within;
              goes = goes-more K (told_pages told) T (left_of (lookups plan) stack) no_facts notes (λ p x q. pages p ∙ q) goes;
              facts = keeps.facts;
            };
            room = record { listed = listed; untold = still pairs.items ask-untold };
          }))

  no-room : (c : Course) → c.awaits ≡ old.awaits → HasRoom c
  no-room c e = record {
    listed = subst (AllByRecursion (λ p. is_listed c.told p ≡ true)) (sym (e ∙ closed)) tt;
    untold = subst (AllByRecursion (λ p. told_pages c.told p ≡ None)) (sym (e ∙ closed)) tt;
  }

  -- the text is whole
  pub text-went : (text : Bytes) (stop : Stop) → stop ≡ stops.Text text → Stops (told_pages old.told) (left_of (lookups plan) old.stack) old.notes stop (left_of (lookups plan) stack) notes
      → (new : Course) (after : FactsView) → new ≡ record { tree = old.tree; here = old.here; stack = stack; told = old.told; notes = after; awaits = old.awaits; facts = notes; has_ended = true }
      → (step : RenderStep) → step ≡ steps.Text text → Went plan old step new
  text-went text stop is s new after gone step e =
      let given : Goes K L old.notes (gives text) notes = subst (λ v. Stops K L old.notes v (left_of (lookups plan) stack) notes) is s in
      let goes : Goes K T no_facts (gives text) notes = goes-both K T L (gives text) no_facts old.notes notes keeps.goes given in
      let ran : run T K ≡ record { log = goes.log ++ []; end = done text } = goes.leads K (λ p x q. q) in
      let log : (run T K).log ≡ goes.log = ap (λ (r : Run Bytes). r.log) ran ∙ append-nil goes.log in
      let quiet : saves_of goes.log ≡ [] = ap saves_of (sym log) ∙ quiet-run T K (quiet-render (lookups plan) old.tree old.here) in
      let facts : notes ≡ facts_of (run T K).log = goes.notes ∙ (noted-facts goes.log (fresh-quiet [] goes.log quiet) ∙ ap facts_of (sym log)) in
      subst (λ (v : RenderStep). Went plan old v new) (sym e) (subst (λ (c : Course). Went plan old (steps.Text text) c) (sym gone)
      (record {
        ends = (ap (λ (r : Run Bytes). r.end) ran, λ i. record { plan = plan; tree = old.tree; here = old.here; told = K; awaits = old.awaits; facts = facts i; has_ended = true; is_spent = false });
        keeps = λ going. cc;
        room = no-room (record { tree = old.tree; here = old.here; stack = stack; told = old.told; notes = after; awaits = old.awaits; facts = notes; has_ended = true }) refl;
      }))

  -- it fails
  pub fail-went : (x : Fault) (stop : Stop) → stop ≡ stops.Fails x → Stops (told_pages old.told) (left_of (lookups plan) old.stack) old.notes stop (left_of (lookups plan) stack) notes
      → Went plan old (steps.Fail x) (record { tree = old.tree; here = old.here; stack = stack; told = old.told; notes = notes; awaits = old.awaits; facts = old.facts; has_ended = true })
  fail-went x stop is s =
      let given : (run L K).end ≡ fault x = subst (λ v. Stops K L old.notes v (left_of (lookups plan) stack) notes) is s in
      record {
        ends = (goes-end K T L no_facts old.notes keeps.goes ∙ given, refl);
        keeps = λ going. cc;
        room = no-room (record { tree = old.tree; here = old.here; stack = stack; told = old.told; notes = notes; awaits = old.awaits; facts = old.facts; has_ended = true }) refl;
      }

-- a page is answered
module _ (c : Course) (pair : ℕ) (page : Page) (told : ToldView) (awaits : List ℕ) (room : HasRoom c) (open_ : Contains c.awaits pair) (pages : (q : ℕ) → told_pages told q ≡ tell (told_pages c.told) pair page q)
    (listed : (q : ℕ) → is_listed c.told q ≡ true → is_listed told q ≡ true) (out : awaits ≡ filter (λ q. not (nat_eq pair q)) c.awaits) where
  abbrev answered_course : Course
  answered_course = record { tree = c.tree; here = c.here; stack = c.stack; told = told; notes = c.notes; awaits = awaits; facts = c.facts; has_ended = c.has_ended }

  untold : told_pages c.told pair ≡ None
  untold = All-contains (λ p. told_pages c.told p ≡ None) c.awaits pair (All-from_recursion (λ p. told_pages c.told p ≡ None) c.awaits room.untold) open_

  still-listed : (ps : List ℕ) → AllByRecursion (λ p. is_listed c.told p ≡ true) ps → AllByRecursion (λ p. is_listed told p ≡ true) ps
  still-listed [] h = tt
  still-listed (p ∷ ps) h = (listed p h.0, still-listed ps h.1)

  others : (ps : List ℕ) → AllByRecursion (λ p. told_pages c.told p ≡ None) ps → AllByRecursion (λ p. told_pages told p ≡ None) (filter (λ q. not (nat_eq pair q)) ps)
  others [] h = tt
  others (q ∷ ps) h =
      elim (nat_eq pair q) as (λ b. nat_eq pair q ≡ b → AllByRecursion (λ p. told_pages told p ≡ None) (cond (not b) (q ∷ filter (λ q. not (nat_eq pair q)) ps) (filter (λ q. not (nat_eq pair q)) ps))) [
        | true ↦ λ e. others ps h.1
        | false ↦ λ e. (pages q ∙ (ap (λ b. cond b (Some page) (told_pages c.told q)) e ∙ h.0), others ps h.1)
      ] refl

  pub answer-room : HasRoom (record { tree = c.tree; here = c.here; stack = c.stack; told = told; notes = c.notes; awaits = awaits; facts = c.facts; has_ended = c.has_ended })
  answer-room =
      record {
        listed = subst (AllByRecursion (λ p. is_listed told p ≡ true)) (sym out) (still-listed (filter (λ q. not (nat_eq pair q)) c.awaits) (all-out (λ p. is_listed c.told p ≡ true) pair c.awaits room.listed));
        untold = subst (AllByRecursion (λ p. told_pages told p ≡ None)) (sym out) (others c.awaits room.untold);
      }

  pub answer-keeps : (plan : PlanView) → Keeps plan c → Keeps plan (record { tree = c.tree; here = c.here; stack = c.stack; told = told; notes = c.notes; awaits = awaits; facts = c.facts; has_ended = c.has_ended })
  answer-keeps plan keeps =
      record {
        renders = keeps.renders;
        within = keeps.within;
        goes = goes-more (told_pages c.told) (told_pages told) (render (lookups plan) c.tree c.here) (left_of (lookups plan) c.stack) no_facts c.notes (tell-extends (told_pages c.told) (told_pages told) pair page untold pages) keeps.goes;
        facts = keeps.facts;
      }
