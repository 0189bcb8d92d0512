-- Why a machine's answers are those of a compiler.
use Rattle.std.proofs.Common.{◌≡◌, refl, sym, ap, ◌∙◌, subst, arith, ℕ, ◌+◌, ◌<◌, ◌≤◌, true, false, List, [], ◌∷◌, ◌++◌, length, Option, Some, None, is_some, nat_eq, Vec, option_to_list}
use Rattle.std.proofs.Math.Path.{fun_ext}
use Rattle.std.specs.List.{AllByRecursion, IsDistinct}
use Rattle.std.specs.Vec.{vec_capacity}
use Rattle.std.specs.declared.alloc.Global.{Global}
use Rattle.hk_chain.specs.declared.page.Page.{Page}
use Rattle.hk_chain.specs.declared.numbers.PairNo.{PairNo}
use Rattle.hk_chain.specs.declared.fault.Fault.{Fault}
use Rattle.hk_chain.specs.Layout.{final_of}
use Rattle.hk_chain.specs.Facts.{FactsView}
use Rattle.hk_fix.specs.declared.polled.Polled.{Polled}
use Rattle.hk_fix.specs.declared.polled.Polled.TheVariants.{Saved, Ask, Done, Failed}
use Rattle.hk_fix.specs.Calls.{Goes}
use Rattle.hk_fix.specs.Meaning.{Meaning}
use Rattle.hk_fix.specs.Pages.{Pages}
use Rattle.hk_fix.specs.Task.{Task, gives, notes, saved, fault, waits, run}
use Rattle.hk_fix.specs.TaskLaws.{run_once}
use Rattle.hk_fix.specs.Run.{saves_of}
use Rattle.hk_rules.specs.Plan.{Lookups, lookups}
use Rattle.hk_rules.specs.PlanView.{PlanView}
use Rattle.hk_machine.specs.Chain.{chain_task}
use Rattle.hk_machine.specs.Keeping.{Came, Keeps, HasRoom}
use Rattle.hk_machine.specs.Laws.{chains-are}
use Rattle.hk_eval.specs.Leading.{Went}
use Rattle.hk_machine.specs.Machine.{plan_shape, plan_run, way_meaning}
use Rattle.hk_eval.specs.Noted.{with_save}
use Rattle.hk_machine.specs.Runnable.{own_pairs, Runs}
use Rattle.hk_eval.specs.Told.{ToldView, told_pages, is_listed}
use Rattle.hk_machine.specs.Working.{left, IsWorkOf}
use Rattle.hk_machine.specs.declared.way.Way.{Way}
use Rattle.hk_machine.specs.declared.work.Work.{Work}
use Rattle.hk_machine.proofs.Coming.{came-settled, came-went, came-end, came-all, came-next, came-gave, came-told, waits-untold, came-done, came-facts}

module _ (plan : PlanView) (item : ℕ) (fit : Runs plan) (lt : item < length plan.items) where
  abbrev P : Lookups
  P = lookups plan

  abbrev T : Task Page
  T = chain_task (lookups plan) item

  inside : item < (lookups plan).layout.items
  inside = omega (arith, fit.count)

  -- nothing is awaited
  pub no-room : (way : Way) → way.awaits ≡ [] → HasRoom way
  unfolding IsDistinct
  no-room way e =
      record {
        listed = subst (AllByRecursion (λ p. is_listed way.told p ≡ true)) (sym e) tt;
        untold = subst (AllByRecursion (λ p. told_pages way.told p ≡ None)) (sym e) tt;
        room = λ some. let z : length way.awaits ≡ 0 = ap length e in absurd (omega arith);
      }

  module _ (old : Way) (keeps : Keeps plan item old) (closed : old.awaits ≡ []) (going : old.is_ended ≡ false) (work : Work) (last : Option ℕ) (used : Vec PairNo Global) (none : last ≡ None) (put : used.items ≡ old.used.items ++ option_to_list old.last) where
    abbrev k : Pages
    k = told_pages old.told

    begun : Came (chain_task (lookups plan) item) (told_pages old.told) (left (lookups plan) item old.work) old.work.notes old.given None used.items
    begun = came-settled T k (left P item old.work) old.work.notes old.given old.last old.used.items used.items keeps.came put

    -- a page is saved
    module _ (pair : ℕ) (went : Went (told_pages old.told) (left (lookups plan) item old.work) old.work.notes (notes (saved pair work.page) (left (lookups plan) item work)) work.notes) where
      abbrev given_way : Way
      given_way = record { work = record { at = work.at; page = work.page; rendering = work.rendering; notes = with_save work.notes pair }; told = old.told; awaits = old.awaits; given = old.given + 1; last = Some pair; used = used; is_ended = old.is_ended }

      came-there : Came T k (notes (saved pair work.page) (left P item work)) work.notes old.given None used.items
      came-there = came-went T k (left P item old.work) (notes (saved pair work.page) (left P item work)) old.work.notes work.notes old.given None used.items begun went

      pub save-goes : (polled : Polled) → polled ≡ Saved pair work.page → Goes plan_shape plan_run (way_meaning plan item old) polled (way_meaning plan item given_way)
      save-goes polled e = subst (λ (p : Polled). Goes plan_shape plan_run (way_meaning plan item old) p (way_meaning plan item given_way)) (sym e) (came-next T k (left P item work) work.notes old.given used.items pair work.page came-there, refl)

      pub save-keeps : IsWorkOf plan work → old.work.at + 1 ≤ work.at → Keeps plan item given_way
      save-keeps within more =
          record {
            came = came-gave T k (left P item work) work.notes old.given used.items pair work.page came-there;
            within = within;
            bound = omega (arith, keeps.bound);
          }

    -- pages are wanted
    module _ (went : Went (told_pages old.told) (left (lookups plan) item old.work) old.work.notes (left (lookups plan) item work) work.notes) (pairs : Vec PairNo Global) (ends : (run (left (lookups plan) item work) (told_pages old.told)).end ≡ waits pairs.items) (quiet : saves_of (run (left (lookups plan) item work) (told_pages old.told)).log ≡ []) where
      came-here : Came T k (left P item work) work.notes old.given None used.items
      came-here = came-went T k (left P item old.work) (left P item work) old.work.notes work.notes old.given None used.items begun went

      whole-waits : (run (chain_task (lookups plan) item) (told_pages old.told)).end ≡ waits pairs.items
      whole-waits = came-end T k (left P item work) work.notes old.given None used.items (waits pairs.items) came-here ends

      pub ask-untold : AllByRecursion (λ p. told_pages old.told p ≡ None) pairs.items
      ask-untold = waits-untold T k pairs.items whole-waits

      pub ask-distinct : IsDistinct nat_eq pairs.items
      ask-distinct = run_once T ((chains-are P (length plan.items) (length plan.contexts) (length plan.patterns) fit).distinct item inside) k pairs.items whole-waits

      module _ (told : ToldView) (more : Vec PairNo Global) (pages : (q : ℕ) → told_pages told q ≡ told_pages old.told q) (same : more.items ≡ used.items) where
        abbrev waiting_way : Way
        waiting_way = record { work = work; told = told; awaits = pairs.items; given = old.given; last = last; used = more; is_ended = old.is_ended }

        waiting-meaning : way_meaning plan item (record { work = work; told = told; awaits = pairs.items; given = old.given; last = last; used = more; is_ended = old.is_ended }) ≡ (let m : Meaning PlanView = record (way_meaning plan item old) { awaits = pairs.items; just_saved = false } in m)
        waiting-meaning = let f : told_pages told ≡ told_pages old.told = fun_ext pages in λ i. record { common = plan; item = item; told = f i; given = old.given; awaits = pairs.items; has_ended = old.is_ended; just_saved = is_some (none i); is_spent = false }

        pub ask-goes : (polled : Polled) → polled ≡ Ask → Goes plan_shape plan_run (way_meaning plan item old) polled (way_meaning plan item waiting_way)
        ask-goes polled e = subst (λ (p : Polled). Goes plan_shape plan_run (way_meaning plan item old) p (way_meaning plan item waiting_way)) (sym e) (came-all T k (left P item work) work.notes old.given None used.items came-here quiet, whole-waits, waiting-meaning)

        pub ask-keeps : IsWorkOf plan work → old.work.at ≤ work.at → Keeps plan item waiting_way
        ask-keeps within le =
            record {
              came = subst (λ l. Came T (told_pages told) (left P item work) work.notes old.given l more.items) (sym none) (subst (λ l. Came T (told_pages told) (left P item work) work.notes old.given None l) (sym same) (came-told T k (told_pages told) (left P item work) work.notes old.given None used.items pages came-here));
              within = within;
              bound = omega (arith, keeps.bound);
            }

        pub ask-room : AllByRecursion (λ p. is_listed told p ≡ true) pairs.items → length used.items + length pairs.items ≤ vec_capacity more → HasRoom waiting_way
        ask-room listed room =
            record {
              listed = listed;
              untold = each pairs.items ask-untold;
              room = λ some. omega (arith, ap length same);
            }
          where
            each : (ps : List ℕ) → AllByRecursion (λ p. told_pages old.told p ≡ None) ps → AllByRecursion (λ p. told_pages told p ≡ None) ps
            each [] h = tt
            each (p ∷ ps) h = (pages p ∙ h.0, each ps h.1)

    -- the chain is through
    module _ (went : Went (told_pages old.told) (left (lookups plan) item old.work) old.work.notes (left (lookups plan) item work) work.notes) (through : left (lookups plan) item work ≡ gives work.page) (now : FactsView) where
      abbrev done_way : Way
      done_way = record { work = record { at = work.at; page = work.page; rendering = work.rendering; notes = now }; told = old.told; awaits = old.awaits; given = old.given; last = last; used = used; is_ended = true }

      came-through : Came T k (left P item work) work.notes old.given None used.items
      came-through = came-went T k (left P item old.work) (left P item work) old.work.notes work.notes old.given None used.items begun went

      pub done-goes : (polled : Polled) → polled ≡ Done work.page (with_save work.notes (final_of (lookups plan).layout item)) → Goes plan_shape plan_run (way_meaning plan item old) polled (way_meaning plan item done_way)
      done-goes polled e =
          let are = chains-are P (length plan.items) (length plan.contexts) (length plan.patterns) fit in
          subst (λ (p : Polled). Goes plan_shape plan_run (way_meaning plan item old) p (way_meaning plan item done_way)) (sym e) (
            came-all T k (left P item work) work.notes old.given None used.items came-through (ap (λ t. saves_of (run t k).log) through),
            came-done P.layout item T k (own_pairs P item (P.chain item)) (are.saves item inside) (are.in_order item inside) (left P item work) work.notes old.given used.items work.page came-through through,
            came-facts P.layout item T k (own_pairs P item (P.chain item)) (are.saves item inside) (are.in_order item inside) (left P item work) work.notes old.given used.items work.page came-through through,
            ended-meaning,
          )
        where
          ended-meaning : way_meaning plan item done_way ≡ (let m : Meaning PlanView = record (way_meaning plan item old) { has_ended = true; just_saved = false } in m)
          ended-meaning = λ i. record { common = plan; item = item; told = told_pages old.told; given = old.given; awaits = old.awaits; has_ended = true; just_saved = is_some (none i); is_spent = false }

    -- a fault
    module _ (x : Fault) (ends : (run (left (lookups plan) item old.work) (told_pages old.told)).end ≡ fault x) (quiet : saves_of (run (left (lookups plan) item old.work) (told_pages old.told)).log ≡ []) where
      pub fail-goes : Goes plan_shape plan_run (way_meaning plan item old) (Failed x) (way_meaning plan item (record { work = work; told = old.told; awaits = old.awaits; given = old.given; last = last; used = used; is_ended = true }))
      fail-goes = (
        came-all T k (left P item old.work) old.work.notes old.given None used.items begun quiet,
        came-end T k (left P item old.work) old.work.notes old.given None used.items (fault x) begun ends,
        λ i. record { common = plan; item = item; told = told_pages old.told; given = old.given; awaits = old.awaits; has_ended = true; just_saved = is_some (none i); is_spent = false },
      )
