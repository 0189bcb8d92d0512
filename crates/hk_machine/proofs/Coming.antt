-- What a machine has come to, from one answer to the next.
use Rattle.std.proofs.Common.{◌≡◌, ◌≢◌, refl, sym, ap, ◌∙◌, subst, arith, ℕ, ◌+◌, ◌<◌, ◌≤◌, Bool, true, false, cond, ◌||◌, List, [], ◌∷◌, ◌++◌, append-nil, length, length-append, map, Option, Some, None, is_some, is_none, nat_eq, eqb-true, option_to_list}
use Rattle.std.specs.List.{AllByRecursion, IsDistinct, slice_get}
use Rattle.std.proofs.lemmas.List.{map-append}
use Rattle.hk_chain.specs.Layout.{Shape, pairs, item_of, final_of}
use Rattle.hk_chain.specs.declared.page.Page.{Page}
use Rattle.hk_chain.specs.Facts.{FactsView}
use Rattle.hk_fix.specs.Pages.{Pages, Extends, lacking, tell}
use Rattle.hk_fix.specs.Task.{Task, gives, notes, used, saved, Mark, asked, note, End, done, waits, Run, run, onward}
use Rattle.hk_fix.specs.TaskLaws.{run_waits}
use Rattle.hk_fix.specs.Run.{Save, asks_of, saves_of, lacked}
use Rattle.hk_fix.specs.Facts.{is_in, facts_of, whole_log}
use Rattle.hk_fix.specs.Chains.{Saves}
use Rattle.hk_chain.specs.Snapshots.{Ascending, AreSnapshots}
use Rattle.hk_fix.specs.ChainLaws.{saved_pairs, run_saves_all}
use Rattle.hk_fix.proofs.Trails.{in-append}
use Rattle.hk_machine.specs.Keeping.{Came}
use Rattle.hk_eval.specs.Leading.{Went}
use Rattle.hk_eval.specs.Noted.{no_facts, with_save, noted}
use Rattle.hk_eval.proofs.NotedLogs.{FreshSaves, noted-facts, noted-append, fresh-all, apart-rising}
use Rattle.hk_eval.proofs.Running.{saves-append, leads-on, leads-more}

pairs-append : (a b : List Mark) → saved_pairs (a ++ b) ≡ saved_pairs a ++ saved_pairs b
pairs-append a b = ap (map (λ s. s.pair)) (saves-append a b) ∙ map-append (λ s. s.pair) (saves_of a) (saves_of b)

or-three : (a b c : Bool) → ((a || b) || c) ≡ (a || (b || c))
or-three true b c = refl
or-three false b c = refl

or-true : (b : Bool) → (b || true) ≡ true
or-true true = refl
or-true false = refl

or-false : (b : Bool) → (b || false) ≡ b
or-false true = refl
or-false false = refl

told-use : (x : Page) (a b : Bool) (o : Option Page) (c : Bool) → a ≡ b → ((is_some o || c) || (a || false)) ≡ (is_some (cond b (Some x) o) || c)
told-use x a true o c e = ap (λ t. (is_some o || c) || (t || false)) e ∙ or-true (is_some o || c)
told-use x a false o c e = ap (λ t. (is_some o || c) || (t || false)) e ∙ or-false (is_some o || c)

module _ (task : Task Page) (k : Pages) where
  -- what the last poll saved is used
  pub came-settled : (rest : Task Page) (f : FactsView) (g : ℕ) (last : Option ℕ) (us more : List ℕ) → Came task k rest f g last us → more ≡ us ++ option_to_list last → Came task k rest f g None more
  came-settled rest f g last us more came put =
      record {
        log = came.log;
        leads = came.leads;
        notes = came.notes;
        count = came.count;
        past = came.past ++ option_to_list last;
        saves = came.saves ∙ sym (append-nil (came.past ++ option_to_list last));
        used = λ q. ap (λ (l : List ℕ). is_in l q) put ∙ (in-append us (option_to_list last) q ∙ (ap (λ b. b || is_in (option_to_list last) q) (came.used q) ∙ (or-three (is_some (k q)) (is_in came.past q) (is_in (option_to_list last) q) ∙ ap (λ b. is_some (k q) || b) (sym (in-append came.past (option_to_list last) q)))));
      }

  pub came-went : (rest next : Task Page) (f new : FactsView) (g : ℕ) (last : Option ℕ) (us : List ℕ) → Came task k rest f g last us → Went k rest f next new → Came task k next new g last us
  came-went rest next f new g last us came went =
      let quiet : saves_of (came.log ++ went.log) ≡ saves_of came.log = saves-append came.log went.log ∙ (ap (λ l. saves_of came.log ++ l) went.quiet ∙ append-nil (saves_of came.log)) in
      record {
        log = came.log ++ went.log;
        leads = leads-on k task rest next came.log went.log came.leads went.leads;
        notes = went.notes ∙ (ap (λ x. noted x went.log) came.notes ∙ sym (noted-append no_facts came.log went.log));
        count = came.count ∙ ap length (sym quiet);
        past = came.past;
        saves = ap (map (λ s. s.pair)) quiet ∙ came.saves;
        used = came.used;
      }

  same-pages : (a b : Task Page) → a ≡ b → run a k ≡ run b k
  same-pages a b e = ap (λ t. run t k) e

  pub came-run : (rest : Task Page) (f : FactsView) (g : ℕ) (last : Option ℕ) (us : List ℕ) (came : Came task k rest f g last us) → run task k ≡ onward came.log (run rest k)
  came-run rest f g last us came = came.leads k (λ p x e. e)

  -- the end of the whole is that of the rest, and where the rest saves nothing all saves are given
  pub came-end : (rest : Task Page) (f : FactsView) (g : ℕ) (last : Option ℕ) (us : List ℕ) (e : End Page) → Came task k rest f g last us → (run rest k).end ≡ e → (run task k).end ≡ e
  came-end rest f g last us e came is = ap (λ (r : Run Page). r.end) (came-run rest f g last us came) ∙ is

  pub came-all : (rest : Task Page) (f : FactsView) (g : ℕ) (last : Option ℕ) (us : List ℕ) → Came task k rest f g last us → saves_of (run rest k).log ≡ [] → length (saves_of (run task k).log) ≤ g
  came-all rest f g last us came quiet =
      let all : saves_of (run task k).log ≡ saves_of came.log = ap (λ (r : Run Page). saves_of r.log) (came-run rest f g last us came) ∙ (saves-append came.log (run rest k).log ∙ (ap (λ l. saves_of came.log ++ l) quiet ∙ append-nil (saves_of came.log))) in
      omega (arith, came.count, ap length all)

  -- a page is given
  pub came-next : (rest : Task Page) (f : FactsView) (g : ℕ) (us : List ℕ) (p : ℕ) (x : Page) → Came task k (notes (saved p x) rest) f g None us → slice_get (saves_of (run task k).log) g ≡ Some (let s : Save = record { pair = p; page = x } in s)
  came-next rest f g us p x came =
      ap (λ (l : List Save). slice_get l g) (ap (λ (r : Run Page). saves_of r.log) (came-run (notes (saved p x) rest) f g None us came) ∙ saves-append came.log (note (saved p x) ∷ (run rest k).log)) ∙ (ap (slice_get (saves_of came.log ++ (let s : Save = record { pair = p; page = x } in s ∷ saves_of (run rest k).log))) came.count ∙ here (saves_of came.log) (let s : Save = record { pair = p; page = x } in s) (saves_of (run rest k).log))
    where
      here : (xs : List Save) (y : Save) (ys : List Save) → slice_get (xs ++ y ∷ ys) (length xs) ≡ Some y
      here [] y ys = refl
      here (x ∷ xs) y ys = here xs y ys

  pub came-gave : (rest : Task Page) (f : FactsView) (g : ℕ) (us : List ℕ) (p : ℕ) (x : Page) → Came task k (notes (saved p x) rest) f g None us → Came task k rest (with_save f p) (g + 1) (Some p) us
  came-gave rest f g us p x came =
      record {
        log = came.log ++ note (saved p x) ∷ [];
        leads = leads-on k task (notes (saved p x) rest) rest came.log (note (saved p x) ∷ []) came.leads (λ m ext. refl);
        notes = ap (λ y. with_save y p) came.notes ∙ sym (noted-append no_facts came.log (note (saved p x) ∷ []));
        count = omega (arith, came.count, ap length (saves-append came.log (note (saved p x) ∷ [])), length-append (saves_of came.log) (let s : Save = record { pair = p; page = x } in s ∷ []));
        past = came.past;
        saves = pairs-append came.log (note (saved p x) ∷ []) ∙ ap (λ l. l ++ p ∷ []) (came.saves ∙ append-nil came.past);
        used = came.used;
      }

  -- more pages are told
  pub came-told : (m : Pages) (rest : Task Page) (f : FactsView) (g : ℕ) (last : Option ℕ) (us : List ℕ) → ((q : ℕ) → m q ≡ k q) → Came task k rest f g last us → Came task m rest f g last us
  came-told m rest f g last us same came =
      record {
        log = came.log;
        leads = leads-more k m task rest came.log (λ p x e. same p ∙ e) came.leads;
        notes = came.notes;
        count = came.count;
        past = came.past;
        saves = came.saves;
        used = λ q. came.used q ∙ ap (λ o. is_some o || is_in came.past q) (sym (same q));
      }

  pub came-answered : (m : Pages) (rest : Task Page) (f : FactsView) (g : ℕ) (last : Option ℕ) (us more : List ℕ) (p : ℕ) (x : Page) → k p ≡ None → ((q : ℕ) → m q ≡ tell k p x q) → more ≡ us ++ p ∷ [] → Came task k rest f g last us → Came task m rest f g last more
  came-answered m rest f g last us more p x none told put came =
      record {
        log = came.log;
        leads = leads-more k m task rest came.log extends came.leads;
        notes = came.notes;
        count = came.count;
        past = came.past;
        saves = came.saves;
        used = λ q. ap (λ (l : List ℕ). is_in l q) put ∙ (in-append us (p ∷ []) q ∙ (ap (λ b. b || is_in (p ∷ []) q) (came.used q) ∙ (told-use x (nat_eq q p) (nat_eq p q) (k q) (is_in came.past q) (flips p q) ∙ ap (λ o. is_some o || is_in came.past q) (sym (told q)))));
      }
    where
      flips : (a b : ℕ) → nat_eq b a ≡ nat_eq a b
      flips a b = grind arith

      extends : Extends k m
      extends q y e = told q ∙ elim (nat_eq p q) as (λ b. nat_eq p q ≡ b → cond b (Some x) (k q) ≡ Some y) [
        | true ↦ λ t. let z : k q ≡ None = ap k (sym (eqb-true p q t)) ∙ none in cc
        | false ↦ λ t. e
      ] refl

-- where a run waits, none of the pairs is told, and none stands twice
pub waits-untold : (task : Task Page) (k : Pages) (l : List ℕ) → (run task k).end ≡ waits l → AllByRecursion (λ p. k p ≡ None) l
waits-untold task k l e = subst (AllByRecursion (λ p. k p ≡ None)) (run_waits task k ∙ ap lacked e) (each (asks_of (run task k).log))
  where
    keep : (o : Option Page) (p : ℕ) (rest : List ℕ) → k p ≡ o → AllByRecursion (λ q. k q ≡ None) rest → AllByRecursion (λ q. k q ≡ None) (cond (is_none o) (p ∷ rest) rest)
    keep None p rest q h = (q, h)
    keep (Some x) p rest q h = h

    each : (ps : List ℕ) → AllByRecursion (λ p. k p ≡ None) (lacking k ps)
    each [] = tt
    each (p ∷ ps) = keep (k p) p (lacking k ps) refl (each ps)

-- the facts of a chain that went through

not-last : (lay : Shape) (i : ℕ) (ps : List ℕ) → AllByRecursion (λ p. (p < pairs lay) × (item_of lay p ≡ i) × (p ≢ final_of lay i)) ps → AllByRecursion (λ p. p ≢ final_of lay i) ps
not-last lay i [] h = tt
not-last lay i (p ∷ ps) h = (h.0.2, not-last lay i ps h.1)

none-kept : (ps : List ℕ) → AllByRecursion (λ p. is_in [] p ≡ false) ps
none-kept [] = tt
none-kept (p ∷ ps) = (refl, none-kept ps)

module _ (lay : Shape) (i : ℕ) (task : Task Page) (k : Pages) (own : List ℕ) (saving : Saves own task) (snapshots : AreSnapshots lay i own) (rest : Task Page) (f : FactsView) (g : ℕ) (us : List ℕ) (x : Page) (came : Came task k rest f g None us) (is : rest ≡ gives x) where
  through : run task k ≡ (let r : Run Page = record { log = came.log; end = done x } in r)
  through = came-run task k rest f g None us came ∙ (ap (λ t. onward came.log (run t k)) is ∙ ap (λ l. (let r : Run Page = record { log = l; end = done x } in r)) (append-nil came.log))

  pub came-done : (run task k).end ≡ done x
  came-done = ap (λ (r : Run Page). r.end) through

  pub came-facts : with_save f (final_of lay i) ≡ facts_of (whole_log lay i (run task k))
  came-facts =
      let last : Mark = note (saved (final_of lay i) x) in
      let own_saves : saved_pairs came.log ≡ own = ap (λ (r : Run Page). saved_pairs r.log) (sym through) ∙ run_saves_all task own saving k x came-done in
      let pairs_are : saved_pairs (came.log ++ last ∷ []) ≡ own ++ final_of lay i ∷ [] = pairs-append came.log (last ∷ []) ∙ ap (λ l. l ++ final_of lay i ∷ []) own_saves in
      let fresh : FreshSaves [] (came.log ++ last ∷ []) = fresh-all [] (came.log ++ last ∷ []) (subst (IsDistinct nat_eq) (sym pairs_are) (apart-rising own (final_of lay i) snapshots.rising (not-last lay i own snapshots.own))) (none-kept (saved_pairs (came.log ++ last ∷ []))) in
      ap (λ y. with_save y (final_of lay i)) came.notes ∙ (sym (noted-append no_facts came.log (last ∷ [])) ∙ (noted-facts (came.log ++ last ∷ []) fresh ∙ ap (λ r. facts_of (whole_log lay i r)) (sym through)))
