-- The run of a replay, before and after its break.
use Rattle.std.proofs.Common.{◌≡◌, refl, sym, ap, ◌∙◌, arith, ℕ, zero, suc, ◌+◌, ◌<◌, true, false, cond, List, [], ◌∷◌, ◌++◌, append_assoc, append-nil, length, take, drop, map, Option, Some, None, is_none}
use Rattle.std.proofs.lemmas.List.{take-append-drop}
use Rattle.hk_chain.specs.declared.page.Page.{Page}
use Rattle.hk_fix.specs.Pages.{Pages, Extends, lacking, all_pages, with_page}
use Rattle.hk_fix.specs.Task.{used, saved, Mark, asked, note, gives, End, done, fault, waits, Run, run, onward, answered}
use Rattle.hk_fix.specs.TaskLaws.{follow, all_pages-more}
use Rattle.hk_fix.specs.Run.{Save, saves_of}
use Rattle.hk_fix.specs.Facts.{is_in}
use Rattle.hk_reuse.specs.Replay.{Attempt, broke}
use Rattle.hk_reuse.specs.Over.{finish_run}
use Rattle.hk_reuse.specs.Over.{drop_saved}
use Rattle.hk_replay.specs.Finding.{Stands}
use Rattle.hk_replay.specs.Going.{drop_saves}
use Rattle.hk_replay.specs.Keeping.{Phase}
use Rattle.hk_replay.specs.declared.record.Step.{Step}
use Rattle.hk_replay.specs.declared.record.Step.TheVariants.{Asked, Saved}
use Rattle.hk_replay.specs.declared.record.Record.{Record}
use Rattle.hk_replay.specs.Replays.{same_pages, attempt, from, over_by, steps_of, passed, kept_by, Agrees, Passes, Breaks}

abbrev pub Here : Step → Type 0
Here s = Unit {0}

follow-on : {A B : Type 0} (m : Mark) (log : List Mark) (e : End A) (f : A → Run B) → follow (m ∷ log) e f ≡ onward (m ∷ []) (follow log e f)
follow-on m log (done x) f = refl
follow-on m log (fault e) f = refl
follow-on m log (waits ps) f = refl

module _ (inner : Pages → Run Page) (x : Page) (ns : List ℕ) where
  abbrev fin : Pages → Attempt → Run Page
  fin m = finish_run (inner m) ns

  pub from-saved : (kept : List ℕ) (p : ℕ) (y : Page) (steps : List Step) (m : Pages) → from inner x ns kept (Saved p y ∷ steps) m ≡ onward (note (saved p y) ∷ []) (from inner x ns (p ∷ kept) steps m)
  from-saved kept p y steps m = follow-on (note (saved p y)) (run (attempt x (p ∷ kept) steps) m).log (run (attempt x (p ∷ kept) steps) m).end (fin m)

  pub from-asked : (kept : List ℕ) (ps ds : _) (h : Here (Asked ps ds)) (steps : List Step) (m : Pages) (xs : List Page) → all_pages m ps.items ≡ Some xs → from inner x ns kept (Asked ps ds ∷ steps) m ≡ onward (asked ps.items ∷ []) (follow (run (cond (same_pages xs ds.items) (attempt x kept steps) (gives (broke kept))) m).log (run (cond (same_pages xs ds.items) (attempt x kept steps) (gives (broke kept))) m).end (finish_run (inner m) ns))
  from-asked kept ps ds h steps m xs e =
      ap (λ o. follow (answered ps.items (lacking m ps.items) (λ ys. run (cond (same_pages ys ds.items) (attempt x kept steps) (gives (broke kept))) m) o).log (answered ps.items (lacking m ps.items) (λ ys. run (cond (same_pages ys ds.items) (attempt x kept steps) (gives (broke kept))) m) o).end (finish_run (inner m) ns)) e
      ∙ follow-on (asked ps.items) (run (cond (same_pages xs ds.items) (attempt x kept steps) (gives (broke kept))) m).log (run (cond (same_pages xs ds.items) (attempt x kept steps) (gives (broke kept))) m).end (finish_run (inner m) ns)

  from-same : (kept : List ℕ) (ps ds : _) (h : Here (Asked ps ds)) (steps : List Step) (k m : Pages) → Extends k m → Agrees k ps.items ds.items → from inner x ns kept (Asked ps ds ∷ steps) m ≡ onward (asked ps.items ∷ []) (from inner x ns kept steps m)
  from-same kept ps ds h steps k m ext a =
      from-asked kept ps ds tt steps m a.pages (all_pages-more k m ext ps.items a.pages a.known)
      ∙ ap (λ b. onward (asked ps.items ∷ []) (follow (run (cond b (attempt x kept steps) (gives (broke kept))) m).log (run (cond b (attempt x kept steps) (gives (broke kept))) m).end (finish_run (inner m) ns))) a.same

  pub passes-from : (kept : List ℕ) (front rest : List Step) (k m : Pages) → Extends k m → Passes k front → from inner x ns kept (front ++ rest) m ≡ onward (passed front) (from inner x ns (kept_by kept front) rest m)
  passes-from kept [] rest k m ext h = refl
  passes-from kept (Saved p y ∷ front) rest k m ext h = from-saved kept p y (front ++ rest) m ∙ ap (onward (note (saved p y) ∷ [])) (passes-from (p ∷ kept) front rest k m ext h)
  passes-from kept (Asked ps ds ∷ front) rest k m ext h = from-same kept ps ds tt (front ++ rest) k m ext h.0 ∙ ap (onward (asked ps.items ∷ [])) (passes-from kept front rest k m ext h.1)

  pub breaks-from : (kept : List ℕ) (front rest : List Step) (k m : Pages) → Extends k m → Breaks k front → from inner x ns kept (front ++ rest) m ≡ (let r : Run Page = record { log = passed front ++ drop_saved (kept_by kept front) (inner m).log; end = (inner m).end } in r)
  breaks-from kept [] rest k m ext h = absurd h
  breaks-from kept (Saved p y ∷ front) rest k m ext h = from-saved kept p y (front ++ rest) m ∙ ap (onward (note (saved p y) ∷ [])) (breaks-from (p ∷ kept) front rest k m ext h)
  breaks-from kept (Asked ps ds ∷ []) rest k m ext h =
      from-asked kept ps ds tt rest m h.0 (all_pages-more k m ext ps.items h.0 h.1)
      ∙ ap (λ b. onward (asked ps.items ∷ []) (follow (run (cond b (attempt x kept rest) (gives (broke kept))) m).log (run (cond b (attempt x kept rest) (gives (broke kept))) m).end (finish_run (inner m) ns))) h.2
  breaks-from kept (Asked ps ds ∷ s ∷ front) rest k m ext h = from-same kept ps ds tt ((s ∷ front) ++ rest) k m ext h.0 ∙ ap (onward (asked ps.items ∷ [])) (breaks-from kept (s ∷ front) rest k m ext h.1)

pub self : (k : Pages) → Extends k k
self k p x e = e

take-none : (at : ℕ) → take {A = Step} at [] ≡ []
take-none zero = refl
take-none (suc at) = refl

drop-nothing : (log : List Mark) → drop_saved [] log ≡ log
drop-nothing [] = refl
drop-nothing (asked ps ∷ log) = ap (λ l. asked ps ∷ l) (drop-nothing log)
drop-nothing (note (used n) ∷ log) = ap (λ l. note (used n) ∷ l) (drop-nothing log)
drop-nothing (note (saved p x) ∷ log) = ap (λ l. note (saved p x) ∷ l) (drop-nothing log)

-- after the break
pub over-broken : (inner : Pages → Run Page) (o : Option Record) (at : ℕ) (k m : Pages) → Extends k m → Phase k o at true → over_by inner o m ≡ (let r : Run Page = record { log = passed (take at (steps_of o)) ++ drop_saved (kept_by [] (take at (steps_of o))) (inner m).log; end = (inner m).end } in r)
over-broken inner None at k m ext h =
    sym (ap (λ f. (let r : Run Page = record { log = passed f ++ drop_saved (kept_by [] f) (inner m).log; end = (inner m).end } in r)) (take-none at) ∙ ap (λ l. (let r : Run Page = record { log = l; end = (inner m).end } in r)) (drop-nothing (inner m).log))
over-broken inner (Some r) at k m ext h = ap (λ l. from inner r.page r.patterns.items [] l m) (sym (take-append-drop at r.steps.items)) ∙ breaks-from inner r.page r.patterns.items [] (take at r.steps.items) (drop at r.steps.items) k m ext h

-- before the break, at a step
pub over-at : (inner : Pages → Run Page) (r : Record) (at : ℕ) (step : Step) (k : Pages) → Stands r.steps.items at step → Passes k (take at r.steps.items) → over_by inner (Some r) k ≡ onward (passed (take at r.steps.items)) (from inner r.page r.patterns.items (kept_by [] (take at r.steps.items)) (step ∷ drop (at + 1) r.steps.items) k)
over-at inner r at step k here h =
    let steps = r.steps.items in
    let whole : steps ≡ take at steps ++ step ∷ drop (at + 1) steps = sym (take-append-drop (at + 1) steps) ∙ (ap (λ l. l ++ drop (at + 1) steps) here.next ∙ append_assoc (take at steps) (step ∷ []) (drop (at + 1) steps)) in
    ap (λ l. from inner r.page r.patterns.items [] l k) whole ∙ passes-from inner r.page r.patterns.items [] (take at steps) (step ∷ drop (at + 1) steps) k k (self k) h

-- through
pub over-through : (inner : Pages → Run Page) (r : Record) (k : Pages) → Passes k r.steps.items → over_by inner (Some r) k ≡ (let q : Run Page = record { log = passed r.steps.items ++ map (λ n. note (used n)) r.patterns.items; end = done r.page } in q)
over-through inner r k h = ap (λ l. from inner r.page r.patterns.items [] l k) (sym (append-nil r.steps.items)) ∙ passes-from inner r.page r.patterns.items [] r.steps.items [] k k (self k) h

-- a group that lacks pages
lacks-some : (k : Pages) (ps : List ℕ) → 0 < length (lacking k ps) → all_pages k ps ≡ None
lacks-some k [] lt = absurd (omega (arith, lt))
lacks-some k (p ∷ ps) lt = at (k p) refl lt (λ w. lacks-some k ps w)
  where
    at : (o : Option Page) → k p ≡ o → 0 < length (cond (is_none o) (p ∷ lacking k ps) (lacking k ps)) → (0 < length (lacking k ps) → all_pages k ps ≡ None) → with_page (k p) (all_pages k ps) ≡ None
    at None w h f = rw w refl
    at (Some x) w h f = rw (w, f h) refl

pub from-lacks : (inner : Pages → Run Page) (x : Page) (ns kept : List ℕ) (ps ds : _) (h : Here (Asked ps ds)) (steps : List Step) (k : Pages) → 0 < length (lacking k ps.items) → from inner x ns kept (Asked ps ds ∷ steps) k ≡ (let r : Run Page = record { log = asked ps.items ∷ []; end = waits (lacking k ps.items) } in r)
from-lacks inner x ns kept ps ds h steps k lt = ap (λ o. follow (answered ps.items (lacking k ps.items) (λ ys. run (cond (same_pages ys ds.items) (attempt x kept steps) (gives (broke kept))) k) o).log (answered ps.items (lacking k ps.items) (λ ys. run (cond (same_pages ys ds.items) (attempt x kept steps) (gives (broke kept))) k) o).end (finish_run (inner k) ns)) (lacks-some k ps.items lt)

-- saves that are dropped
pub saves-dropped : (kept : List ℕ) (log : List Mark) → saves_of (drop_saved kept log) ≡ drop_saves (is_in kept) (saves_of log)
saves-dropped kept [] = refl
saves-dropped kept (asked ps ∷ log) = saves-dropped kept log
saves-dropped kept (note (used n) ∷ log) = saves-dropped kept log
saves-dropped kept (note (saved p x) ∷ log) =
    elim (is_in kept p) as (λ b. saves_of (cond b (drop_saved kept log) (note (saved p x) ∷ drop_saved kept log)) ≡ cond b (drop_saves (is_in kept) (saves_of log)) ((let s : Save = record { pair = p; page = x } in s) ∷ drop_saves (is_in kept) (saves_of log))) [
      | true ↦ saves-dropped kept log
      | false ↦ ap (λ l. (let s : Save = record { pair = p; page = x } in s) ∷ l) (saves-dropped kept log)
    ]
