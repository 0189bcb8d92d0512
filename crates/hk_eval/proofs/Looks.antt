-- Fields looked at one after another, and what is noted of them.
use Rattle.std.proofs.Common.{◌≡◌, refl, sym, ap, ◌∙◌, subst, arith, ℕ, suc, ◌+◌, ◌<◌, List, [], ◌∷◌, ◌++◌, append_assoc, append-nil, length, drop, take, get_or, drop-cons}
use Rattle.std.proofs.lemmas.List.{take_more}
use Rattle.hk_base.specs.Bytes.{Bytes}
use Rattle.hk_chain.specs.Facts.{FactsView}
use Rattle.hk_chain.specs.declared.context.Field.{Field}
use Rattle.hk_chain.specs.declared.fault.Fault.{Fault}
use Rattle.hk_fix.specs.Pages.{Pages}
use Rattle.hk_fix.specs.Task.{Task, ◌▷◌, Mark, asked, End, done, fault, waits, Run, run, onward}
use Rattle.hk_fix.specs.TaskLaws.{follow, run_bind}
use Rattle.hk_rules.specs.Plan.{Lookups}
use Rattle.hk_eval.specs.Fields.{value_task, or_task, first_task, field_task}
use Rattle.hk_eval.specs.Noted.{noted, with_group}
use Rattle.hk_eval.specs.Replies.{RunsOn, singles, look_end, Comes, listing_of}
use Rattle.hk_eval.specs.Value.{Value, absent, text, flag, list}
use Rattle.hk_eval.specs.declared.look.Look.{Look}
use Rattle.hk_eval.specs.declared.look.Look.TheVariants as looks
use Rattle.hk_eval.specs.declared.place.Place.{Place}
use Rattle.hk_eval.proofs.NotedLogs.{noted-append}

pub singles-append : (ps qs : List ℕ) → singles (ps ++ qs) ≡ singles ps ++ singles qs
singles-append [] qs = refl
singles-append (p ∷ ps) qs = ap (λ l. asked (p ∷ []) ∷ l) (singles-append ps qs)

onward-onward : {A : Type 0} (a b : List Mark) (r : Run A) → onward (a ++ b) r ≡ onward a (onward b r)
onward-onward a b r = ap (λ l. record { log = l; end = r.end }) (append_assoc a b r.log)

-- the fields so far have nothing, and these are left
abbrev pub Looked : Lookups → Pages → Place → Bytes → List Field → List ℕ → List ℕ → List Field → Type 0
Looked plan k here key all old new left =
    (ps : List ℕ) × (new ≡ old ++ ps) × (run (first_task plan here key all) k ≡ onward (singles ps) (run (first_task plan here key left) k))

pub looked-none : (plan : Lookups) (k : Pages) (here : Place) (key : Bytes) (all : List Field) (old : List ℕ) → Looked plan k here key all old old all
looked-none plan k here key all old = ([], sym (append-nil old), refl)

drop-item : (fs : List Field) (i : ℕ) (f : Field) → i < length fs → f ≡ get_or fs i f → drop i fs ≡ f ∷ drop (suc i) fs
drop-item fs i f lt e = drop-cons fs i f lt ∙ ap (λ g. g ∷ drop (suc i) fs) (sym e)

module _ (plan : Lookups) (k : Pages) (here : Place) (key : Bytes) (all : List Field) (old mid new : List ℕ) where
  -- one field more has nothing
  looked-more : (f : Field) (fs : List Field) → Looked plan k here key all old mid (f ∷ fs) → RunsOn mid new (run (value_task plan here key f) k) (done absent) → Looked plan k here key all old new fs
  looked-more f fs h r = (
    h.0 ++ r.0,
    r.1 ∙ (ap (λ l. l ++ r.0) h.1 ∙ append_assoc old h.0 r.0),
    h.2 ∙ (ap (onward (singles h.0)) (run_bind (value_task plan here key f) (or_task (first_task plan here key fs)) k ∙ ap (λ (q : Run Value). follow q.log q.end (λ v. run (or_task (first_task plan here key fs) v) k)) r.2)
        ∙ (sym (onward-onward (singles h.0) (singles r.0) (run (first_task plan here key fs) k)) ∙ ap (λ l. onward l (run (first_task plan here key fs) k)) (sym (singles-append h.0 r.0)))),
  )

  pub looked-more-at : (i : ℕ) (f : Field) → i < length all → f ≡ get_or all i f → Looked plan k here key all old mid (drop i all) → RunsOn mid new (run (value_task plan here key f) k) (done absent) → Looked plan k here key all old new (drop (i + 1) all)
  looked-more-at i f lt e h r =
      let n : suc i ≡ i + 1 = omega arith in
      subst (λ j. Looked plan k here key all old new (drop j all)) n
      (looked-more f (drop (suc i) all) (subst (Looked plan k here key all old mid) (drop-item all i f lt e) h) r)

  -- it has something, or waits or fails
  looked-found : (f : Field) (fs : List Field) (v : Look) → (v ≡ looks.Absent → ⊥) → Looked plan k here key all old mid (f ∷ fs) → RunsOn mid new (run (value_task plan here key f) k) (look_end v) → RunsOn old new (run (first_task plan here key all) k) (look_end v)
  looked-found f fs v n h r = (
    h.0 ++ r.0,
    r.1 ∙ (ap (λ l. l ++ r.0) h.1 ∙ append_assoc old h.0 r.0),
    h.2 ∙ (ap (onward (singles h.0)) (run_bind (value_task plan here key f) (or_task (first_task plan here key fs)) k ∙ (ap (λ (q : Run Value). follow q.log q.end (λ v. run (or_task (first_task plan here key fs) v) k)) r.2 ∙ ends v n))
        ∙ ap (λ l. record { log = l; end = look_end v }) (sym (singles-append h.0 r.0))),
  )
    where
      ends : (v : Look) → (v ≡ looks.Absent → ⊥) → follow (singles r.0) (look_end v) (λ v. run (or_task (first_task plan here key fs) v) k) ≡ (let e : Run Value = record { log = singles r.0; end = look_end v } in e)
      ends looks.Absent n = absurd (n refl)
      ends (looks.Lent bytes) n = ap (λ l. record { log = l; end = done (text bytes.now) }) (append-nil (singles r.0))
      ends (looks.Made bytes) n = ap (λ l. record { log = l; end = done (text bytes) }) (append-nil (singles r.0))
      ends looks.Flag n = ap (λ l. record { log = l; end = done flag }) (append-nil (singles r.0))
      ends (looks.List l) n = ap (λ m. record { log = m; end = done (list (listing_of l)) }) (append-nil (singles r.0))
      ends (looks.Asks p) n = refl
      ends (looks.Fails e) n = refl

  pub looked-found-at : (i : ℕ) (f : Field) (v : Look) → i < length all → f ≡ get_or all i f → (v ≡ looks.Absent → ⊥) → Looked plan k here key all old mid (drop i all) → RunsOn mid new (run (value_task plan here key f) k) (look_end v) → RunsOn old new (run (first_task plan here key all) k) (look_end v)
  looked-found-at i f v lt e n h r = looked-found f (drop (suc i) all) v n (subst (Looked plan k here key all old mid) (drop-item all i f lt e) h) r

-- the value of a key is that of the first of the context's fields
pub first-fields : (plan : Lookups) (here : Place) (key : Bytes) (fs : List Field) → fs ≡ (plan.context here.context).fields → first_task plan here key fs ≡ field_task plan here key
unfolding field_task
first-fields plan here key fs e = ap (first_task plan here key) e

-- no field had anything
pub looked-all : (plan : Lookups) (k : Pages) (here : Place) (key : Bytes) (all : List Field) (old new : List ℕ) → Looked plan k here key all old new [] → RunsOn old new (run (first_task plan here key all) k) (done absent)
looked-all plan k here key all old new h = (h.0, h.1, h.2 ∙ ap (λ l. record { log = l; end = done absent }) (append-nil (singles h.0)))

-- a task without marks

pub runs-none : {A : Type 0} (old new : List ℕ) (r : Run A) (e : End A) → new ≡ old → r ≡ record { log = []; end = e } → RunsOn old new r e
runs-none old new r e same is = ([], same ∙ sym (append-nil old), is)

-- what is asked for and goes on
pub runs-then : {A B : Type 0} (k : Pages) (t : Task A) (f : A → Task B) (old new : List ℕ) (x : A) (e : End B) → RunsOn old new (run t k) (done x) → run (f x) k ≡ record { log = []; end = e } → RunsOn old new (run (t ▷ f) k) e
runs-then {A} k t f old new x e h is =
    (h.0, h.1, run_bind t f k ∙ (ap (λ (q : Run A). follow q.log q.end (λ v. run (f v) k)) h.2 ∙ (ap (onward (singles h.0)) is ∙ ap (λ l. record { log = l; end = e }) (append-nil (singles h.0)))))

pub runs-waits : {A B : Type 0} (k : Pages) (t : Task A) (f : A → Task B) (old new ps : List ℕ) → RunsOn old new (run t k) (waits ps) → RunsOn old new (run (t ▷ f) k) (waits ps)
runs-waits {A} k t f old new ps h = (h.0, h.1, run_bind t f k ∙ ap (λ (q : Run A). follow q.log q.end (λ v. run (f v) k)) h.2)

pub runs-fails : {A B : Type 0} (k : Pages) (t : Task A) (f : A → Task B) (old new : List ℕ) (x : Fault) → RunsOn old new (run t k) (fault x) → RunsOn old new (run (t ▷ f) k) (fault x)
runs-fails {A} k t f old new x h = (h.0, h.1, run_bind t f k ∙ ap (λ (q : Run A). follow q.log q.end (λ v. run (f v) k)) h.2)

-- one more pair is noted

pub note-turn : (start now later : FactsView) (ps : List ℕ) (i p : ℕ) → i < length ps → p ≡ get_or ps i p → now ≡ noted start (singles (take i ps)) → later ≡ with_group now (p ∷ []) → later ≡ noted start (singles (take (i + 1) ps))
note-turn start now later ps i p lt at was is =
    let next : take (i + 1) ps ≡ take i ps ++ p ∷ [] = take_more ps i p lt ∙ ap (λ x. take i ps ++ x ∷ []) (sym at) in
    is ∙ (ap (λ f. with_group f (p ∷ [])) was ∙ (sym (noted-append start (singles (take i ps)) (asked (p ∷ []) ∷ [])) ∙ (ap (noted start) (sym (singles-append (take i ps) (p ∷ []))) ∙ ap (λ l. noted start (singles l)) (sym next))))

-- what was asked for is noted, unless it waits
pub look-comes : (k : Pages) (t : Task Value) (old new : FactsView) (v : Look) (asks : List ℕ) → RunsOn [] asks (run t k) (look_end v) → ((p : ℕ) → v ≡ looks.Asks p → new ≡ old) → (((p : ℕ) → v ≡ looks.Asks p → ⊥) → new ≡ noted old (singles asks)) → Comes k t old (look_end v) new
look-comes k t old new looks.Absent asks h w n = (singles h.0, h.2, n (λ p e. cc) ∙ ap (λ l. noted old (singles l)) h.1)
look-comes k t old new (looks.Lent bytes) asks h w n = (singles h.0, h.2, n (λ p e. cc) ∙ ap (λ l. noted old (singles l)) h.1)
look-comes k t old new (looks.Made bytes) asks h w n = (singles h.0, h.2, n (λ p e. cc) ∙ ap (λ l. noted old (singles l)) h.1)
look-comes k t old new looks.Flag asks h w n = (singles h.0, h.2, n (λ p e. cc) ∙ ap (λ l. noted old (singles l)) h.1)
look-comes k t old new (looks.List l) asks h w n = (singles h.0, h.2, n (λ p e. cc) ∙ ap (λ l. noted old (singles l)) h.1)
look-comes k t old new (looks.Asks p) asks h w n = (ap (λ (r : Run Value). r.end) h.2, w p refl)
look-comes k t old new (looks.Fails e) asks h w n = ap (λ (r : Run Value). r.end) h.2
