-- The replay over the runs of any lawful family is lawful; over those of tasks it is the replay's task.
use Rattle.std.proofs.Common.{◌≡◌, ◌≢◌, refl, sym, ap, ◌∙◌, subst, ℕ, ◌<◌, Bool, true, false, cond, ◌||◌, ◌⊎◌, inl, inr, List, [], ◌∷◌, ◌++◌, map, append-nil, append_assoc, length, Option, Some, None, is_some, is_none, nat_eq, eqb-true, eq-eqb, Contains, All}
use Rattle.std.specs.List.{AllByRecursion, IsDistinct}
use Rattle.std.proofs.lemmas.List.Elements.{All-from_recursion, recursion_from_All, filter-append}
use Rattle.hk_base.specs.Identifier.{Ident}
use Rattle.hk_chain.specs.declared.page.Page.{Page}
use Rattle.hk_chain.specs.Layout.{Shape, pairs, item_of, final_of}
use Rattle.hk_chain.specs.Snapshots.{Ascending, AreSnapshots}
use Rattle.hk_fix.specs.Pages.{Pages, Extends, Begins, lacking, all_pages}
use Rattle.hk_fix.specs.Task.{Task, gives, used, saved, Mark, asked, note, End, done, fault, waits, Run, run, onward, answered}
use Rattle.hk_fix.specs.Run.{Save, asks_of, saves_of, patterns_of, page_in, snapshot, lacked, AllAbove, Rising, IsRun}
use Rattle.hk_fix.specs.Facts.{is_in}
use Rattle.hk_fix.specs.Chains.{AllGroups}
use Rattle.hk_fix.specs.ChainLaws.{saved_pairs}
use Rattle.hk_fix.specs.TaskLaws.{follow, run_bind, run_waits, run_some, run_once, run_still, run_same, run_grows, run_within, asks_of-append}
use Rattle.hk_fix.proofs.Orders.{clash, or_cases, or_right, the_some, saves_of-append}
use Rattle.hk_fix.proofs.Trails.{in-append, or_left}
use Rattle.hk_fix.proofs.Steps.{contains-in}
use Rattle.hk_fix.specs.Fix.{or_else}
use Rattle.hk_fix.specs.Table.{Table}
use Rattle.hk_fix.specs.Deeds.{task_of}
use Rattle.hk_store.specs.Digests.{Digests}
use Rattle.hk_store.specs.Entry.{MarkView, asked as recorded, stored, EntryView}
use Rattle.hk_reuse.specs.Entries.{Entries, front, last_page, saved_names, IsFormed, AreFormed}
use Rattle.hk_reuse.specs.Fits.{fits}
use Rattle.hk_reuse.specs.Replay.{Attempt, through, broke, same_pages, asked_pairs, pattern_numbers, attempt, finish, attempt_of, replay_by}
use Rattle.hk_reuse.specs.Site.{pair_named, Items, own_pairs, AreItems, Site, items_of, clean_run}
use Rattle.hk_reuse.specs.Rebuilt.{replay_of, replay_run}
use Rattle.hk_reuse.specs.Over.{drop_saved, finish_run, over_entry, over_by, over}
use Rattle.hk_reuse.proofs.Lists.{all-at, all-append}
use Rattle.hk_reuse.proofs.Logs.{kept_after, patterns_of-append, patterns-drop, asks-drop, drop-append, kept-same, saved-append, run-without}
use Rattle.hk_reuse.proofs.Sites.{rising-pairs}
use Rattle.hk_reuse.proofs.Laws.{attempt-groups, groups-once, groups-within, front-once, Fitting, fitting}
use Rattle.hk_reuse.proofs.Central.{waits-not}
use Rattle.hk_chain.specs.declared.fault.Fault.{Fault}
use Rattle.hk_reuse.proofs.Finishes.{run-notes, used_marks, asks-used, saves-used, patterns-used}

-- over the runs of tasks
module _ (whole : Task Page) (ns : List ℕ) (k : Pages) where
  finish-same : (y : Attempt) → run (finish whole ns y) k ≡ finish_run (run whole k) ns y
  finish-same (through x) = run-notes ns x k
  finish-same (broke kept) = run-without kept whole k

  follow-same : (log : List Mark) (e : End Attempt) → follow log e (λ y. run (finish whole ns y) k) ≡ follow log e (finish_run (run whole k) ns)
  follow-same log (done y) = ap (onward log) (finish-same y)
  follow-same log (fault e) = refl
  follow-same log (waits ps) = refl

module _ (dig : Digests) (site : Site) (entries : Entries) where
  over-clean : (i : ℕ) (o : Option EntryView) (k : Pages) → run (replay_of dig site entries i o) k ≡ over_by dig (items_of site) entries (clean_run site) i o k
  over-clean i None k = refl
  over-clean i (Some e) k =
      elim (fits dig (items_of site) i e) as (λ b. run (cond b (replay_by dig (items_of site) i (task_of site.deeds i) e) (task_of site.deeds i)) k ≡ cond b (over_entry dig (items_of site) entries (clean_run site) i e k) (clean_run site i k)) [
        | true ↦ run_bind (attempt_of dig (items_of site) i e) (finish (task_of site.deeds i) (pattern_numbers site.deeds.table e)) k ∙ follow-same (task_of site.deeds i) (pattern_numbers site.deeds.table e) k (run (attempt_of dig (items_of site) i e) k).log (run (attempt_of dig (items_of site) i e) k).end
        | false ↦ refl
      ]

  pub replay-over : (i : ℕ) (k : Pages) → replay_run dig site entries i k ≡ over dig (items_of site) entries (clean_run site) i k
  replay-over i k = over-clean i (entries (site.deeds.id i)) k

-- what an entry saves on its way
pub record Attempted (ps kept : List ℕ) (a : Run Attempt) : Type 0 where
  pub begins : Begins (saved_pairs a.log) ps
  pub all : (x : Page) → a.end ≡ done (through x) → saved_pairs a.log ≡ ps
  pub broken : (h : List ℕ) → a.end ≡ done (broke h) → h ≡ kept_after kept a.log
  pub unused : patterns_of a.log ≡ []

module _ (dig : Digests) (table : Table) (own : Ident) (x : Page) (k : Pages) where
  abbrev named : List MarkView → List ℕ
  named marks = map (pair_named table own) (saved_names marks)

  stops-here : (ps kept : List ℕ) → Attempted ps kept (run {A = Attempt} (gives (broke kept)) k)
  stops-here ps kept = record { begins = (ps, refl); all = λ y e. cc; broken = λ h e. cc; unused = refl }

  attempted-if : (ps kept : List ℕ) (b : Bool) (t : Task Attempt) → Attempted ps kept (run t k) → Attempted ps kept (run (cond b t (gives (broke kept))) k)
  attempted-if ps kept true t h = h
  attempted-if ps kept false t h = stops-here ps kept

  attempted-group : (ps kept qs : List ℕ) (f : List Page → Task Attempt) → ((xs : List Page) → Attempted ps kept (run (f xs) k)) → (o : Option (List Page))
      → Attempted ps kept (answered qs (lacking k qs) (λ xs. run (f xs) k) o)
  attempted-group ps kept qs f h None = record { begins = (ps, refl); all = λ y e. cc; broken = λ g e. cc; unused = refl }
  attempted-group ps kept qs f h (Some xs) = let r : Attempted ps kept (run (f xs) k) = h xs in record { begins = r.begins; all = r.all; broken = r.broken; unused = r.unused }

  pub attempted : (marks : List MarkView) (kept : List ℕ) → Attempted (named marks) kept (run (attempt dig table own x kept marks) k)
  attempted [] kept = record { begins = ([], refl); all = λ y e. refl; broken = λ h e. cc; unused = refl }
  attempted (recorded rs ∷ marks) kept =
      let rest = attempt dig table own x kept marks in
      attempted-group (named marks) kept (asked_pairs table rs) (λ xs. cond (same_pages dig xs rs) rest (gives (broke kept)))
      (λ xs. attempted-if (named marks) kept (same_pages dig xs rs) rest (attempted marks kept)) (all_pages k (asked_pairs table rs))
  attempted (stored name page ∷ marks) kept =
      let q = pair_named table own name in
      let r : Attempted (named marks) (q ∷ kept) (run (attempt dig table own x (q ∷ kept) marks) k) = attempted marks (q ∷ kept) in
      record {
        begins = (r.begins.0, ap (λ l. q ∷ l) r.begins.1);
        all = λ y e. ap (λ l. q ∷ l) (r.all y e);
        broken = r.broken;
        unused = r.unused;
      }

-- pairs that are known
known-all : (k m : Pages) → Extends k m → (ps : List ℕ) → lacking k ps ≡ [] → AllByRecursion (λ p. m p ≡ k p) ps
known-all k m ext [] e = tt
known-all k m ext (p ∷ ps) e = at (k p) refl e (λ w. known-all k m ext ps w)
  where
    at : (o : Option Page) → k p ≡ o → cond (is_none o) (p ∷ lacking k ps) (lacking k ps) ≡ [] → (lacking k ps ≡ [] → AllByRecursion (λ q. m q ≡ k q) ps)
        → (m p ≡ k p) × AllByRecursion (λ q. m q ≡ k q) ps
    at None w e f = cc
    at (Some x) w e f = (ext p x w ∙ sym w, f e)

in-lacking : (k : Pages) (ps : List ℕ) (p : ℕ) → is_in (lacking k ps) p ≡ true → is_in ps p ≡ true
in-lacking k [] p e = e
in-lacking k (q ∷ ps) p e =
    elim (is_none (k q)) as (λ b. is_in (cond b (q ∷ lacking k ps) (lacking k ps)) p ≡ true → (nat_eq p q || is_in ps p) ≡ true) [
      | true ↦ λ w. elim (or_cases (nat_eq p q) (is_in (lacking k ps) p) w) [
        | inl u ↦ rw u refl
        | inr u ↦ or_right (nat_eq p q) (is_in ps p) (in-lacking k ps p u)
      ]
      | false ↦ λ w. or_right (nat_eq p q) (is_in ps p) (in-lacking k ps p w)
    ] e

lacks-it : (m : Pages) (ps : List ℕ) (p : ℕ) → m p ≡ None → is_in ps p ≡ true → lacking m ps ≡ [] → ⊥
lacks-it m [] p n i e = cc
lacks-it m (q ∷ ps) p n i e = at (m q) refl (or_cases (nat_eq p q) (is_in ps p) i) e (λ w u. lacks-it m ps p n w u)
  where
    at : (o : Option Page) → m q ≡ o → (nat_eq p q ≡ true) ⊎ (is_in ps p ≡ true) → cond (is_none o) (q ∷ lacking m ps) (lacking m ps) ≡ [] → (is_in ps p ≡ true → lacking m ps ≡ [] → ⊥) → ⊥
    at None w c e f = cc
    at (Some x) w (inl t) e f = let u : m p ≡ m q = ap m (eqb-true p q t) in let z : None ≡ Some x = sym n ∙ (u ∙ w) in cc
    at (Some x) w (inr t) e f = f t e

-- saves
page-in-append : (ss ts : List Save) (p : ℕ) → page_in (ss ++ ts) p ≡ or_else (page_in ss p) (page_in ts p)
page-in-append [] ts p = refl
page-in-append (s ∷ ss) ts p =
    elim (nat_eq s.pair p) as (λ b. cond b (Some s.page) (page_in (ss ++ ts) p) ≡ or_else (cond b (Some s.page) (page_in ss p)) (page_in ts p)) [
      | true ↦ refl
      | false ↦ page-in-append ss ts p
    ]

page-dropped : (kept : List ℕ) (l : List Mark) (p : ℕ) → page_in (saves_of (drop_saved kept l)) p ≡ cond (is_in kept p) None (page_in (saves_of l) p)
page-dropped kept [] p = sym (nothing (is_in kept p))
  where
    nothing : (b : Bool) → cond {A = Option Page} b None None ≡ None
    nothing true = refl
    nothing false = refl
page-dropped kept (asked ps ∷ l) p = page-dropped kept l p
page-dropped kept (note (used n) ∷ l) p = page-dropped kept l p
page-dropped kept (note (saved q x) ∷ l) p = at (page-dropped kept l p) (is_in kept q) refl (nat_eq q p) refl
  where
    at : page_in (saves_of (drop_saved kept l)) p ≡ cond (is_in kept p) None (page_in (saves_of l) p) → (b : Bool) → is_in kept q ≡ b → (c : Bool)
        → nat_eq q p ≡ c
        → page_in (saves_of (cond b (drop_saved kept l) (note (saved q x) ∷ drop_saved kept l))) p ≡ cond (is_in kept p) None (cond c (Some x) (page_in (saves_of l) p))
    at rec true u true w = let i : is_in kept p ≡ true = sym (ap (is_in kept) (eqb-true q p w)) ∙ u in rec ∙ rw i refl
    at rec true u false w = rec
    at rec false u true w = let i : is_in kept p ≡ false = sym (ap (is_in kept) (eqb-true q p w)) ∙ u in rw (w, i) refl
    at rec false u false w = rw w rec

rising-back : (ss : List Save) → Ascending (map (λ s. s.pair) ss) → Rising ss
rising-back [] h = tt
rising-back (s ∷ ss) h = (above ss h.0, rising-back ss h.1)
  where
    above : (ts : List Save) → AllByRecursion (λ q. s.pair < q) (map (λ r. r.pair) ts) → AllAbove s.pair ts
    above [] w = tt
    above (r ∷ ts) w = (w.0, above ts w.1)

has-page : (ss : List Save) (p : ℕ) → is_in (map (λ s. s.pair) ss) p ≡ true → is_some (page_in ss p) ≡ true
has-page [] p e = cc
has-page (s ∷ ss) p e =
    elim (or_cases (nat_eq p s.pair) (is_in (map (λ r. r.pair) ss) p) e) [
      | inl t ↦ rw (eqb-true p s.pair t, eq-eqb s.pair s.pair refl) refl
      | inr t ↦ elim (nat_eq s.pair p) as (λ b. is_some (cond b (Some s.page) (page_in ss p)) ≡ true) [
        | true ↦ refl
        | false ↦ has-page ss p t
      ]
    ]

page-has : (ss : List Save) (p : ℕ) (x : Page) → page_in ss p ≡ Some x → is_in (map (λ s. s.pair) ss) p ≡ true
page-has [] p x e = cc
page-has (s ∷ ss) p x e =
    elim (nat_eq s.pair p) as (λ b. nat_eq s.pair p ≡ b → cond b (Some s.page) (page_in ss p) ≡ Some x → (nat_eq p s.pair || is_in (map (λ r. r.pair) ss) p) ≡ true) [
      | true ↦ λ t w. rw (eqb-true s.pair p t, eq-eqb p p refl) refl
      | false ↦ λ t w. or_right (nat_eq p s.pair) (is_in (map (λ r. r.pair) ss) p) (page-has ss p x w)
    ] refl e

-- lists that ascend
ascends-on : (a b : List ℕ) → Ascending a → Ascending b → ((x y : ℕ) → is_in a x ≡ true → is_in b y ≡ true → x < y) → Ascending (a ++ b)
ascends-on [] b h g f = g
ascends-on (x ∷ a) b h g f = (all a b h.0 (λ y i. f x y (rw (eq-eqb x x refl) refl) i), ascends-on a b h.1 g (λ u v i j. f u v (or_right (nat_eq u x) (is_in a u) i) j))
  where
    all : (c d : List ℕ) → AllByRecursion (λ q. x < q) c → ((y : ℕ) → is_in d y ≡ true → x < y) → AllByRecursion (λ q. x < q) (c ++ d)
    all [] [] w k = tt
    all [] (y ∷ d) w k = (k y (rw (eq-eqb y y refl) refl), all [] d tt (λ z i. k z (or_right (nat_eq z y) (is_in d z) i)))
    all (y ∷ c) d w k = (w.0, all c d w.1 k)

ascending-front : (a b : List ℕ) → Ascending (a ++ b) → Ascending a
ascending-front [] b h = tt
ascending-front (x ∷ a) b h = (front-of-all a h.0, ascending-front a b h.1)
  where
    front-of-all : (c : List ℕ) → AllByRecursion (λ q. x < q) (c ++ b) → AllByRecursion (λ q. x < q) c
    front-of-all [] w = tt
    front-of-all (y ∷ c) w = (w.0, front-of-all c w.1)

ascending-cross : (a b : List ℕ) → Ascending (a ++ b) → (x y : ℕ) → is_in a x ≡ true → is_in b y ≡ true → x < y
ascending-cross [] b h x y i j = cc
ascending-cross (z ∷ a) b h x y i j =
    elim (or_cases (nat_eq x z) (is_in a x) i) [
      | inl t ↦ subst (λ n. n < y) (sym (eqb-true x z t)) (all-at (λ q. z < q) (a ++ b) y h.0 (in-append a b y ∙ or_right (is_in a y) (is_in b y) j))
      | inr t ↦ ascending-cross a b h.1 x y t j
    ]

ascending-dropped : (kept : List ℕ) (l : List Mark) → Ascending (saved_pairs l) → Ascending (saved_pairs (drop_saved kept l))
ascending-dropped kept [] h = tt
ascending-dropped kept (asked ps ∷ l) h = ascending-dropped kept l h
ascending-dropped kept (note (used n) ∷ l) h = ascending-dropped kept l h
ascending-dropped kept (note (saved p x) ∷ l) h =
    elim (is_in kept p) as (λ b. Ascending (saved_pairs (cond b (drop_saved kept l) (note (saved p x) ∷ drop_saved kept l)))) [
      | true ↦ ascending-dropped kept l h.1
      | false ↦ (fewer l h.0, ascending-dropped kept l h.1)
    ]
  where
    fewer : (m : List Mark) → AllByRecursion (λ q. p < q) (saved_pairs m) → AllByRecursion (λ q. p < q) (saved_pairs (drop_saved kept m))
    fewer [] w = tt
    fewer (asked ps ∷ m) w = fewer m w
    fewer (note (used n) ∷ m) w = fewer m w
    fewer (note (saved q y) ∷ m) w =
        elim (is_in kept q) as (λ b. AllByRecursion (λ r. p < r) (saved_pairs (cond b (drop_saved kept m) (note (saved q y) ∷ drop_saved kept m)))) [
          | true ↦ fewer m w.1
          | false ↦ (w.0, fewer m w.1)
        ]

in-dropped : (kept : List ℕ) (l : List Mark) (y : ℕ) → is_in (saved_pairs (drop_saved kept l)) y ≡ true → (is_in kept y ≡ false) × (is_some (page_in (saves_of l) y) ≡ true)
in-dropped kept l y e = at (is_in kept y) refl (ap is_some (sym (page-dropped kept l y)) ∙ has-page (saves_of (drop_saved kept l)) y e)
  where
    at : (b : Bool) → is_in kept y ≡ b → is_some (cond b None (page_in (saves_of l) y)) ≡ true → (b ≡ false) × (is_some (page_in (saves_of l) y) ≡ true)
    at true w h = cc
    at false w h = (refl, h)

else-some : (o q : Option Page) (x : Page) → or_else o q ≡ Some x → ((y : Page) × (o ≡ Some y)) ⊎ (q ≡ Some x)
else-some None q x e = inr e
else-some (Some y) q x e = inl (y, refl)

else-has : (o q : Option Page) → (is_some o ≡ true) ⊎ (is_some q ≡ true) → is_some (or_else o q) ≡ true
else-has None q (inl e) = cc
else-has None q (inr e) = e
else-has (Some y) q e = refl

fault-waits : (A : Type 0) (f : Fault) (l : List ℕ) → ◌≡◌ {A = End A} (fault f) (waits l) → ⊥
fault-waits A f l h = cc

then-begins : (x y z : List Mark) → Begins x y → Begins y z → Begins x z
then-begins x y z u v = (u.0 ++ v.0, v.1 ∙ (ap (λ l. l ++ v.0) u.1 ∙ append_assoc x u.0 v.0))

module _ (lay : Shape) (inner : ℕ → Pages → Run Page) (laws : IsRun lay inner) (i : ℕ) (lt : i < lay.items) (on : List ℕ)
    (snaps : AreSnapshots lay i on) (t : Task Attempt) (ns : List ℕ) (once : AllGroups (IsDistinct nat_eq) t)
    (inside : AllGroups (AllByRecursion (λ p. p < pairs lay)) t) (went : (k : Pages) → Attempted on [] (run t k)) where
  abbrev pub a : Pages → Run Attempt
  a k = run t k

  abbrev pub after : Pages → Attempt → Run Page
  after k = finish_run (inner i k) ns

  abbrev pub by_end : Pages → Pages → End Attempt → Run Page
  by_end k m e = follow (a k).log e (after m)

  abbrev pub g : Pages → Run Page
  g k = by_end k k (a k).end

  none-lacks : (k : Pages) (y : Attempt) → (a k).end ≡ done y → lacking k (asks_of (a k).log) ≡ []
  none-lacks k y e = run_waits t k ∙ ap lacked e

  settles : (k m : Pages) → Extends k m → (y : Attempt) → (a k).end ≡ done y → a m ≡ a k
  settles k m ext y e = run_same t k m (known-all k m ext (asks_of (a k).log) (none-lacks k y e))

  asks-through : (log : List Mark) → asks_of (log ++ used_marks ns) ≡ asks_of log
  asks-through log = asks_of-append log (used_marks ns) ∙ (ap (λ l. asks_of log ++ l) (asks-used ns) ∙ append-nil (asks_of log))

  asks-broke : (log : List Mark) (kept : List ℕ) (k : Pages) → asks_of (log ++ drop_saved kept (inner i k).log) ≡ asks_of log ++ asks_of (inner i k).log
  asks-broke log kept k = asks_of-append log (drop_saved kept (inner i k).log) ∙ ap (λ l. asks_of log ++ l) (asks-drop kept (inner i k).log)

  -- waits
  waiting-by : (k : Pages) (e : End Attempt) → (a k).end ≡ e → lacking k (asks_of (by_end k k e).log) ≡ lacked (by_end k k e).end
  waiting-by k (fault f) w = run_waits t k ∙ ap lacked w
  waiting-by k (waits ps) w = run_waits t k ∙ ap lacked w
  waiting-by k (done (through x)) w = ap (lacking k) (asks-through (a k).log) ∙ none-lacks k (through x) w
  waiting-by k (done (broke kept)) w =
      ap (lacking k) (asks-broke (a k).log kept k)
      ∙ (filter-append (λ p. is_none (k p)) (asks_of (a k).log) (asks_of (inner i k).log)
      ∙ (ap (λ l. l ++ lacking k (asks_of (inner i k).log)) (none-lacks k (broke kept) w) ∙ laws.waiting i k lt))

  some-by : (k : Pages) (l : List ℕ) (e : End Attempt) → (a k).end ≡ e → (by_end k k e).end ≡ waits l → 0 < length l
  some-by k l (fault f) w h = cc
  some-by k l (waits ps) w h = let u : ps ≡ l = cc in run_some t k l (w ∙ ap waits u)
  some-by k l (done (through x)) w h = cc
  some-by k l (done (broke kept)) w h = laws.some i k l lt h

  once-by : (k : Pages) (l : List ℕ) (e : End Attempt) → (a k).end ≡ e → (by_end k k e).end ≡ waits l → IsDistinct nat_eq l
  once-by k l (fault f) w h = absurd (fault-waits Page f l h)
  once-by k l (waits ps) w h = let u : ps ≡ l = cc in run_once t once k l (w ∙ ap waits u)
  once-by k l (done (through x)) w h = absurd (waits-not l x (sym h))
  once-by k l (done (broke kept)) w h = laws.once i k l lt h

  -- the run under more pages, where the attempt waits
  still-waits : (k m : Pages) (p : ℕ) → m p ≡ None → is_in (asks_of (a k).log) p ≡ true → (a m).log ≡ (a k).log → (e : End Attempt) → (a m).end ≡ e → (by_end m m e).log ≡ (a k).log
  still-waits k m p n c same (done y) w = absurd (lacks-it m (asks_of (a m).log) p n (subst (λ l. is_in (asks_of l) p ≡ true) (sym same) c) (none-lacks m y w))
  still-waits k m p n c same (fault f) w = same
  still-waits k m p n c same (waits ps) w = same

  still-by : (k m : Pages) (l : List ℕ) (p : ℕ) → Extends k m → Contains l p → m p ≡ None → (e : End Attempt) → (a k).end ≡ e → (by_end k k e).end ≡ waits l → (g m).log ≡ (by_end k k e).log
  still-by k m l p ext c n (fault f) w h = cc
  still-by k m l p ext c n (waits ps) w h =
      let u : ps ≡ l = cc in
      let z : (a k).end ≡ waits l = w ∙ ap waits u in
      let x : is_in (lacking k (asks_of (a k).log)) p ≡ true = ap (λ q. is_in q p) (run_waits t k ∙ ap lacked z) ∙ contains-in l p c in
      still-waits k m p n (in-lacking k (asks_of (a k).log) p x) (run_still t k m l p ext c n z) (a m).end refl
  still-by k m l p ext c n (done (through x)) w h = cc
  still-by k m l p ext c n (done (broke kept)) w h =
      let s : a m ≡ a k = settles k m ext (broke kept) w in
      ap (λ r. (follow r.log r.end (after m)).log) s ∙ (ap (λ e. (by_end k m e).log) w ∙ ap (λ q. (a k).log ++ drop_saved kept q) (laws.still i k m l p lt h ext c n))

  -- only the asked pages matter
  same-by : (k m : Pages) (e : End Attempt) → (a k).end ≡ e → AllByRecursion (λ p. m p ≡ k p) (asks_of (by_end k k e).log) → g m ≡ by_end k k e
  same-by k m (fault f) w h = ap (λ r. follow r.log r.end (after m)) (run_same t k m h) ∙ ap (by_end k m) w
  same-by k m (waits ps) w h = ap (λ r. follow r.log r.end (after m)) (run_same t k m h) ∙ ap (by_end k m) w
  same-by k m (done (through x)) w h = ap (λ r. follow r.log r.end (after m)) (run_same t k m (subst (AllByRecursion (λ p. m p ≡ k p)) (asks-through (a k).log) h)) ∙ ap (by_end k m) w
  same-by k m (done (broke kept)) w h =
      let b : AllByRecursion (λ p. m p ≡ k p) (asks_of (a k).log ++ asks_of (inner i k).log) = subst (AllByRecursion (λ p. m p ≡ k p)) (asks-broke (a k).log kept k) h in
      let one : AllByRecursion (λ p. m p ≡ k p) (asks_of (a k).log) = front-of (asks_of (a k).log) (asks_of (inner i k).log) b in
      let two : inner i m ≡ inner i k = laws.same i k m lt (All-from_recursion (λ p. m p ≡ k p) (asks_of (inner i k).log) (rest-of (asks_of (a k).log) (asks_of (inner i k).log) b)) in
      ap (λ r. follow r.log r.end (after m)) (run_same t k m one) ∙ (ap (by_end k m) w ∙ ap (λ r. follow (a k).log (done (broke kept)) (finish_run r ns)) two)
    where
      front-of : (x y : List ℕ) → AllByRecursion (λ p. m p ≡ k p) (x ++ y) → AllByRecursion (λ p. m p ≡ k p) x
      front-of [] y h = tt
      front-of (p ∷ x) y h = (h.0, front-of x y h.1)

      rest-of : (x y : List ℕ) → AllByRecursion (λ p. m p ≡ k p) (x ++ y) → AllByRecursion (λ p. m p ≡ k p) y
      rest-of [] y h = h
      rest-of (p ∷ x) y h = rest-of x y h.1

  -- more pages extend the log
  begins-follow : (k : Pages) (e : End Attempt) → Begins (a k).log (by_end k k e).log
  begins-follow k (fault f) = ([], sym (append-nil (a k).log))
  begins-follow k (waits ps) = ([], sym (append-nil (a k).log))
  begins-follow k (done y) = ((after k y).log, refl)

  grows-by : (k m : Pages) → Extends k m → (e : End Attempt) → (a k).end ≡ e → Begins (by_end k k e).log (g m).log
  grows-by k m ext (fault f) w = then-begins (a k).log (a m).log (g m).log (run_grows t k m ext) (begins-follow m (a m).end)
  grows-by k m ext (waits ps) w = then-begins (a k).log (a m).log (g m).log (run_grows t k m ext) (begins-follow m (a m).end)
  grows-by k m ext (done (through x)) w = ([], ap (λ r. (follow r.log r.end (after m)).log) (settles k m ext (through x) w) ∙ (ap (λ e. (by_end k m e).log) w ∙ sym (append-nil ((a k).log ++ used_marks ns))))
  grows-by k m ext (done (broke kept)) w =
      let b : Begins (inner i k).log (inner i m).log = laws.grows i k m lt ext in (
        drop_saved kept b.0,
        ap (λ r. (follow r.log r.end (after m)).log) (settles k m ext (broke kept) w)
            ∙ (ap (λ e. (by_end k m e).log) w ∙ (ap (λ q. (a k).log ++ drop_saved kept q) b.1 ∙ (ap (λ q. (a k).log ++ q) (drop-append kept (inner i k).log b.0) ∙ sym (append_assoc (a k).log (drop_saved kept (inner i k).log) (drop_saved kept b.0))))),
      )

  -- saves
  abbrev IsOwn : ℕ → Type 0
  IsOwn p = (p < pairs lay) × (item_of lay p ≡ i) × (p ≢ final_of lay i)

  in-on : (k : Pages) (p : ℕ) → is_in (saved_pairs (a k).log) p ≡ true → IsOwn p
  in-on k p e = all-at IsOwn on p snaps.own (ap (λ l. is_in l p) (went k).begins.1 ∙ (in-append (saved_pairs (a k).log) (went k).begins.0 p ∙ or_left (is_in (saved_pairs (a k).log) p) (is_in (went k).begins.0 p) e))

  saves-through : (log : List Mark) → saves_of (log ++ used_marks ns) ≡ saves_of log
  saves-through log = saves_of-append log (used_marks ns) ∙ (ap (λ l. saves_of log ++ l) (saves-used ns) ∙ append-nil (saves_of log))

  own-by : (k : Pages) (p : ℕ) (x : Page) (e : End Attempt) → page_in (saves_of (by_end k k e).log) p ≡ Some x → IsOwn p
  own-by k p x (fault f) h = in-on k p (page-has (saves_of (a k).log) p x h)
  own-by k p x (waits ps) h = in-on k p (page-has (saves_of (a k).log) p x h)
  own-by k p x (done (through y)) h = in-on k p (page-has (saves_of (a k).log) p x (ap (λ l. page_in l p) (sym (saves-through (a k).log)) ∙ h))
  own-by k p x (done (broke kept)) h =
      let r = inner i k in
      let both : or_else (page_in (saves_of (a k).log) p) (page_in (saves_of (drop_saved kept r.log)) p) ≡ Some x = sym (ap (λ l. page_in l p) (saves_of-append (a k).log (drop_saved kept r.log)) ∙ page-in-append (saves_of (a k).log) (saves_of (drop_saved kept r.log)) p) ∙ h in
      elim (else-some (page_in (saves_of (a k).log) p) (page_in (saves_of (drop_saved kept r.log)) p) x both) [
        | inl w ↦ in-on k p (page-has (saves_of (a k).log) p w.0 w.1)
        | inr w ↦ laws.own i k p x lt (inside-of (is_in kept p) (sym (page-dropped kept r.log p) ∙ w))
      ]
    where
      inside-of : (b : Bool) → cond b None (page_in (saves_of (inner i k).log) p) ≡ Some x → page_in (saves_of (inner i k).log) p ≡ Some x
      inside-of true e = cc
      inside-of false e = e

  ascends-a : (k : Pages) → Ascending (saved_pairs (a k).log)
  ascends-a k = ascending-front (saved_pairs (a k).log) (went k).begins.0 (subst Ascending (went k).begins.1 snaps.rising)

  kept-is : (k : Pages) (kept : List ℕ) → (a k).end ≡ done (broke kept) → (y : ℕ) → is_in kept y ≡ is_in (saved_pairs (a k).log) y
  kept-is k kept w y = ap (λ l. is_in l y) ((went k).broken kept w) ∙ (kept-same [] (a k).log y ∙ ap (λ l. is_in l y) (append-nil (saved_pairs (a k).log)))

  later-in : (k : Pages) (kept : List ℕ) → (a k).end ≡ done (broke kept) → (x y : ℕ) → is_in (saved_pairs (a k).log) x ≡ true → is_in (saved_pairs (drop_saved kept (inner i k).log)) y ≡ true → x < y
  later-in k kept w x y e h =
      let d = in-dropped kept (inner i k).log y h in
      let v : (z : Page) × (page_in (saves_of (inner i k).log) y ≡ Some z) = the_some (page_in (saves_of (inner i k).log) y) d.1 in
      let o = laws.own i k y v.0 lt v.1 in
      let there : is_in on y ≡ true = snaps.all y o.0 o.1 o.2 in
      let out : is_in (saved_pairs (a k).log) y ≡ false = sym (kept-is k kept w y) ∙ d.0 in
      let either : (is_in (saved_pairs (a k).log) y || is_in (went k).begins.0 y) ≡ true = sym (in-append (saved_pairs (a k).log) (went k).begins.0 y) ∙ (ap (λ l. is_in l y) (sym (went k).begins.1) ∙ there) in
      ascending-cross (saved_pairs (a k).log) (went k).begins.0 (subst Ascending (went k).begins.1 snaps.rising) x y e
      (elim (or_cases (is_in (saved_pairs (a k).log) y) (is_in (went k).begins.0 y) either) [
        | inl u ↦ clash (is_in (saved_pairs (a k).log) y) out u
        | inr u ↦ u
      ])

  rising-by : (k : Pages) (e : End Attempt) → (a k).end ≡ e → Ascending (saved_pairs (by_end k k e).log)
  rising-by k (fault f) w = ascends-a k
  rising-by k (waits ps) w = ascends-a k
  rising-by k (done (through x)) w = subst (λ ss. Ascending (map (λ s. s.pair) ss)) (sym (saves-through (a k).log)) (ascends-a k)
  rising-by k (done (broke kept)) w =
      subst Ascending (sym (saved-append (a k).log (drop_saved kept (inner i k).log)))
      (ascends-on (saved_pairs (a k).log) (saved_pairs (drop_saved kept (inner i k).log)) (ascends-a k) (ascending-dropped kept (inner i k).log (rising-pairs (saves_of (inner i k).log) (laws.rising i k lt))) (later-in k kept w))

  all-by : (k : Pages) (p : ℕ) (x : Page) (e : End Attempt) → (a k).end ≡ e → (by_end k k e).end ≡ done x → p < pairs lay → item_of lay p ≡ i
      → p ≢ final_of lay i → is_some (page_in (saves_of (by_end k k e).log) p) ≡ true
  all-by k p x (fault f) w h less of ne = cc
  all-by k p x (waits ps) w h less of ne = cc
  all-by k p x (done (through y)) w h less of ne =
      let there : is_in (saved_pairs (a k).log) p ≡ true = ap (λ l. is_in l p) ((went k).all y w) ∙ snaps.all p less of ne in
      ap (λ l. is_some (page_in l p)) (saves-through (a k).log) ∙ has-page (saves_of (a k).log) p there
  all-by k p x (done (broke kept)) w h less of ne =
      let r = inner i k in
      let had : is_some (page_in (saves_of r.log) p) ≡ true = laws.all i k p x lt h less of ne in
      ap is_some (ap (λ l. page_in l p) (saves_of-append (a k).log (drop_saved kept r.log)) ∙ page-in-append (saves_of (a k).log) (saves_of (drop_saved kept r.log)) p)
      ∙ else-has (page_in (saves_of (a k).log) p) (page_in (saves_of (drop_saved kept r.log)) p)
      (either (is_in kept p) refl had)
    where
      either : (b : Bool) → is_in kept p ≡ b → is_some (page_in (saves_of (inner i k).log) p) ≡ true
          → (is_some (page_in (saves_of (a k).log) p) ≡ true) ⊎ (is_some (page_in (saves_of (drop_saved kept (inner i k).log)) p) ≡ true)
      either true u v = inl (has-page (saves_of (a k).log) p (sym (kept-is k kept w p) ∙ u))
      either false u v = inr (ap is_some (page-dropped kept (inner i k).log p ∙ rw u refl) ∙ v)

  within-by : (k : Pages) (e : End Attempt) → AllByRecursion (λ p. p < pairs lay) (asks_of (by_end k k e).log)
  within-by k (fault f) = run_within (λ p. p < pairs lay) t inside k
  within-by k (waits ps) = run_within (λ p. p < pairs lay) t inside k
  within-by k (done (through x)) = subst (AllByRecursion (λ p. p < pairs lay)) (sym (asks-through (a k).log)) (run_within (λ p. p < pairs lay) t inside k)
  within-by k (done (broke kept)) =
      subst (AllByRecursion (λ p. p < pairs lay)) (sym (asks-broke (a k).log kept k))
      (all-append (λ p. p < pairs lay) (asks_of (a k).log) (asks_of (inner i k).log) (run_within (λ p. p < pairs lay) t inside k) (recursion_from_All (λ p. p < pairs lay) (asks_of (inner i k).log) (laws.within i k lt)))

-- the laws of one item's runs
pub record IsRunOf (lay : Shape) (i : ℕ) (g : Pages → Run Page) : Type 0 where
  pub waiting : (k : Pages) → lacking k (asks_of (g k).log) ≡ lacked (g k).end
  pub some : (k : Pages) (l : List ℕ) → (g k).end ≡ waits l → 0 < length l
  pub once : (k : Pages) (l : List ℕ) → (g k).end ≡ waits l → IsDistinct nat_eq l
  pub still : (k m : Pages) (l : List ℕ) (p : ℕ) → (g k).end ≡ waits l → Extends k m → Contains l p → m p ≡ None → (g m).log ≡ (g k).log
  pub same : (k m : Pages) → All (λ p. m p ≡ k p) (asks_of (g k).log) → g m ≡ g k
  pub grows : (k m : Pages) → Extends k m → Begins (g k).log (g m).log
  pub own : (k : Pages) (p : ℕ) (x : Page) → snapshot (g k) p ≡ Some x → (p < pairs lay) × (item_of lay p ≡ i) × (p ≢ final_of lay i)
  pub rising : (k : Pages) → Rising (saves_of (g k).log)
  pub all : (k : Pages) (p : ℕ) (x : Page) → (g k).end ≡ done x → p < pairs lay → item_of lay p ≡ i → p ≢ final_of lay i → is_some (snapshot (g k) p) ≡ true
  pub within : (k : Pages) → All (λ p. p < pairs lay) (asks_of (g k).log)

module _ (lay : Shape) (inner : ℕ → Pages → Run Page) (laws : IsRun lay inner) (i : ℕ) (lt : i < lay.items) where
  pub inner-laws : IsRunOf lay i (inner i)
  inner-laws =
      record {
        waiting = λ k. laws.waiting i k lt;
        some = λ k l e. laws.some i k l lt e;
        once = λ k l e. laws.once i k l lt e;
        still = λ k m l p e ext c n. laws.still i k m l p lt e ext c n;
        same = λ k m h. laws.same i k m lt h;
        grows = λ k m ext. laws.grows i k m lt ext;
        own = λ k p x e. laws.own i k p x lt e;
        rising = λ k. laws.rising i k lt;
        all = λ k p x e less of ne. laws.all i k p x lt e less of ne;
        within = λ k. laws.within i k lt;
      }

  module _ (on : List ℕ) (snaps : AreSnapshots lay i on) (t : Task Attempt) (ns : List ℕ) (once : AllGroups (IsDistinct nat_eq) t)
      (inside : AllGroups (AllByRecursion (λ p. p < pairs lay)) t) (went : (k : Pages) → Attempted on [] (run t k)) where
    pub attempt-laws : IsRunOf lay i (g lay inner laws i lt on snaps t ns once inside went)
    attempt-laws =
        record {
          waiting = λ k. waiting-by lay inner laws i lt on snaps t ns once inside went k (run t k).end refl;
          some = λ k l e. some-by lay inner laws i lt on snaps t ns once inside went k l (run t k).end refl e;
          once = λ k l e. once-by lay inner laws i lt on snaps t ns once inside went k l (run t k).end refl e;
          still = λ k m l p e ext c n. still-by lay inner laws i lt on snaps t ns once inside went k m l p ext c n (run t k).end refl e;
          same = λ k m h. same-by lay inner laws i lt on snaps t ns once inside went k m (run t k).end refl (recursion_from_All (λ p. m p ≡ k p) (asks_of (g lay inner laws i lt on snaps t ns once inside went k).log) h);
          grows = λ k m ext. grows-by lay inner laws i lt on snaps t ns once inside went k m ext (run t k).end refl;
          own = λ k p x e. own-by lay inner laws i lt on snaps t ns once inside went k p x (run t k).end e;
          rising = λ k. rising-back (saves_of (g lay inner laws i lt on snaps t ns once inside went k).log) (rising-by lay inner laws i lt on snaps t ns once inside went k (run t k).end refl);
          all = λ k p x e less of ne. all-by lay inner laws i lt on snaps t ns once inside went k p x (run t k).end refl e less of ne;
          within = λ k. All-from_recursion (λ p. p < pairs lay) (asks_of (g lay inner laws i lt on snaps t ns once inside went k).log) (within-by lay inner laws i lt on snaps t ns once inside went k (run t k).end);
        }

module _ (dig : Digests) (items : Items) (are : AreItems items) (entries : Entries) (formed : AreFormed entries) (inner : ℕ → Pages → Run Page) (laws : IsRun items.table.layout inner) where
  abbrev lay : Shape
  lay = items.table.layout

  fitting-laws : (i : ℕ) → i < lay.items → (e : EntryView) → IsFormed e → fits dig items i e ≡ true → IsRunOf lay i (over_entry dig items entries inner i e)
  fitting-laws i lt e f t =
      let fit : Fitting dig items i e = fitting dig items i e f.last t in
      let table = items.table in
      let own = items.id i in
      let last = last_page e.marks in
      attempt-laws lay inner laws i lt (own_pairs items i) (are.in_order i lt) (attempt_of dig items i e) (pattern_numbers table e)
      (attempt-groups (IsDistinct nat_eq) dig table own last (front e.marks) [] (groups-once dig table are.table (front e.marks) (front-once e.marks f.once) fit.marks))
      (attempt-groups (AllByRecursion (λ p. p < pairs lay)) dig table own last (front e.marks) [] (groups-within dig table are.table (front e.marks) fit.marks))
      (λ k. subst (λ ps. Attempted ps [] (run (attempt_of dig items i e) k)) fit.pairs (attempted dig table own last k (front e.marks) []))

  entry-laws : (i : ℕ) → i < lay.items → (o : Option EntryView) → entries (items.id i) ≡ o → IsRunOf lay i (over_by dig items entries inner i o)
  entry-laws i lt None h = inner-laws lay inner laws i lt
  entry-laws i lt (Some e) h =
      elim (fits dig items i e) as (λ b. fits dig items i e ≡ b → IsRunOf lay i (λ k. cond b (over_entry dig items entries inner i e k) (inner i k))) [
        | true ↦ λ t. fitting-laws i lt e (formed (items.id i) e h) t
        | false ↦ λ t. inner-laws lay inner laws i lt
      ] refl

  of : (i : ℕ) → i < lay.items → IsRunOf lay i (over dig items entries inner i)
  of i lt = entry-laws i lt (entries (items.id i)) refl

  -- whatever entries there are, the replays over a lawful family are a lawful family
  pub over-laws : IsRun lay (over dig items entries inner)
  over-laws =
      record {
        waiting = λ i k lt. (of i lt).waiting k;
        some = λ i k l lt e. (of i lt).some k l e;
        once = λ i k l lt e. (of i lt).once k l e;
        still = λ i k m l p lt e ext c n. (of i lt).still k m l p e ext c n;
        same = λ i k m lt h. (of i lt).same k m h;
        grows = λ i k m lt ext. (of i lt).grows k m ext;
        own = λ i k p x lt e. (of i lt).own k p x e;
        rising = λ i k lt. (of i lt).rising k;
        all = λ i k p x lt e less of_i ne. (of i lt).all k p x e less of_i ne;
        within = λ i k lt. (of i lt).within k;
      }

-- ---- used patterns

module _ (limit : ℕ) where
  abbrev AreBelow : List Mark → Type 0
  AreBelow log = AllByRecursion (λ n. n < limit) (patterns_of log)

  below-append : (a b : List Mark) → AreBelow a → AreBelow b → AreBelow (a ++ b)
  below-append a b h g = subst (AllByRecursion (λ n. n < limit)) (sym (patterns_of-append a b)) (all-append (λ n. n < limit) (patterns_of a) (patterns_of b) h g)

  below-follow : (clean : Run Page) (ns : List ℕ) (log : List Mark) (e : End Attempt) → AreBelow clean.log → AllByRecursion (λ n. n < limit) ns → AreBelow log
      → AreBelow (follow log e (finish_run clean ns)).log
  below-follow clean ns log (done (through x)) c m h = below-append log (used_marks ns) h (subst (AllByRecursion (λ n. n < limit)) (sym (patterns-used ns)) m)
  below-follow clean ns log (done (broke kept)) c m h = below-append log (drop_saved kept clean.log) h (subst (AllByRecursion (λ n. n < limit)) (sym (patterns-drop kept clean.log)) c)
  below-follow clean ns log (fault e) c m h = h
  below-follow clean ns log (waits ps) c m h = h

module _ (dig : Digests) (items : Items) (entries : Entries) (formed : AreFormed entries) (inner : ℕ → Pages → Run Page) (i : ℕ) (k : Pages) (below : AreBelow items.patterns (inner i k).log) where
  below-entry : (o : Option EntryView) → entries (items.id i) ≡ o → AreBelow items.patterns (over_by dig items entries inner i o k).log
  below-entry None h = below
  below-entry (Some e) h =
      elim (fits dig items i e) as (λ b. fits dig items i e ≡ b → AreBelow items.patterns (cond b (over_entry dig items entries inner i e k) (inner i k)).log) [
        | true ↦ λ t.
            let begun = run (attempt_of dig items i e) k in
            let unused : patterns_of begun.log ≡ [] = (attempted dig items.table (items.id i) (last_page e.marks) k (front e.marks) []).unused in
            below-follow items.patterns (inner i k) (pattern_numbers items.table e) begun.log begun.end below
            (fitting dig items i e (formed (items.id i) e h).last t).patterns (subst (AllByRecursion (λ n. n < items.patterns)) (sym unused) tt)
        | false ↦ λ t. below
      ] refl

  -- a replay uses patterns of the plan, where the run that it stands over does
  pub over-below : AreBelow items.patterns (over dig items entries inner i k).log
  over-below = below-entry (entries (items.id i)) refl
