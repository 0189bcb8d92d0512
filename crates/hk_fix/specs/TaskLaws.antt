-- The laws of every task's runs.
use Rattle.std.proofs.Common.{◌≡◌, refl, sym, ap, ◌∙◌, subst, arith, ℕ, ◌<◌, List, [], ◌∷◌, ◌++◌, append_assoc, append-nil, length, Option, Some, None, Bool, true, false, cond, is_some, is_none, nat_eq, filter, Contains}
use Rattle.std.proofs.Math.Path.{fun_ext}
use Rattle.std.specs.List.{AllByRecursion, IsDistinct}
use Rattle.std.proofs.lemmas.List.Elements.{All-from_recursion, All-contains, filter-append}
use Rattle.hk_chain.specs.declared.page.Page.{Page}
use Rattle.hk_fix.specs.Pages.{Pages, Extends, Begins, lacking, with_page, all_pages}
use Rattle.hk_fix.specs.Task.{Task, gives, fails, asks, notes, ◌▷◌, Mark, asked, note, End, done, fault, waits, Run, run, onward, answered}
use Rattle.hk_fix.specs.Run.{asks_of, lacked}
use Rattle.hk_fix.specs.Chains.{AllGroups}

module _ {A B C : Type 0} where
  pub bind_assoc : (t : Task A) (f : A → Task B) (g : B → Task C) → (t ▷ f) ▷ g ≡ t ▷ (λ x. f x ▷ g)
  bind_assoc (gives x) f g = refl
  bind_assoc (fails e) f g = refl
  bind_assoc (asks ps h) f g = ap (asks ps) (fun_ext (λ xs. bind_assoc (h xs) f g))
  bind_assoc (notes m t) f g = ap (notes m) (bind_assoc t f g)

module _ {A : Type 0} where
  pub bind_gives : (t : Task A) → t ▷ gives ≡ t
  bind_gives (gives x) = refl
  bind_gives (fails e) = refl
  bind_gives (asks ps h) = ap (asks ps) (fun_ext (λ xs. bind_gives (h xs)))
  bind_gives (notes m t) = ap (notes m) (bind_gives t)

-- what follows a run
abbrev pub follow : {A B : Type 0} → List Mark → End A → (A → Run B) → Run B
follow log (done x) f = onward log (f x)
follow log (fault e) f = record { log = log; end = fault e }
follow log (waits ps) f = record { log = log; end = waits ps }

module _ {A B : Type 0} where
  onward-follow : (m : Mark) (log : List Mark) (e : End A) (f : A → Run B) → onward (m ∷ []) (follow log e f) ≡ follow (m ∷ log) e f
  onward-follow m log (done x) f = refl
  onward-follow m log (fault e) f = refl
  onward-follow m log (waits ps) f = refl

  pub run_bind : (t : Task A) (f : A → Task B) (k : Pages) → run (t ▷ f) k ≡ follow (run t k).log (run t k).end (λ x. run (f x) k)
  run_bind (gives x) f k = refl
  run_bind (fails e) f k = refl
  run_bind (asks ps h) f k =
      elim (all_pages k ps) as (λ o. answered ps (lacking k ps) (λ xs. run (h xs ▷ f) k) o ≡ follow (answered ps (lacking k ps) (λ xs. run (h xs) k) o).log (answered ps (lacking k ps) (λ xs. run (h xs) k) o).end (λ x. run (f x) k)) [
        | None ↦ refl
        | Some xs ↦ ap (onward (asked ps ∷ [])) (run_bind (h xs) f k) ∙ onward-follow (asked ps) (run (h xs) k).log (run (h xs) k).end (λ x. run (f x) k)
      ]
  run_bind (notes m t) f k = ap (onward (note m ∷ [])) (run_bind t f k) ∙ onward-follow (note m) (run t k).log (run t k).end (λ x. run (f x) k)

-- more known pages
with_page-some : (o : Option Page) (rest : Option (List Page)) (ys : List Page) → with_page o rest ≡ Some ys → (x : Page) × (xs : List Page) × (o ≡ Some x) × (rest ≡ Some xs) × (ys ≡ x ∷ xs)
with_page-some None rest ys e = cc
with_page-some (Some x) None ys e = cc
with_page-some (Some x) (Some xs) ys e = (x, xs, refl, refl, cc)

pub all_pages-more : (k m : Pages) → Extends k m → (ps : List ℕ) (xs : List Page) → all_pages k ps ≡ Some xs → all_pages m ps ≡ Some xs
all_pages-more k m ext [] xs e = e
all_pages-more k m ext (p ∷ ps) xs e =
    let w = with_page-some (k p) (all_pages k ps) xs e in
    rw (ext p w.0 w.2, all_pages-more k m ext ps w.1 w.3) (ap Some (sym w.4))

pub asks_of-append : (a b : List Mark) → asks_of (a ++ b) ≡ asks_of a ++ asks_of b
asks_of-append [] b = refl
asks_of-append (asked ps ∷ a) b = ap (λ l. ps ++ l) (asks_of-append a b) ∙ sym (append_assoc ps (asks_of a) (asks_of b))
asks_of-append (note n ∷ a) b = asks_of-append a b

abbrev pub Agree : Pages → Pages → List ℕ → Type 0
Agree k m ps = AllByRecursion (λ p. m p ≡ k p) ps

agree-left : (k m : Pages) (ps qs : List ℕ) → Agree k m (ps ++ qs) → Agree k m ps
agree-left k m [] qs h = tt
agree-left k m (p ∷ ps) qs h = (h.0, agree-left k m ps qs h.1)

agree-right : (k m : Pages) (ps qs : List ℕ) → Agree k m (ps ++ qs) → Agree k m qs
agree-right k m [] qs h = h
agree-right k m (p ∷ ps) qs h = agree-right k m ps qs h.1

all_pages-same : (k m : Pages) (ps : List ℕ) → Agree k m ps → all_pages m ps ≡ all_pages k ps
all_pages-same k m [] h = refl
all_pages-same k m (p ∷ ps) h = rw (h.0, all_pages-same k m ps h.1) refl

lacking-same : (k m : Pages) (ps : List ℕ) → Agree k m ps → lacking m ps ≡ lacking k ps
lacking-same k m [] h = refl
lacking-same k m (p ∷ ps) h = rw (h.0, lacking-same k m ps h.1) refl

begins-on : (m : Mark) (a b : List Mark) → Begins a b → Begins (m ∷ a) (m ∷ b)
begins-on m a b h = (h.0, ap (λ l. m ∷ l) h.1)

module _ {A : Type 0} where
  same-at : (k m : Pages) (ps : List ℕ) (h : List Page → Task A) → ((xs : List Page) → Agree k m (asks_of (run (h xs) k).log) → run (h xs) m ≡ run (h xs) k) → (o : Option (List Page)) → Agree k m (asks_of (answered ps (lacking k ps) (λ xs. run (h xs) k) o).log) → answered ps (lacking m ps) (λ xs. run (h xs) m) o ≡ answered ps (lacking k ps) (λ xs. run (h xs) k) o
  same-at k m ps h rec None a = ap (λ l. record { log = asked ps ∷ []; end = waits l }) (lacking-same k m ps (agree-left k m ps [] a))
  same-at k m ps h rec (Some xs) a = ap (onward (asked ps ∷ [])) (rec xs (agree-right k m ps (asks_of (run (h xs) k).log) a))

  group-agrees : (k m : Pages) (ps : List ℕ) (h : List Page → Task A) (o : Option (List Page)) → Agree k m (asks_of (answered ps (lacking k ps) (λ xs. run (h xs) k) o).log) → Agree k m ps
  group-agrees k m ps h None a = agree-left k m ps [] a
  group-agrees k m ps h (Some xs) a = agree-left k m ps (asks_of (run (h xs) k).log) a

  -- only the pages of the asked pairs matter
  pub run_same : (t : Task A) (k m : Pages) → Agree k m (asks_of (run t k).log) → run t m ≡ run t k
  run_same (gives x) k m a = refl
  run_same (fails e) k m a = refl
  run_same (asks ps h) k m a =
      ap (answered ps (lacking m ps) (λ xs. run (h xs) m)) (all_pages-same k m ps (group-agrees k m ps h (all_pages k ps) a))
      ∙ same-at k m ps h (λ xs b. run_same (h xs) k m b) (all_pages k ps) a
  run_same (notes n t) k m a = ap (onward (note n ∷ [])) (run_same t k m a)

  grows-at : (k m : Pages) (ps : List ℕ) (h : List Page → Task A) → ((xs : List Page) → Begins (run (h xs) k).log (run (h xs) m).log) → (o q : Option (List Page)) → ((xs : List Page) → o ≡ Some xs → q ≡ Some xs) → Begins (answered ps (lacking k ps) (λ xs. run (h xs) k) o).log (answered ps (lacking m ps) (λ xs. run (h xs) m) q).log
  grows-at k m ps h rec None None e = ([], refl)
  grows-at k m ps h rec None (Some ys) e = ((run (h ys) m).log, refl)
  grows-at k m ps h rec (Some xs) q e = rw (e xs refl) (begins-on (asked ps) (run (h xs) k).log (run (h xs) m).log (rec xs))

  -- more known pages extend the log
  pub run_grows : (t : Task A) (k m : Pages) → Extends k m → Begins (run t k).log (run t m).log
  run_grows (gives x) k m ext = ([], refl)
  run_grows (fails e) k m ext = ([], refl)
  run_grows (asks ps h) k m ext = grows-at k m ps h (λ xs. run_grows (h xs) k m ext) (all_pages k ps) (all_pages m ps) (λ xs e. all_pages-more k m ext ps xs e)
  run_grows (notes n t) k m ext = begins-on (note n) (run t k).log (run t m).log (run_grows t k m ext)

all_pages-lack : (k : Pages) (ps : List ℕ) (xs : List Page) → all_pages k ps ≡ Some xs → lacking k ps ≡ []
all_pages-lack k [] xs e = refl
all_pages-lack k (p ∷ ps) xs e =
    let w = with_page-some (k p) (all_pages k ps) xs e in
    rw w.2 (all_pages-lack k ps w.1 w.3)

-- where a page of a group lacks, the group is no list of pages
all_pages-none : (k : Pages) (ps : List ℕ) → all_pages k ps ≡ None → 0 < length (lacking k ps)
all_pages-none k [] e = cc
all_pages-none k (p ∷ ps) e = at (k p) (all_pages k ps) refl e (λ w. all_pages-none k ps w)
  where
    at : (o : Option Page) (q : Option (List Page)) → all_pages k ps ≡ q → with_page o q ≡ None → (all_pages k ps ≡ None → 0 < length (lacking k ps)) → 0 < length (cond (is_none o) (p ∷ lacking k ps) (lacking k ps))
    at None q w e rec = omega arith
    at (Some x) None w e rec = rec w
    at (Some x) (Some xs) w e rec = cc

module _ {A : Type 0} where
  waits-at : (k : Pages) (ps : List ℕ) (h : List Page → Task A) → ((xs : List Page) → lacking k (asks_of (run (h xs) k).log) ≡ lacked (run (h xs) k).end) → (o : Option (List Page)) → all_pages k ps ≡ o → lacking k (asks_of (answered ps (lacking k ps) (λ xs. run (h xs) k) o).log) ≡ lacked (answered ps (lacking k ps) (λ xs. run (h xs) k) o).end
  waits-at k ps h rec None q = ap (lacking k) (append-nil ps)
  waits-at k ps h rec (Some xs) q = filter-append (λ p. is_none (k p)) ps (asks_of (run (h xs) k).log) ∙ (ap (λ l. l ++ lacking k (asks_of (run (h xs) k).log)) (all_pages-lack k ps xs q) ∙ rec xs)

  -- a run waits for exactly the asked pairs that aren't known, in the order of its log
  pub run_waits : (t : Task A) (k : Pages) → lacking k (asks_of (run t k).log) ≡ lacked (run t k).end
  run_waits (gives x) k = refl
  run_waits (fails e) k = refl
  run_waits (asks ps h) k = waits-at k ps h (λ xs. run_waits (h xs) k) (all_pages k ps) refl
  run_waits (notes n t) k = run_waits t k

  some-at : (k : Pages) (ps : List ℕ) (h : List Page → Task A) (l : List ℕ) → ((xs : List Page) → (run (h xs) k).end ≡ waits l → 0 < length l) → (o : Option (List Page)) → all_pages k ps ≡ o → (answered ps (lacking k ps) (λ xs. run (h xs) k) o).end ≡ waits l → 0 < length l
  some-at k ps h l rec None q e = let w : lacking k ps ≡ l = cc in subst (λ (r : List ℕ). 0 < length r) w (all_pages-none k ps q)
  some-at k ps h l rec (Some xs) q e = rec xs e

  -- and for at least one
  pub run_some : (t : Task A) (k : Pages) (l : List ℕ) → (run t k).end ≡ waits l → 0 < length l
  run_some (gives x) k l e = cc
  run_some (fails f) k l e = cc
  run_some (asks ps h) k l e = some-at k ps h l (λ xs w. run_some (h xs) k l w) (all_pages k ps) refl e
  run_some (notes n t) k l e = run_some t k l e

-- a pair of the group that isn't known keeps the group from being known
lacking-in : (k : Pages) (ps : List ℕ) (p : ℕ) → AllByRecursion (λ q. is_some (k q) ≡ true) ps → Contains ps p → is_some (k p) ≡ true
lacking-in k ps p h c = All-contains (λ q. is_some (k q) ≡ true) ps p (All-from_recursion (λ q. is_some (k q) ≡ true) ps h) c

all_pages-known : (k : Pages) (ps : List ℕ) (xs : List Page) → all_pages k ps ≡ Some xs → AllByRecursion (λ q. is_some (k q) ≡ true) ps
all_pages-known k [] xs e = tt
all_pages-known k (p ∷ ps) xs e =
    let w = with_page-some (k p) (all_pages k ps) xs e in
    (ap is_some w.2, all_pages-known k ps w.1 w.3)

filter-in : (test : ℕ → Bool) (ps : List ℕ) (P : ℕ → Type 0) → AllByRecursion P ps → AllByRecursion P (filter test ps)
filter-in test [] P h = tt
filter-in test (p ∷ ps) P h = elim (test p) as (λ b. AllByRecursion P (cond b (p ∷ filter test ps) (filter test ps))) [ true ↦ (h.0, filter-in test ps P h.1) | false ↦ filter-in test ps P h.1 ]

module _ {A : Type 0} where
  still-at : (k m : Pages) (ps : List ℕ) (h : List Page → Task A) (l : List ℕ) (p : ℕ) → ((xs : List Page) → (run (h xs) k).end ≡ waits l → (run (h xs) m).log ≡ (run (h xs) k).log) → Contains l p → m p ≡ None
      → (o : Option (List Page)) → all_pages k ps ≡ o → (q : Option (List Page)) → all_pages m ps ≡ q → ((xs : List Page) → o ≡ Some xs → q ≡ Some xs) → (answered ps (lacking k ps) (λ xs. run (h xs) k) o).end ≡ waits l
      → (answered ps (lacking m ps) (λ xs. run (h xs) m) q).log ≡ (answered ps (lacking k ps) (λ xs. run (h xs) k) o).log
  still-at k m ps h l p rec c none None ko None mo more e = refl
  still-at k m ps h l p rec c none None ko (Some ys) mo more e =
      let w : lacking k ps ≡ l = cc in
      let s : is_some (m p) ≡ true = All-contains (λ q. is_some (m q) ≡ true) (lacking k ps) p
      (All-from_recursion (λ q. is_some (m q) ≡ true) (lacking k ps) (filter-in (λ q. is_none (k q)) ps (λ q. is_some (m q) ≡ true) (all_pages-known m ps ys mo)))
      (subst (λ (r : List ℕ). Contains r p) (sym w) c) in
      let f : is_some (m p) ≡ false = ap is_some none in cc
  still-at k m ps h l p rec c none (Some xs) ko q mo more e = rw (more xs refl) (ap (λ r. asked ps ∷ r) (rec xs e))

  -- under more pages that still lack a pair of the wait, the log is the same
  pub run_still : (t : Task A) (k m : Pages) (l : List ℕ) (p : ℕ) → Extends k m → Contains l p → m p ≡ None → (run t k).end ≡ waits l → (run t m).log ≡ (run t k).log
  run_still (gives x) k m l p ext c none e = refl
  run_still (fails f) k m l p ext c none e = refl
  run_still (asks ps h) k m l p ext c none e =
      still-at k m ps h l p (λ xs w. run_still (h xs) k m l p ext c none w) c none (all_pages k ps) refl (all_pages m ps) refl (λ xs w. all_pages-more k m ext ps xs w) e
  run_still (notes n t) k m l p ext c none e = ap (λ r. note n ∷ r) (run_still t k m l p ext c none e)

distinct-filter : (test : ℕ → Bool) (ps : List ℕ) → IsDistinct nat_eq ps → IsDistinct nat_eq (filter test ps)
unfolding IsDistinct
distinct-filter test [] h = tt
distinct-filter test (p ∷ ps) h =
    elim (test p) as (λ b. IsDistinct nat_eq (cond b (p ∷ filter test ps) (filter test ps))) [
      | true ↦ (filter-in test ps (λ q. nat_eq p q ≡ false) h.0, distinct-filter test ps h.1)
      | false ↦ distinct-filter test ps h.1
    ]

all-append : (P : ℕ → Type 0) (a b : List ℕ) → AllByRecursion P a → AllByRecursion P b → AllByRecursion P (a ++ b)
all-append P [] b x y = y
all-append P (p ∷ a) b x y = (x.0, all-append P a b x.1 y)

module _ {A : Type 0} where
  once-at : (k : Pages) (ps : List ℕ) (h : List Page → Task A) (l : List ℕ) → IsDistinct nat_eq ps → ((xs : List Page) → (run (h xs) k).end ≡ waits l → IsDistinct nat_eq l) → (o : Option (List Page)) → (answered ps (lacking k ps) (λ xs. run (h xs) k) o).end ≡ waits l → IsDistinct nat_eq l
  once-at k ps h l d rec None e = let w : lacking k ps ≡ l = cc in subst (IsDistinct nat_eq) w (distinct-filter (λ q. is_none (k q)) ps d)
  once-at k ps h l d rec (Some xs) e = rec xs e

  -- where no group has a pair twice, no wait does
  pub run_once : (t : Task A) → AllGroups (IsDistinct nat_eq) t → (k : Pages) (l : List ℕ) → (run t k).end ≡ waits l → IsDistinct nat_eq l
  run_once (gives x) g k l e = cc
  run_once (fails f) g k l e = cc
  run_once (asks ps h) g k l e = once-at k ps h l g.0 (λ xs w. run_once (h xs) (g.1 xs) k l w) (all_pages k ps) e
  run_once (notes n t) g k l e = run_once t g k l e

  groups-at : (P : ℕ → Type 0) (k : Pages) (ps : List ℕ) (h : List Page → Task A) → AllByRecursion P ps → ((xs : List Page) → AllByRecursion P (asks_of (run (h xs) k).log)) → (o : Option (List Page)) → AllByRecursion P (asks_of (answered ps (lacking k ps) (λ xs. run (h xs) k) o).log)
  groups-at P k ps h d rec None = all-append P ps [] d tt
  groups-at P k ps h d rec (Some xs) = all-append P ps (asks_of (run (h xs) k).log) d (rec xs)

  -- what holds of each pair of the groups holds of each asked pair
  pub run_within : (P : ℕ → Type 0) (t : Task A) → AllGroups (AllByRecursion P) t → (k : Pages) → AllByRecursion P (asks_of (run t k).log)
  run_within P (gives x) g k = tt
  run_within P (fails f) g k = tt
  run_within P (asks ps h) g k = groups-at P k ps h g.0 (λ xs. run_within P (h xs) (g.1 xs) k) (all_pages k ps)
  run_within P (notes n t) g k = run_within P t g k
