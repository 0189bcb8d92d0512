-- What lean logs and logs without some saves tell.
use Rattle.std.proofs.Common.{◌≡◌, refl, sym, ap, ◌∙◌, ℕ, Bool, true, false, cond, ◌||◌, List, [], ◌∷◌, ◌++◌, Option, Some, None, nat_eq, eqb-true}
use Rattle.std.specs.List.{AllByRecursion}
use Rattle.std.proofs.lemmas.List.{map-append}
use Rattle.hk_chain.specs.declared.page.Page.{Page}
use Rattle.hk_chain.specs.Facts.{TraceMark, save}
use Rattle.hk_fix.specs.Pages.{Pages, lacking, all_pages}
use Rattle.hk_fix.specs.Task.{Task, gives, fails, asks, notes, used, saved, Mark, asked, note, run, onward, answered}
use Rattle.hk_fix.specs.Run.{asks_of, saves_of, patterns_of}
use Rattle.hk_fix.specs.Facts.{is_in, firsts, group_first, trace_of}
use Rattle.hk_fix.specs.ChainLaws.{saved_pairs}
use Rattle.hk_fix.proofs.Orders.{saves_of-append}
use Rattle.hk_fix.proofs.Trails.{in-append}
use Rattle.hk_fix.proofs.Firsts.{SameMembers, firsts-same, firsts-append}
use Rattle.hk_reuse.specs.Over.{drop_saved}
use Rattle.hk_reuse.specs.Replay.{without}
use Rattle.hk_reuse.proofs.Lists.{same-on, same-more, same-swap, seen-firsts, firsts-seen, firsts-twice, all-front, all-back}

abbrev pub asked_first : List ℕ → List Mark → List Mark
asked_first [] rest = rest
asked_first (p ∷ ps) rest = asked (p ∷ ps) ∷ rest

-- a log's groups without what was asked for before, and its saves
abbrev pub lean : List ℕ → List Mark → List Mark
lean seen [] = []
lean seen (asked ps ∷ log) = asked_first (firsts seen ps) (lean (ps ++ seen) log)
lean seen (note (used n) ∷ log) = lean seen log
lean seen (note (saved p x) ∷ log) = note (saved p x) ∷ lean seen log

-- the pairs that were saved before and in a log, the last first
abbrev pub kept_after : List ℕ → List Mark → List ℕ
kept_after kept [] = kept
kept_after kept (asked ps ∷ log) = kept_after kept log
kept_after kept (note (used n) ∷ log) = kept_after kept log
kept_after kept (note (saved p x) ∷ log) = kept_after (p ∷ kept) log

pub patterns_of-append : (a b : List Mark) → patterns_of (a ++ b) ≡ patterns_of a ++ patterns_of b
patterns_of-append [] b = refl
patterns_of-append (asked ps ∷ a) b = patterns_of-append a b
patterns_of-append (note (used n) ∷ a) b = ap (λ l. n ∷ l) (patterns_of-append a b)
patterns_of-append (note (saved p x) ∷ a) b = patterns_of-append a b

pub saved-append : (a b : List Mark) → saved_pairs (a ++ b) ≡ saved_pairs a ++ saved_pairs b
saved-append a b = rw (saves_of-append a b) (map-append (λ s. s.pair) (saves_of a) (saves_of b))

-- lean logs
module _ {A : Type 0} (f : List Mark → A) where
  pub group-cases : (ps : List ℕ) (rest : List Mark) (g : List ℕ → List Mark → A) → f rest ≡ g [] rest
      → ((q : ℕ) (qs : List ℕ) → f (asked (q ∷ qs) ∷ rest) ≡ g (q ∷ qs) rest) → f (asked_first ps rest) ≡ g ps rest
  group-cases [] rest g a b = a
  group-cases (p ∷ ps) rest g a b = b p ps

pub saves-lean : (s : List ℕ) (l : List Mark) → saves_of (lean s l) ≡ saves_of l
saves-lean s [] = refl
saves-lean s (asked ps ∷ l) = group-cases saves_of (firsts s ps) (lean (ps ++ s) l) (λ qs r. saves_of r) refl (λ q qs. refl) ∙ saves-lean (ps ++ s) l
saves-lean s (note (used n) ∷ l) = saves-lean s l
saves-lean s (note (saved p x) ∷ l) = ap (λ r. record { pair = p; page = x } ∷ r) (saves-lean s l)

pub patterns-lean : (s : List ℕ) (l : List Mark) → patterns_of (lean s l) ≡ []
patterns-lean s [] = refl
patterns-lean s (asked ps ∷ l) = group-cases patterns_of (firsts s ps) (lean (ps ++ s) l) (λ qs r. patterns_of r) refl (λ q qs. refl) ∙ patterns-lean (ps ++ s) l
patterns-lean s (note (used n) ∷ l) = patterns-lean s l
patterns-lean s (note (saved p x) ∷ l) = patterns-lean s l

pub asks-lean : (s : List ℕ) (l : List Mark) → asks_of (lean s l) ≡ firsts s (asks_of l)
asks-lean s [] = refl
asks-lean s (asked ps ∷ l) =
    group-cases asks_of (firsts s ps) (lean (ps ++ s) l) (λ qs r. qs ++ asks_of r) refl (λ q qs. refl)
    ∙ (ap (λ r. firsts s ps ++ r) (asks-lean (ps ++ s) l) ∙ sym (firsts-append s ps (asks_of l)))
asks-lean s (note (used n) ∷ l) = asks-lean s l
asks-lean s (note (saved p x) ∷ l) = asks-lean s l

pub first-append : (ps : List ℕ) (a b : List Mark) → asked_first ps (a ++ b) ≡ asked_first ps a ++ b
first-append [] a b = refl
first-append (p ∷ ps) a b = refl

swap-in : (ps s : List ℕ) (a : List ℕ) → SameMembers (a ++ (ps ++ s)) ((ps ++ a) ++ s)
swap-in [] s a n = refl
swap-in (p ∷ ps) s a n = same-swap p a (ps ++ s) n ∙ same-on p (a ++ (ps ++ s)) ((ps ++ a) ++ s) (swap-in ps s a) n

pub lean-same : (s t : List ℕ) → SameMembers s t → (l : List Mark) → lean s l ≡ lean t l
lean-same s t h [] = refl
lean-same s t h (asked ps ∷ l) = rw (firsts-same s t ps h) (ap (asked_first (firsts t ps)) (lean-same (ps ++ s) (ps ++ t) (same-more ps s t h) l))
lean-same s t h (note (used n) ∷ l) = lean-same s t h l
lean-same s t h (note (saved p x) ∷ l) = ap (λ r. note (saved p x) ∷ r) (lean-same s t h l)

pub lean-append : (s : List ℕ) (a b : List Mark) → lean s (a ++ b) ≡ lean s a ++ lean (asks_of a ++ s) b
lean-append s [] b = refl
lean-append s (asked ps ∷ a) b =
    ap (asked_first (firsts s ps)) (lean-append (ps ++ s) a b ∙ ap (λ r. lean (ps ++ s) a ++ r) (lean-same (asks_of a ++ (ps ++ s)) ((ps ++ asks_of a) ++ s) (swap-in ps s (asks_of a)) b))
    ∙ first-append (firsts s ps) (lean (ps ++ s) a) (lean ((ps ++ asks_of a) ++ s) b)
lean-append s (note (used n) ∷ a) b = lean-append s a b
lean-append s (note (saved p x) ∷ a) b = ap (λ r. note (saved p x) ∷ r) (lean-append s a b)

-- traces
group-append : (ps : List ℕ) (a b : List TraceMark) → group_first ps (a ++ b) ≡ group_first ps a ++ b
group-append [] a b = refl
group-append (p ∷ ps) a b = refl

pub trace-same : (s t kept held : List ℕ) → SameMembers s t → SameMembers kept held → (l : List Mark) → trace_of s kept l ≡ trace_of t held l
trace-same s t kept held h g [] = refl
trace-same s t kept held h g (asked ps ∷ l) = rw (firsts-same s t ps h) (ap (group_first (firsts t ps)) (trace-same (ps ++ s) (ps ++ t) kept held (same-more ps s t h) g l))
trace-same s t kept held h g (note (used n) ∷ l) = trace-same s t kept held h g l
trace-same s t kept held h g (note (saved p x) ∷ l) = rw (g p, trace-same s t kept held h g l, trace-same s t (p ∷ kept) (p ∷ held) h (same-on p kept held g) l) refl

there : (kept : List ℕ) (p : ℕ) (a : List ℕ) → is_in kept p ≡ true → SameMembers (a ++ kept) ((p ∷ a) ++ kept)
there kept p a e n = at (nat_eq n p) refl
  where
    at : (b : Bool) → nat_eq n p ≡ b → is_in (a ++ kept) n ≡ (b || is_in (a ++ kept) n)
    at true w = rw (eqb-true n p w, in-append a kept p, e) (or_true (is_in a p))
      where
        or_true : (c : Bool) → (c || true) ≡ true
        or_true true = refl
        or_true false = refl
    at false w = refl

pub trace-append : (s kept : List ℕ) (a b : List Mark) → trace_of s kept (a ++ b) ≡ trace_of s kept a ++ trace_of (asks_of a ++ s) (saved_pairs a ++ kept) b
trace-append s kept [] b = refl
trace-append s kept (asked ps ∷ a) b =
    ap (group_first (firsts s ps)) (trace-append (ps ++ s) kept a b ∙ ap (λ r. trace_of (ps ++ s) kept a ++ r) (trace-same (asks_of a ++ (ps ++ s)) ((ps ++ asks_of a) ++ s) (saved_pairs a ++ kept) (saved_pairs a ++ kept) (swap-in ps s (asks_of a)) (λ n. refl) b))
    ∙ group-append (firsts s ps) (trace_of (ps ++ s) kept a) (trace_of ((ps ++ asks_of a) ++ s) (saved_pairs a ++ kept) b)
trace-append s kept (note (used n) ∷ a) b = trace-append s kept a b
trace-append s kept (note (saved p x) ∷ a) b =
    elim (is_in kept p) as (λ c. is_in kept p ≡ c → cond c (trace_of s kept (a ++ b)) (save p ∷ trace_of s (p ∷ kept) (a ++ b)) ≡ cond c (trace_of s kept a) (save p ∷ trace_of s (p ∷ kept) a) ++ trace_of (asks_of a ++ s) (p ∷ saved_pairs a ++ kept) b) [
      | true ↦ λ e. trace-append s kept a b ∙ ap (λ r. trace_of s kept a ++ r) (trace-same (asks_of a ++ s) (asks_of a ++ s) (saved_pairs a ++ kept) (p ∷ saved_pairs a ++ kept) (λ n. refl) (there kept p (saved_pairs a) e) b)
      | false ↦ λ e. ap (λ r. save p ∷ r) (trace-append s (p ∷ kept) a b ∙ ap (λ r. trace_of s (p ∷ kept) a ++ r) (trace-same (asks_of a ++ s) (asks_of a ++ s) (saved_pairs a ++ p ∷ kept) (p ∷ saved_pairs a ++ kept) (λ n. refl) (same-swap p (saved_pairs a) kept) b))
    ] refl

pub trace-seen : (s kept : List ℕ) (l : List Mark) → AllByRecursion (λ p. is_in s p ≡ true) (asks_of l) → AllByRecursion (λ p. is_in kept p ≡ true) (saved_pairs l) → trace_of s kept l ≡ []
trace-seen s kept [] h g = refl
trace-seen s kept (asked ps ∷ l) h g = rw (firsts-seen s ps (all-front (λ p. is_in s p ≡ true) ps (asks_of l) h)) (trace-seen (ps ++ s) kept l (more ps (asks_of l) (all-back (λ p. is_in s p ≡ true) ps (asks_of l) h)) g)
  where
    more : (a b : List ℕ) → AllByRecursion (λ p. is_in s p ≡ true) b → AllByRecursion (λ p. is_in (a ++ s) p ≡ true) b
    more a [] w = tt
    more a (x ∷ b) w = (in-append a s x ∙ rw w.0 (or_true (is_in a x)), more a b w.1)
      where
        or_true : (c : Bool) → (c || true) ≡ true
        or_true true = refl
        or_true false = refl
trace-seen s kept (note (used n) ∷ l) h g = trace-seen s kept l h g
trace-seen s kept (note (saved p x) ∷ l) h g = rw g.0 (trace-seen s kept l h g.1)

trace-first : (s kept ps : List ℕ) (l : List Mark) → firsts s ps ≡ ps → trace_of s kept (asked_first ps l) ≡ group_first ps (trace_of (ps ++ s) kept l)
trace-first s kept [] l e = refl
trace-first s kept (p ∷ ps) l e = rw e refl

pub trace-lean : (s t kept : List ℕ) → SameMembers s t → (l : List Mark) → trace_of s kept (lean t l) ≡ trace_of s kept l
trace-lean s t kept h [] = refl
trace-lean s t kept h (asked ps ∷ l) =
    trace-first s kept (firsts t ps) (lean (ps ++ t) l) (firsts-twice s t ps h)
    ∙ (ap (group_first (firsts t ps)) (trace-same (firsts t ps ++ s) (ps ++ s) kept kept (λ n. same-more (firsts t ps) s t h n ∙ (seen-firsts t ps n ∙ sym (same-more ps s t h n))) (λ n. refl) (lean (ps ++ t) l) ∙ trace-lean (ps ++ s) (ps ++ t) kept (same-more ps s t h) l)
    ∙ ap (λ r. group_first r (trace_of (ps ++ s) kept l)) (sym (firsts-same s t ps h)))
trace-lean s t kept h (note (used n) ∷ l) = trace-lean s t kept h l
trace-lean s t kept h (note (saved p x) ∷ l) = rw (trace-lean s t kept h l, trace-lean s t (p ∷ kept) h l) refl

-- without some saves
pub asks-drop : (kept : List ℕ) (l : List Mark) → asks_of (drop_saved kept l) ≡ asks_of l
asks-drop kept [] = refl
asks-drop kept (asked ps ∷ l) = ap (λ r. ps ++ r) (asks-drop kept l)
asks-drop kept (note (used n) ∷ l) = asks-drop kept l
asks-drop kept (note (saved p x) ∷ l) =
    elim (is_in kept p) as (λ b. asks_of (cond b (drop_saved kept l) (note (saved p x) ∷ drop_saved kept l)) ≡ asks_of l) [
      | true ↦ asks-drop kept l
      | false ↦ asks-drop kept l
    ]

pub patterns-drop : (kept : List ℕ) (l : List Mark) → patterns_of (drop_saved kept l) ≡ patterns_of l
patterns-drop kept [] = refl
patterns-drop kept (asked ps ∷ l) = patterns-drop kept l
patterns-drop kept (note (used n) ∷ l) = ap (λ r. n ∷ r) (patterns-drop kept l)
patterns-drop kept (note (saved p x) ∷ l) =
    elim (is_in kept p) as (λ b. patterns_of (cond b (drop_saved kept l) (note (saved p x) ∷ drop_saved kept l)) ≡ patterns_of l) [
      | true ↦ patterns-drop kept l
      | false ↦ patterns-drop kept l
    ]

pub drop-append : (kept : List ℕ) (a b : List Mark) → drop_saved kept (a ++ b) ≡ drop_saved kept a ++ drop_saved kept b
drop-append kept [] b = refl
drop-append kept (asked ps ∷ a) b = ap (λ r. asked ps ∷ r) (drop-append kept a b)
drop-append kept (note (used n) ∷ a) b = ap (λ r. note (used n) ∷ r) (drop-append kept a b)
drop-append kept (note (saved p x) ∷ a) b =
    elim (is_in kept p) as (λ c. cond c (drop_saved kept (a ++ b)) (note (saved p x) ∷ drop_saved kept (a ++ b)) ≡ cond c (drop_saved kept a) (note (saved p x) ∷ drop_saved kept a) ++ drop_saved kept b) [
      | true ↦ drop-append kept a b
      | false ↦ ap (λ r. note (saved p x) ∷ r) (drop-append kept a b)
    ]

-- where none of the saves is kept, all stay; where all are, none does
pub drop-none : (kept : List ℕ) (l : List Mark) → AllByRecursion (λ p. is_in kept p ≡ false) (saved_pairs l) → drop_saved kept l ≡ l
drop-none kept [] h = refl
drop-none kept (asked ps ∷ l) h = ap (λ r. asked ps ∷ r) (drop-none kept l h)
drop-none kept (note (used n) ∷ l) h = ap (λ r. note (used n) ∷ r) (drop-none kept l h)
drop-none kept (note (saved p x) ∷ l) h = rw h.0 (ap (λ r. note (saved p x) ∷ r) (drop-none kept l h.1))

pub drop-all : (kept : List ℕ) (l : List Mark) → AllByRecursion (λ p. is_in kept p ≡ true) (saved_pairs l) → saves_of (drop_saved kept l) ≡ []
drop-all kept [] h = refl
drop-all kept (asked ps ∷ l) h = drop-all kept l h
drop-all kept (note (used n) ∷ l) h = drop-all kept l h
drop-all kept (note (saved p x) ∷ l) h = rw h.0 (drop-all kept l h.1)

pub kept-same : (kept : List ℕ) (l : List Mark) → SameMembers (kept_after kept l) (saved_pairs l ++ kept)
kept-same kept [] n = refl
kept-same kept (asked ps ∷ l) n = kept-same kept l n
kept-same kept (note (used m) ∷ l) n = kept-same kept l n
kept-same kept (note (saved p x) ∷ l) n = kept-same (p ∷ kept) l n ∙ same-swap p (saved_pairs l) kept n

module _ {A : Type 0} where
  without-at : (kept ps : List ℕ) (k : Pages) (h : List Page → Task A)
      → ((xs : List Page) → run (without kept (h xs)) k ≡ record { log = drop_saved kept (run (h xs) k).log; end = (run (h xs) k).end })
      → (o : Option (List Page))
      → answered ps (lacking k ps) (λ xs. run (without kept (h xs)) k) o ≡ record { log = drop_saved kept (answered ps (lacking k ps) (λ xs. run (h xs) k) o).log; end = (answered ps (lacking k ps) (λ xs. run (h xs) k) o).end }
  without-at kept ps k h rec None = refl
  without-at kept ps k h rec (Some xs) = ap (onward (asked ps ∷ [])) (rec xs)

  pub run-without : (kept : List ℕ) (t : Task A) (k : Pages) → run (without kept t) k ≡ record { log = drop_saved kept (run t k).log; end = (run t k).end }
  run-without kept (gives x) k = refl
  run-without kept (fails e) k = refl
  run-without kept (asks ps h) k = without-at kept ps k h (λ xs. run-without kept (h xs) k) (all_pages k ps)
  run-without kept (notes (used n) t) k = ap (onward (note (used n) ∷ [])) (run-without kept t k)
  run-without kept (notes (saved p x) t) k =
      elim (is_in kept p) as (λ b. run (cond b (without kept t) (notes (saved p x) (without kept t))) k ≡ record { log = cond b (drop_saved kept (run t k).log) (note (saved p x) ∷ drop_saved kept (run t k).log); end = (run t k).end }) [
        | true ↦ run-without kept t k
        | false ↦ ap (onward (note (saved p x) ∷ [])) (run-without kept t k)
      ]
