-- A replay that went to its end, waits or broke gives what the clean run gives.
use Rattle.std.proofs.Common.{◌≡◌, refl, sym, ap, ◌∙◌, subst, arith, ℕ, ◌<◌, Bool, true, false, ◌||◌, List, [], ◌∷◌, ◌++◌, map, append-nil, nat_eq}
use Rattle.std.specs.List.{AllByRecursion}
use Rattle.hk_chain.specs.declared.page.Page.{Page}
use Rattle.hk_chain.specs.Layout.{Shape, final_of}
use Rattle.hk_chain.specs.Snapshots.{Ascending}
use Rattle.hk_fix.specs.Pages.{Pages}
use Rattle.hk_fix.specs.Task.{Task, gives, ◌▷◌, used, saved, Mark, note, End, done, waits, Run, run, onward}
use Rattle.hk_fix.specs.Run.{asks_of, saves_of, patterns_of}
use Rattle.hk_fix.specs.Facts.{is_in, firsts, trace_of, facts_of}
use Rattle.hk_fix.specs.ChainLaws.{saved_pairs}
use Rattle.hk_fix.specs.TaskLaws.{run_bind, follow, asks_of-append}
use Rattle.hk_fix.proofs.Orders.{saves_of-append}
use Rattle.hk_fix.proofs.Trails.{in-append}
use Rattle.hk_fix.proofs.Firsts.{SameMembers, firsts-same, firsts-append}
use Rattle.hk_reuse.specs.Over.{drop_saved}
use Rattle.hk_reuse.specs.Replay.{Attempt, through, broke, note_all, finish}
use Rattle.hk_reuse.specs.Rebuilt.{SameRun}
use Rattle.hk_reuse.proofs.Lists.{same-more, firsts-seen, firsts-twice, seen-firsts, all-in-left}
use Rattle.hk_reuse.proofs.Logs.{lean, kept_after, patterns_of-append, saved-append, saves-lean, patterns-lean, asks-lean, trace-same, trace-append, trace-seen, trace-lean, asks-drop, patterns-drop, drop-append, drop-none, drop-all, kept-same, run-without}
use Rattle.hk_reuse.proofs.Central.{Follows, goes, stops, breaks, waits-not}

-- logs that tell the same
pub record Alike (l m : List Mark) : Type 0 where
  pub saves : saves_of l ≡ saves_of m
  pub asks : firsts [] (asks_of l) ≡ firsts [] (asks_of m)
  pub patterns : firsts [] (patterns_of l) ≡ firsts [] (patterns_of m)
  pub trace : trace_of [] [] l ≡ trace_of [] [] m

same-asked : (xs ys : List ℕ) → firsts [] xs ≡ firsts [] ys → SameMembers (xs ++ []) (ys ++ [])
same-asked xs ys e n = sym (seen-firsts [] xs n) ∙ (ap (λ l. is_in (l ++ []) n) e ∙ seen-firsts [] ys n)

facts-same : (l m : List Mark) → firsts [] (asks_of l) ≡ firsts [] (asks_of m) → firsts [] (patterns_of l) ≡ firsts [] (patterns_of m) → trace_of [] [] l ≡ trace_of [] [] m → facts_of l ≡ facts_of m
facts-same l m a b c = rw (a, b, c) refl

-- and still with the finished page
alike-end : (l m : List Mark) → Alike l m → (p : ℕ) (x : Page) → facts_of (l ++ note (saved p x) ∷ []) ≡ facts_of (m ++ note (saved p x) ∷ [])
alike-end l m h p x = facts-same (l ++ note (saved p x) ∷ []) (m ++ note (saved p x) ∷ []) (asks l ∙ (h.asks ∙ sym (asks m))) (pats l ∙ (h.patterns ∙ sym (pats m))) trace
  where
    asks : (n : List Mark) → firsts [] (asks_of (n ++ note (saved p x) ∷ [])) ≡ firsts [] (asks_of n)
    asks n = ap (firsts []) (asks_of-append n (note (saved p x) ∷ []) ∙ append-nil (asks_of n))

    pats : (n : List Mark) → firsts [] (patterns_of (n ++ note (saved p x) ∷ [])) ≡ firsts [] (patterns_of n)
    pats n = ap (firsts []) (patterns_of-append n (note (saved p x) ∷ []) ∙ append-nil (patterns_of n))

    kept : SameMembers (saved_pairs l ++ []) (saved_pairs m ++ [])
    kept n = ap (λ s. is_in (map (λ r. r.pair) s ++ []) n) h.saves

    trace : trace_of [] [] (l ++ note (saved p x) ∷ []) ≡ trace_of [] [] (m ++ note (saved p x) ∷ [])
    trace =
        trace-append [] [] l (note (saved p x) ∷ [])
        ∙ (ap (λ t. t ++ trace_of (asks_of l ++ []) (saved_pairs l ++ []) (note (saved p x) ∷ [])) h.trace
        ∙ (ap (λ t. trace_of [] [] m ++ t) (trace-same (asks_of l ++ []) (asks_of m ++ []) (saved_pairs l ++ []) (saved_pairs m ++ []) (same-asked (asks_of l) (asks_of m) h.asks) kept (note (saved p x) ∷ []))
        ∙ sym (trace-append [] [] m (note (saved p x) ∷ []))))

-- an entry to its end
abbrev pub used_marks : List ℕ → List Mark
used_marks ns = map (λ n. note (used n)) ns

pub asks-used : (ns : List ℕ) → asks_of (used_marks ns) ≡ []
asks-used [] = refl
asks-used (n ∷ ns) = asks-used ns

pub saves-used : (ns : List ℕ) → saves_of (used_marks ns) ≡ []
saves-used [] = refl
saves-used (n ∷ ns) = saves-used ns

pub patterns-used : (ns : List ℕ) → patterns_of (used_marks ns) ≡ ns
patterns-used [] = refl
patterns-used (n ∷ ns) = ap (λ l. n ∷ l) (patterns-used ns)

trace-used : (s kept ns : List ℕ) → trace_of s kept (used_marks ns) ≡ []
trace-used s kept [] = refl
trace-used s kept (n ∷ ns) = trace-used s kept ns

pub run-notes : (ns : List ℕ) (x : Page) (k : Pages) → run (note_all ns (gives x)) k ≡ record { log = used_marks ns; end = done x }
run-notes [] x k = refl
run-notes (n ∷ ns) x k = ap (onward (note (used n) ∷ [])) (run-notes ns x k)

alike-through : (c : List Mark) (ns : List ℕ) → firsts [] ns ≡ firsts [] (patterns_of c) → Alike (lean [] c ++ used_marks ns) c
alike-through c ns e =
    record {
      saves = saves_of-append (lean [] c) (used_marks ns) ∙ (ap (λ l. saves_of (lean [] c) ++ l) (saves-used ns) ∙ (append-nil (saves_of (lean [] c)) ∙ saves-lean [] c));
      asks = ap (firsts []) (asks_of-append (lean [] c) (used_marks ns) ∙ (ap (λ l. asks_of (lean [] c) ++ l) (asks-used ns) ∙ (append-nil (asks_of (lean [] c)) ∙ asks-lean [] c))) ∙ firsts-twice [] [] (asks_of c) (λ n. refl);
      patterns = ap (firsts []) (patterns_of-append (lean [] c) (used_marks ns) ∙ (ap (λ l. l ++ patterns_of (used_marks ns)) (patterns-lean [] c) ∙ patterns-used ns)) ∙ e;
      trace = trace-append [] [] (lean [] c) (used_marks ns) ∙ (ap (λ l. trace_of [] [] (lean [] c) ++ l) (trace-used (asks_of (lean [] c) ++ []) (saved_pairs (lean [] c) ++ []) ns) ∙ (append-nil (trace_of [] [] (lean [] c)) ∙ trace-lean [] [] [] (λ n. refl) c));
    }

-- an entry that broke after a part of the clean log
firsts-again : (a b : List ℕ) → firsts [] (firsts [] a ++ (a ++ b)) ≡ firsts [] (a ++ b)
firsts-again a b =
    firsts-append [] (firsts [] a) (a ++ b)
    ∙ (ap (λ l. l ++ firsts (firsts [] a ++ []) (a ++ b)) (firsts-twice [] [] a (λ n. refl))
    ∙ (ap (λ l. firsts [] a ++ l) (firsts-same (firsts [] a ++ []) (a ++ []) (a ++ b) (seen-firsts [] a)
    ∙ (firsts-append (a ++ []) a b ∙ (ap (λ l. l ++ firsts (a ++ (a ++ [])) b) (firsts-seen (a ++ []) a (all-in-left a [])) ∙ firsts-same (a ++ (a ++ [])) (a ++ []) b twice)))
    ∙ sym (firsts-append [] a b)))
  where
    double : (p q : Bool) → (p || (p || q)) ≡ (p || q)
    double true q = refl
    double false q = refl

    twice : SameMembers (a ++ (a ++ [])) (a ++ [])
    twice n = in-append a (a ++ []) n ∙ (ap (λ b. is_in a n || b) (in-append a [] n) ∙ (double (is_in a n) (is_in [] n) ∙ sym (in-append a [] n)))

pub apart-rest : (a b : List ℕ) → Ascending (a ++ b) → AllByRecursion (λ q. is_in a q ≡ false) b
apart-rest [] b h = none b
  where
    none : (ys : List ℕ) → AllByRecursion (λ q. is_in [] q ≡ false) ys
    none [] = tt
    none (y ∷ ys) = (refl, none ys)
apart-rest (x ∷ a) b h = more b (right a h.0) (apart-rest a b h.1)
  where
    right : (ys : List ℕ) → AllByRecursion (λ q. x < q) (ys ++ b) → AllByRecursion (λ q. x < q) b
    right [] w = w
    right (y ∷ ys) w = right ys w.1

    other : (q : ℕ) → x < q → nat_eq q x ≡ false
    other q lt = grind (arith, lt)

    more : (ys : List ℕ) → AllByRecursion (λ q. x < q) ys → AllByRecursion (λ q. is_in a q ≡ false) ys → AllByRecursion (λ q. is_in (x ∷ a) q ≡ false) ys
    more [] u v = tt
    more (y ∷ ys) u v = (rw (other y u.0, v.0) refl, more ys u.1 v.1)

pub all-moved : (s t xs : List ℕ) (b : Bool) → SameMembers s t → AllByRecursion (λ p. is_in s p ≡ b) xs → AllByRecursion (λ p. is_in t p ≡ b) xs
all-moved s t [] b h a = tt
all-moved s t (x ∷ xs) b h a = (sym (h x) ∙ a.0, all-moved s t xs b h a.1)

module _ (l m : List Mark) (rising : Ascending (saved_pairs (l ++ m))) where
  abbrev kept : List ℕ
  kept = kept_after [] l

  abbrev front : List Mark
  front = drop_saved kept l

  kept-all : AllByRecursion (λ p. is_in kept p ≡ true) (saved_pairs l)
  kept-all = all-moved (saved_pairs l ++ []) kept (saved_pairs l) true (λ n. sym (kept-same [] l n)) (all-in-left (saved_pairs l) [])

  kept-none : AllByRecursion (λ p. is_in kept p ≡ false) (saved_pairs m)
  kept-none = all-moved (saved_pairs l) kept (saved_pairs m) false (λ n. ap (λ s. is_in s n) (sym (append-nil (saved_pairs l))) ∙ sym (kept-same [] l n)) (apart-rest (saved_pairs l) (saved_pairs m) (subst Ascending (saved-append l m) rising))

  dropped : drop_saved kept (l ++ m) ≡ front ++ m
  dropped = drop-append kept l m ∙ ap (λ r. front ++ r) (drop-none kept m kept-none)

  no-saves : saves_of front ≡ []
  no-saves = drop-all kept l kept-all

  asked-before : SameMembers (asks_of (lean [] l) ++ []) (asks_of l ++ [])
  asked-before n = ap (λ s. is_in (s ++ []) n) (asks-lean [] l) ∙ seen-firsts [] (asks_of l) n

  saved-before : saved_pairs (lean [] l) ≡ saved_pairs l
  saved-before = ap (map (λ s. s.pair)) (saves-lean [] l)

  abbrev s : List ℕ
  s = asks_of (lean [] l) ++ []

  abbrev t : List ℕ
  t = saved_pairs (lean [] l) ++ []

  front-traceless : trace_of s t front ≡ []
  front-traceless =
      trace-seen s t front
      (subst (AllByRecursion (λ p. is_in s p ≡ true)) (sym (asks-drop kept l)) (all-moved (asks_of l ++ []) s (asks_of l) true (λ n. sym (asked-before n)) (all-in-left (asks_of l) [])))
      (subst (λ ss. AllByRecursion (λ p. is_in t p ≡ true) (map (λ r. r.pair) ss)) (sym no-saves) tt)

  seen-then : SameMembers (asks_of front ++ s) (asks_of l ++ [])
  seen-then n =
      ap (λ a. is_in (a ++ s) n) (asks-drop kept l)
      ∙ (same-more (asks_of l) s (asks_of l ++ []) asked-before n
      ∙ (in-append (asks_of l) (asks_of l ++ []) n ∙ (ap (λ b. is_in (asks_of l) n || b) (in-append (asks_of l) [] n) ∙ (double (is_in (asks_of l) n) (is_in [] n) ∙ sym (in-append (asks_of l) [] n)))))
    where
      double : (p q : Bool) → (p || (p || q)) ≡ (p || q)
      double true q = refl
      double false q = refl

  saved-then : SameMembers (saved_pairs front ++ t) (saved_pairs l ++ [])
  saved-then n = ap (λ ss. is_in (map (λ r. r.pair) ss ++ t) n) no-saves ∙ ap (λ a. is_in (a ++ []) n) saved-before

  alike-front : Alike (lean [] l ++ (front ++ m)) (l ++ m)
  alike-front =
      record {
        saves = saves_of-append (lean [] l) (front ++ m) ∙ (rw (saves-lean [] l, saves_of-append front m, no-saves) (sym (saves_of-append l m)));
        asks =
            ap (firsts []) (asks_of-append (lean [] l) (front ++ m) ∙ rw (asks-lean [] l, asks_of-append front m, asks-drop kept l) refl)
            ∙ (firsts-again (asks_of l) (asks_of m) ∙ ap (firsts []) (sym (asks_of-append l m)));
        patterns = ap (firsts []) (patterns_of-append (lean [] l) (front ++ m) ∙ rw (patterns-lean [] l, patterns_of-append front m, patterns-drop kept l) (sym (patterns_of-append l m)));
        trace =
            trace-append [] [] (lean [] l) (front ++ m)
            ∙ (rw (trace-lean [] [] [] (λ n. refl) l, trace-append s t front m, front-traceless)
            (ap (λ r. trace_of [] [] l ++ r) (trace-same (asks_of front ++ s) (asks_of l ++ []) (saved_pairs front ++ t) (saved_pairs l ++ []) seen-then saved-then m) ∙ sym (trace-append [] [] l m)));
      }

  pub alike-broken : Alike (lean [] l ++ drop_saved kept (l ++ m)) (l ++ m)
  alike-broken = rw dropped alike-front

module _ (lay : Shape) (i : ℕ) (task : Task Attempt) (whole : Task Page) (ns pats : List ℕ) (x : Page) (k : Pages) (rising : Ascending (saved_pairs (run whole k).log)) (known : firsts [] ns ≡ firsts [] pats) where
  abbrev a : Run Attempt
  a = run task k

  abbrev c : Run Page
  c = run whole k

  abbrev after : Attempt → Run Page
  after y = run (finish whole ns y) k

  by-log : (l : List Mark) (e : End Page) → e ≡ c.end → Alike l c.log → SameRun lay i (record { log = l; end = e }) c
  by-log l e same h =
      record {
        saves = h.saves;
        ends = same;
        facts = λ y w. rw (same, w) (alike-end l c.log h (final_of lay i) y);
      }

  by-goes : a.end ≡ done (through x) → c.end ≡ done x → a.log ≡ lean [] c.log → patterns_of c.log ≡ pats → SameRun lay i (follow a.log a.end after) c
  by-goes e f g h =
      subst (λ l. SameRun lay i (follow l a.end after) c) (sym g)
      (subst (λ z. SameRun lay i (follow (lean [] c.log) z after) c) (sym e)
      (subst (λ r. SameRun lay i (onward (lean [] c.log) r) c) (sym (run-notes ns x k))
      (by-log (lean [] c.log ++ used_marks ns) (done x) (sym f) (alike-through c.log ns (known ∙ ap (firsts []) (sym h))))))

  by-stops : (l : List ℕ) → a.end ≡ waits l → c.end ≡ waits l → a.log ≡ lean [] c.log → SameRun lay i (follow a.log a.end after) c
  by-stops l e f g =
      subst (λ z. SameRun lay i (follow a.log z after) c) (sym e)
      (record { saves = ap saves_of g ∙ saves-lean [] c.log; ends = sym f; facts = λ y w. absurd (waits-not l y (sym f ∙ w)) })

  by-breaks : (l m : List Mark) → a.end ≡ done (broke (kept_after [] l)) → c.log ≡ l ++ m → a.log ≡ lean [] l → SameRun lay i (follow a.log a.end after) c
  by-breaks l m e f g =
      subst (λ z. SameRun lay i (follow a.log z after) c) (sym e)
      (subst (λ r. SameRun lay i (onward a.log r) c) (sym (run-without (kept_after [] l) whole k))
      (by-log (a.log ++ drop_saved (kept_after [] l) c.log) c.end refl
      (subst (λ r. Alike (a.log ++ drop_saved (kept_after [] l) r) r) (sym f)
      (subst (λ r. Alike (r ++ drop_saved (kept_after [] l) (l ++ m)) (l ++ m)) (sym g)
      (alike-broken l m (subst (λ r. Ascending (saved_pairs r)) f rising))))))

  -- where a replay follows the clean run, the two give the same
  pub finished-same : Follows [] [] pats x a c → SameRun lay i (run (task ▷ finish whole ns) k) c
  finished-same (goes e f g h) = rw (run_bind task (finish whole ns) k) (by-goes e f g h)
  finished-same (stops l e f g) = rw (run_bind task (finish whole ns) k) (by-stops l e f g)
  finished-same (breaks l m e f g) = rw (run_bind task (finish whole ns) k) (by-breaks l m e f g)
