-- The facts of a run that went through.
use Rattle.std.proofs.Common.{◌≡◌, ◌≢◌, refl, sym, ap, ◌∙◌, subst, arith, ℕ, ◌<◌, Bool, true, false, cond, ◌||◌, inl, inr, List, [], ◌∷◌, ◌++◌, append-nil, map, Option, Some, None, is_some, is_none, nat_eq, eq-eqb}
use Rattle.std.specs.List.{AllByRecursion, IsDistinct}
use Rattle.std.proofs.lemmas.List.{map-append}
use Rattle.std.proofs.lemmas.List.Elements.{recursion_from_All}
use Rattle.hk_chain.specs.declared.page.Page.{Page}
use Rattle.hk_chain.specs.Facts.{FactsView, TraceMark, save}
use Rattle.hk_chain.specs.Layout.{Shape, pairs, item_of, final_of}
use Rattle.hk_chain.specs.Snapshots.{Ascending, AreSnapshots}
use Rattle.hk_chain.specs.Traces.{asked_in, saved_in, HasPair, AreFacts, AllAreFacts}
use Rattle.hk_fix.specs.Facts.{is_in, firsts, group_first, trace_of, facts_of, final_mark, whole_log}
use Rattle.hk_fix.specs.Fix.{Seeds, IsSetting, seeded, fix, status, ending_of, ends_with, finished, faulted, waiting, is_finished}
use Rattle.hk_fix.specs.Pages.{Pages}
use Rattle.hk_fix.specs.Run.{Save, asks_of, saves_of, patterns_of, page_in, snapshot, AllAbove, Rising, IsRun}
use Rattle.hk_fix.specs.Task.{used, saved, Mark, asked, note, End, done, fault, waits, Run}
use Rattle.hk_fix.specs.ChainLaws.{saved_pairs}
use Rattle.hk_fix.specs.TaskLaws.{asks_of-append}
use Rattle.hk_fix.proofs.Firsts.{firsts-append, firsts-all, firsts-distinct, firsts-of_distinct}
use Rattle.hk_fix.proofs.Orders.{clash, decide, the_some, none-of, known-of, saves_of-append}
use Rattle.hk_fix.proofs.Waits.{unknown-unfinished}

-- groups

pub trace-groups : (seen kept : List ℕ) (log : List Mark) → AllByRecursion HasPair (trace_of seen kept log)
trace-groups seen kept [] = tt
trace-groups seen kept (asked ps ∷ log) = first (firsts seen ps) (trace_of (ps ++ seen) kept log) (trace-groups (ps ++ seen) kept log)
  where
    first : (qs : List ℕ) (marks : List TraceMark) → AllByRecursion HasPair marks → AllByRecursion HasPair (group_first qs marks)
    first [] marks h = h
    first (q ∷ qs) marks h = (omega arith, h)
trace-groups seen kept (note (used n) ∷ log) = trace-groups seen kept log
trace-groups seen kept (note (saved p x) ∷ log) =
    elim (is_in kept p) as (λ b. AllByRecursion HasPair (cond b (trace_of seen kept log) (save p ∷ trace_of seen (p ∷ kept) log))) [
      | true ↦ trace-groups seen kept log
      | false ↦ (tt, trace-groups seen (p ∷ kept) log)
    ]

asked-first : (qs : List ℕ) (marks : List TraceMark) → asked_in (group_first qs marks) ≡ qs ++ asked_in marks
asked-first [] marks = refl
asked-first (q ∷ qs) marks = refl

pub trace-asks : (seen kept : List ℕ) (log : List Mark) → asked_in (trace_of seen kept log) ≡ firsts seen (asks_of log)
trace-asks seen kept [] = refl
trace-asks seen kept (asked ps ∷ log) =
    asked-first (firsts seen ps) (trace_of (ps ++ seen) kept log)
    ∙ (ap (λ l. firsts seen ps ++ l) (trace-asks (ps ++ seen) kept log) ∙ sym (firsts-append seen ps (asks_of log)))
trace-asks seen kept (note (used n) ∷ log) = trace-asks seen kept log
trace-asks seen kept (note (saved p x) ∷ log) =
    elim (is_in kept p) as (λ b. asked_in (cond b (trace_of seen kept log) (save p ∷ trace_of seen (p ∷ kept) log)) ≡ firsts seen (asks_of log)) [
      | true ↦ trace-asks seen kept log
      | false ↦ trace-asks seen (p ∷ kept) log
    ]

-- saves

saved-first : (qs : List ℕ) (marks : List TraceMark) → saved_in (group_first qs marks) ≡ saved_in marks
saved-first [] marks = refl
saved-first (q ∷ qs) marks = refl

pub trace-saves : (seen kept : List ℕ) (log : List Mark) → saved_in (trace_of seen kept log) ≡ firsts kept (saved_pairs log)
trace-saves seen kept [] = refl
trace-saves seen kept (asked ps ∷ log) = saved-first (firsts seen ps) (trace_of (ps ++ seen) kept log) ∙ trace-saves (ps ++ seen) kept log
trace-saves seen kept (note (used n) ∷ log) = trace-saves seen kept log
trace-saves seen kept (note (saved p x) ∷ log) =
    elim (is_in kept p) as (λ b. saved_in (cond b (trace_of seen kept log) (save p ∷ trace_of seen (p ∷ kept) log)) ≡ cond b (firsts kept (saved_pairs log)) (p ∷ firsts (p ∷ kept) (saved_pairs log))) [
      | true ↦ trace-saves seen kept log
      | false ↦ ap (λ l. p ∷ l) (trace-saves seen (p ∷ kept) log)
    ]

first-append : (qs : List ℕ) (a b : List TraceMark) → group_first qs (a ++ b) ≡ group_first qs a ++ b
first-append [] a b = refl
first-append (q ∷ qs) a b = refl

-- a save that is new stands at the end
trace-last : (seen kept : List ℕ) (log : List Mark) (p : ℕ) (x : Page) → is_in kept p ≡ false → is_in (saved_pairs log) p ≡ false → trace_of seen kept (log ++ note (saved p x) ∷ []) ≡ trace_of seen kept log ++ save p ∷ []
trace-last seen kept [] p x fresh none = ap (λ b. cond b [] (save p ∷ [])) fresh
trace-last seen kept (asked ps ∷ log) p x fresh none =
    ap (group_first (firsts seen ps)) (trace-last (ps ++ seen) kept log p x fresh none) ∙ first-append (firsts seen ps) (trace_of (ps ++ seen) kept log) (save p ∷ [])
trace-last seen kept (note (used n) ∷ log) p x fresh none = trace-last seen kept log p x fresh none
trace-last seen kept (note (saved q y) ∷ log) p x fresh none =
    let w = both (nat_eq p q) (is_in (saved_pairs log) p) none in
    elim (is_in kept q) as (λ b. cond b (trace_of seen kept (log ++ note (saved p x) ∷ [])) (save q ∷ trace_of seen (q ∷ kept) (log ++ note (saved p x) ∷ [])) ≡ cond b (trace_of seen kept log) (save q ∷ trace_of seen (q ∷ kept) log) ++ save p ∷ []) [
      | true ↦ trace-last seen kept log p x fresh w.1
      | false ↦ ap (λ l. save q ∷ l) (trace-last seen (q ∷ kept) log p x (ap (λ b. b || is_in kept p) w.0 ∙ fresh) w.1)
    ]
  where
    both : (a b : Bool) → (a || b) ≡ false → (a ≡ false) × (b ≡ false)
    both true b e = cc
    both false b e = (refl, e)

-- the saves of a run, as pairs

all-by-in : (P : ℕ → Type 0) (xs : List ℕ) → ((p : ℕ) → is_in xs p ≡ true → P p) → AllByRecursion P xs
all-by-in P [] h = tt
all-by-in P (x ∷ xs) h =
    (h x (ap (λ b. b || is_in xs x) (eq-eqb x x refl)), all-by-in P xs (λ p e. h p (elim (nat_eq p x) as (λ b. (b || is_in xs p) ≡ true) [ true ↦ refl | false ↦ e ])))

eqb-flip : (m n : ℕ) → nat_eq m n ≡ nat_eq n m
eqb-flip m n = grind arith

-- a pair is saved exactly where it has a page
pub page-is_in : (ss : List Save) (p : ℕ) → is_some (page_in ss p) ≡ is_in (map (λ s. s.pair) ss) p
page-is_in [] p = refl
page-is_in (s ∷ ss) p =
    rw (eqb-flip p s.pair) (elim (nat_eq s.pair p) as (λ b. is_some (cond b (Some s.page) (page_in ss p)) ≡ (b || is_in (map (λ t. t.pair) ss) p)) [ true ↦ refl | false ↦ page-is_in ss p ])

above-all : (p : ℕ) (ss : List Save) → AllAbove p ss → AllByRecursion (λ q. p < q) (map (λ s. s.pair) ss)
above-all p [] h = tt
above-all p (s ∷ ss) h = (h.0, above-all p ss h.1)

ascending-of : (ss : List Save) → Rising ss → Ascending (map (λ s. s.pair) ss)
ascending-of [] h = tt
ascending-of (s ∷ ss) h = (above-all s.pair ss h.0, ascending-of ss h.1)

distinct-with : (ps : List ℕ) (last : ℕ) → Ascending ps → AllByRecursion (λ p. p ≢ last) ps → IsDistinct nat_eq (ps ++ last ∷ [])
unfolding IsDistinct
distinct-with [] last a h = (tt, tt)
distinct-with (p ∷ ps) last a h = (others ps a.0 h.0, distinct-with ps last a.1 h.1)
  where
    below : (r : ℕ) → p < r → nat_eq p r ≡ false
    below r lt = grind (arith, lt)

    others : (qs : List ℕ) → AllByRecursion (λ q. p < q) qs → p ≢ last → AllByRecursion (λ q. nat_eq p q ≡ false) (qs ++ last ∷ [])
    others [] b ne = (grind (arith, ne), tt)
    others (q ∷ qs) b ne = (below q b.0, others qs b.1 ne)

none-seen : (ps : List ℕ) → AllByRecursion (λ q. is_in [] q ≡ false) ps
none-seen [] = tt
none-seen (p ∷ ps) = (refl, none-seen ps)

not-in : (ps : List ℕ) (last : ℕ) → AllByRecursion (λ p. p ≢ last) ps → is_in ps last ≡ false
not-in [] last h = refl
not-in (p ∷ ps) last h = (let e : nat_eq last p ≡ false = grind (arith, h.0) in ap (λ b. b || is_in ps last) e ∙ not-in ps last h.1)

all-weaker : (P Q : ℕ → Type 0) → ((p : ℕ) → P p → Q p) → (ps : List ℕ) → AllByRecursion P ps → AllByRecursion Q ps
all-weaker P Q f [] h = tt
all-weaker P Q f (p ∷ ps) h = (f p h.0, all-weaker P Q f ps h.1)

module _ (lay : Shape) (run : ℕ → Pages → Run Page) (laws : IsRun lay run) (i : ℕ) (k : Pages) (lt : i < lay.items) where
  abbrev own : List ℕ
  own = saved_pairs (run i k).log

  -- a run that went through saved the item's pairs on the way
  pub run-snapshots : (x : Page) → (run i k).end ≡ done x → AreSnapshots lay i own
  run-snapshots x e =
      record {
        own = all-by-in (λ p. (p < pairs lay) × (item_of lay p ≡ i) × (p ≢ final_of lay i)) own (λ p h. let w = the_some (snapshot (run i k) p) (page-is_in (saves_of (run i k).log) p ∙ h) in laws.own i k p w.0 lt w.1);
        rising = ascending-of (saves_of (run i k).log) (laws.rising i k lt);
        all = λ p below of ne. sym (page-is_in (saves_of (run i k).log) p) ∙ laws.all i k p x lt e below of ne;
      }

  pub run-facts : (x : Page) → (run i k).end ≡ done x → AreFacts lay i (facts_of (whole_log lay i (run i k)))
  run-facts x e =
      record {
        groups = trace-groups [] [] whole;
        asked = trace-asks [] [] whole;
        once = firsts-distinct [] (asks_of whole);
        within = firsts-all (λ p. p < pairs lay) [] (asks_of whole) (subst (AllByRecursion (λ p. p < pairs lay)) (sym asks) (recursion_from_All (λ p. p < pairs lay) (asks_of (run i k).log) (laws.within i k lt)));
        patterns = firsts-distinct [] (patterns_of whole);
        saved = (own, ways, trace-saves [] [] whole ∙ (ap (firsts []) pairs_are ∙ firsts-of_distinct [] (own ++ final_of lay i ∷ []) (distinct-with own (final_of lay i) ways.rising apart) (none-seen (own ++ final_of lay i ∷ []))));
        last = (trace_of [] [] (run i k).log, ap (trace_of [] []) is-whole ∙ trace-last [] [] (run i k).log (final_of lay i) x refl (not-in own (final_of lay i) apart));
      }
    where
      whole : List Mark
      whole = whole_log lay i (run i k)

      ways : AreSnapshots lay i own
      ways = run-snapshots x e

      apart : AllByRecursion (λ p. p ≢ final_of lay i) own
      apart = all-weaker (λ p. (p < pairs lay) × (item_of lay p ≡ i) × (p ≢ final_of lay i)) (λ p. p ≢ final_of lay i) (λ p h. h.2) own ways.own

      is-whole : whole_log lay i (run i k) ≡ (run i k).log ++ note (saved (final_of lay i) x) ∷ []
      is-whole = ap (λ (v : End Page). (run i k).log ++ final_mark (final_of lay i) v) e

      asks : asks_of (whole_log lay i (run i k)) ≡ asks_of (run i k).log
      asks = ap asks_of is-whole ∙ (asks_of-append (run i k).log (note (saved (final_of lay i) x) ∷ []) ∙ append-nil (asks_of (run i k).log))

      pairs_are : saved_pairs (whole_log lay i (run i k)) ≡ own ++ final_of lay i ∷ []
      pairs_are =
          ap saved_pairs is-whole
          ∙ (ap (map (λ (s : Save). s.pair)) (saves_of-append (run i k).log (note (saved (final_of lay i) x) ∷ [])) ∙ map-append (λ (s : Save). s.pair) (saves_of (run i k).log) (saves_of (note (saved (final_of lay i) x) ∷ [])))

-- in the fixpoint

module _ (lay : Shape) (run : ℕ → Pages → Run Page) (seeds : Seeds) (given : IsSetting lay run seeds) where
  abbrev F : Pages
  F = fix lay run seeds

  -- an item without seeds that is done went through
  pub went-through : (i : ℕ) (f : FactsView) → seeded seeds i ≡ false → status lay run seeds i ≡ finished f → (x : Page) × ((run i (fix lay run seeds)).end ≡ done x) × (f ≡ facts_of (whole_log lay i (run i (fix lay run seeds))))
  unfolding status
  went-through i f free e = at (run i (fix lay run seeds)).end refl (ap (ending_of lay i (run i (fix lay run seeds))) (sym (none-of (seeds.facts i) free)) ∙ e)
    where
      at : (v : End Page) → (run i (fix lay run seeds)).end ≡ v → ends_with (whole_log lay i (run i (fix lay run seeds))) (run i (fix lay run seeds)).end ≡ finished f
          → (x : Page) × ((run i (fix lay run seeds)).end ≡ done x) × (f ≡ facts_of (whole_log lay i (run i (fix lay run seeds))))
      at (done x) is w = (let both : finished (facts_of (whole_log lay i (run i (fix lay run seeds)))) ≡ finished f = ap (ends_with (whole_log lay i (run i (fix lay run seeds)))) (sym is) ∙ w in (x, is, cc))
      at (fault y) is w = (let no : faulted y ≡ finished f = ap (ends_with (whole_log lay i (run i (fix lay run seeds)))) (sym is) ∙ w in cc)
      at (waits ps) is w = (let no : waiting ps ≡ finished f = ap (ends_with (whole_log lay i (run i (fix lay run seeds)))) (sym is) ∙ w in cc)

  -- the facts of a done item are those of a run that went through, or those of its seeds
  pub status-facts : AllAreFacts lay seeds.facts → (i : ℕ) (f : FactsView) → i < lay.items → status lay run seeds i ≡ finished f → AreFacts lay i f
  unfolding status
  status-facts sown i f lt e = at (seeds.facts i) refl
    where
      at : (o : Option FactsView) → seeds.facts i ≡ o → AreFacts lay i f
      at (Some s) is = (let both : finished s ≡ finished f = ap (ending_of lay i (run i (fix lay run seeds))) (sym is) ∙ e in let same : s ≡ f = cc in subst (AreFacts lay i) same (sown i s lt is))
      at None is =
          let w = went-through i f (ap is_some is) e in
          subst (AreFacts lay i) (sym w.2) (run-facts lay run given.laws i (fix lay run seeds) lt w.0 w.1)

  -- a done item has a page for each of its pairs
  pub status-pages : (p : ℕ) → p < pairs lay → is_finished (status lay run seeds (item_of lay p)) ≡ true → is_some (fix lay run seeds p) ≡ true
  status-pages p below e =
      elim (decide (is_none (fix lay run seeds p))) [
        | inl none ↦ clash (is_finished (status lay run seeds (item_of lay p))) (unknown-unfinished lay run seeds given.shape given.laws given.sown p below none) e
        | inr known ↦ known-of (fix lay run seeds p) known
      ]
