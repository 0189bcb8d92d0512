-- The facts of a replay's run.
use Rattle.std.proofs.Common.{◌≡◌, ◌≢◌, refl, sym, ap, ◌∙◌, subst, ℕ, Bool, true, false, cond, inl, inr, List, [], ◌∷◌, ◌++◌, append_assoc, append-nil, map, Some, is_some, nat_eq, eqb-true, eq-eqb}
use Rattle.std.specs.List.{AllByRecursion, IsDistinct}
use Rattle.hk_chain.specs.declared.page.Page.{Page}
use Rattle.hk_chain.specs.Facts.{FactsView, TraceMark, save}
use Rattle.hk_chain.specs.Layout.{Shape, final_of}
use Rattle.hk_fix.specs.Pages.{Pages}
use Rattle.hk_fix.specs.Task.{used, saved, Mark, asked, note, done, Run}
use Rattle.hk_fix.specs.Run.{Save, saves_of, asks_of, patterns_of, page_in}
use Rattle.hk_fix.specs.Facts.{is_in, firsts, group_first, trace_of, facts_of, final_mark, whole_log}
use Rattle.hk_fix.specs.ChainLaws.{saved_pairs}
use Rattle.hk_fix.proofs.Orders.{clash, or_cases, or_right, the_some}
use Rattle.hk_fix.proofs.Trails.{in-append, or_left}
use Rattle.hk_reuse.specs.Over.{drop_saved}
use Rattle.hk_reuse.proofs.Logs.{drop-append, patterns_of-append, patterns-drop, saved-append}
use Rattle.hk_reuse.proofs.Over.{IsRunOf}
use Rattle.hk_reuse.proofs.Sites.{rising-pairs}
use Rattle.hk_replay.specs.declared.record.Step.{Step}
use Rattle.hk_replay.specs.declared.record.Step.TheVariants.{Asked, Saved}
use Rattle.hk_replay.specs.declared.record.Record.{Record}
use Rattle.hk_replay.specs.Replays.{passed, kept_by, pairs_saved}
use Rattle.hk_replay.proofs.Passing.{kept-is}
use Rattle.hk_replay.specs.Merging.{pattern_marks, merged, through_facts, broken_facts}
use Rattle.hk_eval.specs.Noted.{no_facts, with_group, with_save, noted}
use Rattle.hk_fix.proofs.Firsts.{in-firsts}
use Rattle.hk_eval.proofs.NotedLogs.{FreshSaves, noted-append, noted-facts, fresh-all, apart-rising}

-- a log without the used patterns
abbrev unused : List Mark → List Mark
unused [] = []
unused (asked ps ∷ l) = asked ps ∷ unused l
unused (note (used n) ∷ l) = unused l
unused (note (saved p x) ∷ l) = note (saved p x) ∷ unused l

unused-append : (a b : List Mark) → unused (a ++ b) ≡ unused a ++ unused b
unused-append [] b = refl
unused-append (asked ps ∷ a) b = ap (λ l. asked ps ∷ l) (unused-append a b)
unused-append (note (used n) ∷ a) b = unused-append a b
unused-append (note (saved p x) ∷ a) b = ap (λ l. note (saved p x) ∷ l) (unused-append a b)

unused-patterns : (ns : List ℕ) → unused (pattern_marks ns) ≡ []
unused-patterns [] = refl
unused-patterns (n ∷ ns) = unused-patterns ns

unused-twice : (kept : List ℕ) (l : List Mark) → unused (drop_saved kept (unused l)) ≡ unused (drop_saved kept l)
unused-twice kept [] = refl
unused-twice kept (asked ps ∷ l) = ap (λ r. asked ps ∷ r) (unused-twice kept l)
unused-twice kept (note (used n) ∷ l) = unused-twice kept l
unused-twice kept (note (saved p x) ∷ l) =
    elim (is_in kept p) as (λ b. unused (cond b (drop_saved kept (unused l)) (note (saved p x) ∷ drop_saved kept (unused l))) ≡ unused (cond b (drop_saved kept l) (note (saved p x) ∷ drop_saved kept l))) [
      | true ↦ unused-twice kept l
      | false ↦ ap (λ r. note (saved p x) ∷ r) (unused-twice kept l)
    ]

asks-unused : (l : List Mark) → asks_of (unused l) ≡ asks_of l
asks-unused [] = refl
asks-unused (asked ps ∷ l) = ap (λ r. ps ++ r) (asks-unused l)
asks-unused (note (used n) ∷ l) = asks-unused l
asks-unused (note (saved p x) ∷ l) = asks-unused l

trace-unused : (s kept : List ℕ) (l : List Mark) → trace_of s kept (unused l) ≡ trace_of s kept l
trace-unused s kept [] = refl
trace-unused s kept (asked ps ∷ l) = ap (group_first (firsts s ps)) (trace-unused (ps ++ s) kept l)
trace-unused s kept (note (used n) ∷ l) = trace-unused s kept l
trace-unused s kept (note (saved p x) ∷ l) = rw (trace-unused s kept l, trace-unused s (p ∷ kept) l) refl

fresh-unused : (kept : List ℕ) (l : List Mark) → FreshSaves kept l → FreshSaves kept (unused l)
fresh-unused kept [] h = tt
fresh-unused kept (asked ps ∷ l) h = fresh-unused kept l h
fresh-unused kept (note (used n) ∷ l) h = fresh-unused kept l h
fresh-unused kept (note (saved p x) ∷ l) h = (h.0, fresh-unused (p ∷ kept) l h.1)

fresh-back : (kept : List ℕ) (l : List Mark) → FreshSaves kept (unused l) → FreshSaves kept l
fresh-back kept [] h = tt
fresh-back kept (asked ps ∷ l) h = fresh-back kept l h
fresh-back kept (note (used n) ∷ l) h = fresh-back kept l h
fresh-back kept (note (saved p x) ∷ l) h = (h.0, fresh-back (p ∷ kept) l h.1)

facts-same : (a b : List Mark) → unused a ≡ unused b → firsts [] (patterns_of a) ≡ firsts [] (patterns_of b) → facts_of a ≡ facts_of b
facts-same a b u q =
    let asks : firsts [] (asks_of a) ≡ firsts [] (asks_of b) = ap (firsts []) (sym (asks-unused a) ∙ (ap asks_of u ∙ asks-unused b)) in
    let trace : trace_of [] [] a ≡ trace_of [] [] b = sym (trace-unused [] [] a) ∙ (ap (trace_of [] []) u ∙ trace-unused [] [] b) in
    λ i. record { asks = asks i; patterns = q i; trace = trace i }

-- firsts of firsts, where more were seen
abbrev Within : List ℕ → List ℕ → Type 0
Within s t = (q : ℕ) → is_in s q ≡ true → is_in t q ≡ true

within-on : (x : ℕ) (s t : List ℕ) → Within s t → Within (x ∷ s) (x ∷ t)
within-on x s t h q e = elim (or_cases (nat_eq q x) (is_in s q) e) [
  | inl u ↦ rw u refl
  | inr u ↦ or_right (nat_eq q x) (is_in t q) (h q u)
]

firsts-within : (s t xs : List ℕ) → Within s t → firsts t (firsts s xs) ≡ firsts t xs
firsts-within s t [] h = refl
firsts-within s t (x ∷ xs) h = at (is_in s x) refl (is_in t x) refl (firsts-within s t xs h) (firsts-within (x ∷ s) (x ∷ t) xs (within-on x s t h)) (λ i. firsts-within (x ∷ s) t xs (λ q e. elim (or_cases (nat_eq q x) (is_in s q) e) [ inl u ↦ ap (is_in t) (eqb-true q x u) ∙ i | inr u ↦ h q u ]))
  where
    at : (b : Bool) → is_in s x ≡ b → (c : Bool) → is_in t x ≡ c → firsts t (firsts s xs) ≡ firsts t xs → firsts (x ∷ t) (firsts (x ∷ s) xs) ≡ firsts (x ∷ t) xs → (is_in t x ≡ true → firsts t (firsts (x ∷ s) xs) ≡ firsts t xs) → firsts t (cond b (firsts s xs) (x ∷ firsts (x ∷ s) xs)) ≡ firsts t (x ∷ xs)
    at true u true v a b d = rw v a
    at true u false v a b d = clash (is_in t x) v (h x u)
    at false u true v a b d = rw v (d v)
    at false u false v a b d = rw v (ap (λ l. x ∷ l) b)

-- marks of a trace
group-merged : (kept : ℕ → Bool) (f : FactsView) (qs : List ℕ) (t : List TraceMark) → merged kept f (group_first qs t) ≡ merged kept (with_group f qs) t
group-merged kept f [] t =
    let a : f.asks ≡ f.asks ++ [] = sym (append-nil f.asks) in
    let b : f.trace ≡ f.trace ++ [] = sym (append-nil f.trace) in
    ap (λ g. merged kept g t) (λ i. (let g : FactsView = record { asks = a i; patterns = f.patterns; trace = b i } in g))
group-merged kept f (q ∷ qs) t = refl

same-group : (f : FactsView) (s ps : List ℕ) → Within s f.asks → with_group f (firsts s ps) ≡ with_group f ps
same-group f s ps h = ap (λ l. (let g : FactsView = record { asks = f.asks ++ l; patterns = f.patterns; trace = f.trace ++ group_first l [] } in g)) (firsts-within s f.asks ps h)

merged-noted : (kept : List ℕ) (f : FactsView) (s had : List ℕ) (l : List Mark) → Within s f.asks → FreshSaves had l → merged (is_in kept) f (trace_of s had l) ≡ noted f (drop_saved kept (unused l))
merged-noted kept f s had [] h fresh = refl
merged-noted kept f s had (asked ps ∷ l) h fresh =
    group-merged (is_in kept) f (firsts s ps) (trace_of (ps ++ s) had l)
    ∙ (ap (λ g. merged (is_in kept) g (trace_of (ps ++ s) had l)) (same-group f s ps h)
    ∙ merged-noted kept (with_group f ps) (ps ++ s) had l more fresh)
  where
    more : Within (ps ++ s) (f.asks ++ firsts f.asks ps)
    more q e = in-firsts f.asks ps q ∙ (in-append ps f.asks q ∙ elim (or_cases (is_in ps q) (is_in s q) (sym (in-append ps s q) ∙ e)) [
      | inl u ↦ or_left (is_in ps q) (is_in f.asks q) u
      | inr u ↦ or_right (is_in ps q) (is_in f.asks q) (h q u)
    ])
merged-noted kept f s had (note (used n) ∷ l) h fresh = merged-noted kept f s had l h fresh
merged-noted kept f s had (note (saved p x) ∷ l) h fresh =
    ap (λ b. merged (is_in kept) f (cond b (trace_of s had l) (save p ∷ trace_of s (p ∷ had) l))) fresh.0
    ∙ at (is_in kept p) (merged-noted kept f s (p ∷ had) l h fresh.1) (merged-noted kept (with_save f p) s (p ∷ had) l h fresh.1)
  where
    at : (b : Bool) → merged (is_in kept) f (trace_of s (p ∷ had) l) ≡ noted f (drop_saved kept (unused l)) → merged (is_in kept) (with_save f p) (trace_of s (p ∷ had) l) ≡ noted (with_save f p) (drop_saved kept (unused l)) → merged (is_in kept) (cond b f (with_save f p)) (trace_of s (p ∷ had) l) ≡ noted f (cond b (drop_saved kept (unused l)) (note (saved p x) ∷ drop_saved kept (unused l)))
    at true u v = u
    at false u v = v

patterns-append : (a b : List Mark) → patterns_of (a ++ b) ≡ patterns_of a ++ patterns_of b
patterns-append a b = patterns_of-append a b

patterns-of-unused : (kept : List ℕ) (l : List Mark) → patterns_of (drop_saved kept (unused l)) ≡ []
patterns-of-unused kept [] = refl
patterns-of-unused kept (asked ps ∷ l) = patterns-of-unused kept l
patterns-of-unused kept (note (used n) ∷ l) = patterns-of-unused kept l
patterns-of-unused kept (note (saved p x) ∷ l) =
    elim (is_in kept p) as (λ b. patterns_of (cond b (drop_saved kept (unused l)) (note (saved p x) ∷ drop_saved kept (unused l))) ≡ []) [
      | true ↦ patterns-of-unused kept l
      | false ↦ patterns-of-unused kept l
    ]

pub patterns-of-marks : (ns : List ℕ) → patterns_of (pattern_marks ns) ≡ ns
patterns-of-marks [] = refl
patterns-of-marks (n ∷ ns) = ap (λ l. n ∷ l) (patterns-of-marks ns)

-- the facts of a front and those of another log
pub merge-facts : (kept : List ℕ) (front l : List Mark) → patterns_of front ≡ [] → FreshSaves [] l → FreshSaves [] (front ++ drop_saved kept l) → noted (merged (is_in kept) (noted no_facts front) (facts_of l).trace) (pattern_marks (facts_of l).patterns) ≡ facts_of (front ++ drop_saved kept l)
merge-facts kept front l quiet fresh whole =
    let d = drop_saved kept (unused l) in
    let us = pattern_marks (firsts [] (patterns_of l)) in
    let same : unused (front ++ (d ++ us)) ≡ unused (front ++ drop_saved kept l) = unused-append front (d ++ us) ∙ (ap (λ r. unused front ++ r) (unused-append d us ∙ (ap (λ r. unused d ++ r) (unused-patterns (firsts [] (patterns_of l))) ∙ (append-nil (unused d) ∙ unused-twice kept l))) ∙ sym (unused-append front (drop_saved kept l))) in
    let pats : patterns_of (front ++ (d ++ us)) ≡ firsts [] (patterns_of l) = patterns-append front (d ++ us) ∙ (ap (λ r. r ++ patterns_of (d ++ us)) quiet ∙ (patterns-append d us ∙ (ap (λ r. r ++ patterns_of us) (patterns-of-unused kept l) ∙ patterns-of-marks (firsts [] (patterns_of l))))) in
    let pats2 : patterns_of (front ++ drop_saved kept l) ≡ patterns_of l = patterns-append front (drop_saved kept l) ∙ (ap (λ r. r ++ patterns_of (drop_saved kept l)) quiet ∙ patterns-drop kept l) in
    ap (λ f. noted f us) (merged-noted kept (noted no_facts front) [] [] l (λ q e. cc) fresh)
    ∙ (sym (noted-append (noted no_facts front) d us)
    ∙ (sym (noted-append no_facts front (d ++ us))
    ∙ (noted-facts (front ++ (d ++ us)) (fresh-back [] (front ++ (d ++ us)) (subst (FreshSaves []) (sym same) (fresh-unused [] (front ++ drop_saved kept l) whole)))
    ∙ facts-same (front ++ (d ++ us)) (front ++ drop_saved kept l) same (ap (firsts []) pats ∙ (firsts-within [] [] (patterns_of l) (λ q e. e) ∙ ap (firsts []) (sym pats2))))))

-- whole logs save each page once
has-page : (ss : List Save) (p : ℕ) → is_in (map (λ s. s.pair) ss) p ≡ true → is_some (page_in ss p) ≡ true
has-page [] p e = cc
has-page (s ∷ ss) p e =
    elim (or_cases (nat_eq p s.pair) (is_in (map (λ r. r.pair) ss) p) e) [
      | inl t ↦ rw (eqb-true p s.pair t, eq-eqb s.pair s.pair refl) refl
      | inr t ↦ elim (nat_eq s.pair p) as (λ b. is_some (cond b (Some s.page) (page_in ss p)) ≡ true) [
        | true ↦ refl
        | false ↦ has-page ss p t
      ]
    ]

none-kept : (ps : List ℕ) → AllByRecursion (λ p. is_in [] p ≡ false) ps
none-kept [] = tt
none-kept (p ∷ ps) = (refl, none-kept ps)

module _ (lay : Shape) (i : ℕ) (run : Pages → Run Page) (laws : IsRunOf lay i run) (k : Pages) where
  pub saved-own : (p : ℕ) → is_in (saved_pairs (run k).log) p ≡ true → p ≢ final_of lay i
  saved-own p e = let v = the_some (page_in (saves_of (run k).log) p) (has-page (saves_of (run k).log) p e) in (laws.own k p v.0 v.1).2

  pub fresh-whole : (x : Page) → (run k).end ≡ done x → FreshSaves [] (whole_log lay i (run k))
  fresh-whole x e =
      let last : Mark = note (saved (final_of lay i) x) in
      let is : whole_log lay i (run k) ≡ (run k).log ++ last ∷ [] = ap (λ y. (run k).log ++ final_mark (final_of lay i) y) e in
      let own : AllByRecursion (λ p. p ≢ final_of lay i) (saved_pairs (run k).log) = every (saved_pairs (run k).log) saved-own in
      let pairs_are : saved_pairs ((run k).log ++ last ∷ []) ≡ saved_pairs (run k).log ++ final_of lay i ∷ [] = saved-append (run k).log (last ∷ []) in
      subst (FreshSaves []) (sym is) (fresh-all [] ((run k).log ++ last ∷ []) (subst (IsDistinct nat_eq) (sym pairs_are) (apart-rising (saved_pairs (run k).log) (final_of lay i) (rising-pairs (saves_of (run k).log) (laws.rising k)) own)) (none-kept (saved_pairs ((run k).log ++ last ∷ []))))
    where
      every : (ps : List ℕ) → ((p : ℕ) → is_in ps p ≡ true → p ≢ final_of lay i) → AllByRecursion (λ p. p ≢ final_of lay i) ps
      every [] f = tt
      every (p ∷ ps) f = (f p (rw (eq-eqb p p refl) refl), every ps (λ q u. f q (or_right (nat_eq q p) (is_in ps q) u)))

  -- through
  pub through-is : (r : Record) → r.last ≡ final_of lay i → run k ≡ (let q : Run Page = record { log = passed r.steps.items ++ pattern_marks r.patterns.items; end = done r.page } in q) → through_facts r ≡ facts_of (whole_log lay i (run k))
  through-is r last e =
      let a = passed r.steps.items in
      let b = pattern_marks r.patterns.items in
      let fin : List Mark = note (saved r.last r.page) ∷ [] in
      let all : whole_log lay i (run k) ≡ (a ++ b) ++ fin = ap (whole_log lay i) e ∙ ap (λ (p : ℕ). (a ++ b) ++ note (saved p r.page) ∷ []) (sym last) in
      ap (λ f. with_save f r.last) (sym (noted-append no_facts a b))
      ∙ (sym (noted-append no_facts (a ++ b) fin)
      ∙ (ap (noted no_facts) (sym all) ∙ noted-facts (whole_log lay i (run k)) (fresh-whole r.page (ap (λ (q : Run Page). q.end) e))))

pub pairs-passed : (steps : List Step) → saved_pairs (passed steps) ≡ pairs_saved steps
pairs-passed [] = refl
pairs-passed (Asked ps ds ∷ steps) = pairs-passed steps
pairs-passed (Saved p x ∷ steps) = ap (λ l. p ∷ l) (pairs-passed steps)

quiet-passed : (steps : List Step) → patterns_of (passed steps) ≡ []
quiet-passed [] = refl
quiet-passed (Asked ps ds ∷ steps) = quiet-passed steps
quiet-passed (Saved p x ∷ steps) = quiet-passed steps

-- broken
module _ (lay : Shape) (i : ℕ) (run inner : Pages → Run Page) (laws : IsRunOf lay i run) (inner_laws : IsRunOf lay i inner) (k : Pages) (front : List Step) (is : run k ≡ (let q : Run Page = record { log = passed front ++ drop_saved (kept_by [] front) (inner k).log; end = (inner k).end } in q)) where
  final-out : is_in (kept_by [] front) (final_of lay i) ≡ false
  final-out = at (is_in (kept_by [] front) (final_of lay i)) refl
    where
      at : (b : Bool) → is_in (kept_by [] front) (final_of lay i) ≡ b → is_in (kept_by [] front) (final_of lay i) ≡ false
      at false e = e
      at true e =
          let there : is_in (saved_pairs (run k).log) (final_of lay i) ≡ true =
          ap (λ (q : Run Page). is_in (saved_pairs q.log) (final_of lay i)) is
          ∙ (ap (λ l. is_in l (final_of lay i)) (saved-append (passed front) (drop_saved (kept_by [] front) (inner k).log))
          ∙ (in-append (saved_pairs (passed front)) (saved_pairs (drop_saved (kept_by [] front) (inner k).log)) (final_of lay i)
          ∙ or_left (is_in (saved_pairs (passed front)) (final_of lay i)) (is_in (saved_pairs (drop_saved (kept_by [] front) (inner k).log)) (final_of lay i)) (ap (λ l. is_in l (final_of lay i)) (pairs-passed front) ∙ (sym (kept-is [] front (final_of lay i)) ∙ e)))) in
          absurd (saved-own lay i run laws k (final_of lay i) there refl)

  pub broken-is : (x : Page) (f : FactsView) → (inner k).end ≡ done x → f ≡ facts_of (whole_log lay i (inner k)) → broken_facts (is_in (kept_by [] front)) front f ≡ facts_of (whole_log lay i (run k))
  broken-is x f e facts =
      let kept = kept_by [] front in
      let l = whole_log lay i (inner k) in
      let fin : List Mark = note (saved (final_of lay i) x) ∷ [] in
      let l-is : l ≡ (inner k).log ++ fin = ap (λ y. (inner k).log ++ final_mark (final_of lay i) y) e in
      let dropped : drop_saved kept l ≡ drop_saved kept (inner k).log ++ fin = ap (drop_saved kept) l-is ∙ (drop-append kept (inner k).log fin ∙ ap (λ b. drop_saved kept (inner k).log ++ cond b [] fin) final-out) in
      let all : whole_log lay i (run k) ≡ passed front ++ drop_saved kept l = ap (whole_log lay i) is ∙ (ap (λ y. (passed front ++ drop_saved kept (inner k).log) ++ final_mark (final_of lay i) y) e ∙ (append_assoc (passed front) (drop_saved kept (inner k).log) fin ∙ ap (λ q. passed front ++ q) (sym dropped))) in
      let ends : (run k).end ≡ done x = ap (λ (q : Run Page). q.end) is ∙ e in
      ap (broken_facts (is_in (kept_by [] front)) front) facts
      ∙ (merge-facts kept (passed front) l (quiet-passed front) (fresh-whole lay i inner inner_laws k x e) (subst (FreshSaves []) all (fresh-whole lay i run laws k x ends))
      ∙ ap facts_of (sym all))
