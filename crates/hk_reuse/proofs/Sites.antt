-- The replay of each item gives what its clean run gives, under all pages of the clean build.
use Rattle.std.proofs.Common.{◌≡◌, ◌≢◌, refl, sym, ap, ◌∙◌, subst, arith, ℕ, zero, suc, ◌<◌, Bool, true, false, cond, ◌&&◌, List, [], ◌∷◌, ◌++◌, map, append-nil, Option, Some, None, Result, Ok, Err, is_some, nat_eq, nat_lt, bytes_eq, eqb-true, eq-eqb, ltb-true}
use Rattle.std.proofs.Math.Path.{fun_ext}
use Rattle.std.specs.List.{AllByRecursion, list_all}
use Rattle.std.specs.Ordering.{eq_by_cmp}
use Rattle.std.specs.Cmp.Lexicographic.{pointwise}
use Rattle.std.proofs.lemmas.List.{map-append}
use Rattle.std.proofs.lemmas.List.Folds.{list_all-append}
use Rattle.std.proofs.lemmas.List.Elements.{recursion_from_All}
use Rattle.hk_base.specs.Identifier.{Ident, ident_cmp}
use Rattle.hk_base.specs.IdentTies.{idents-same}
use Rattle.hk_base.specs.Ties.{bytes-same}
use Rattle.hk_chain.specs.declared.page.Page.{Page}
use Rattle.hk_chain.specs.declared.fault.Fault.{Fault}
use Rattle.hk_chain.specs.Facts.{TraceMark, group, save}
use Rattle.hk_chain.specs.Layout.{Shape, pairs, item_of, final_of}
use Rattle.hk_chain.specs.Snapshots.{Ascending}
use Rattle.hk_fix.specs.Pages.{Pages, Extends, lacking, all_pages}
use Rattle.hk_fix.specs.Task.{Task, ◌▷◌, used, saved, Mark, asked, note, End, done, fault, waits, Run, run, answered}
use Rattle.hk_fix.specs.Run.{Save, asks_of, saves_of, patterns_of, page_in, finished_page, page_of, AllAbove, Rising, IsRun}
use Rattle.hk_fix.specs.Facts.{is_in, firsts, group_first, trace_of, facts_of, final_mark, whole_log}
use Rattle.hk_fix.specs.ChainLaws.{saved_pairs, chains-run}
use Rattle.hk_fix.specs.Fix.{IsSeeds, finished, ends_with, round, known, fix, status}
use Rattle.hk_fix.proofs.Orders.{clash, the_some, round-grows, fix-fixed, closed, on-the-way, at-last}
use Rattle.hk_fix.specs.Table.{Table, resolve}
use Rattle.hk_fix.specs.Deed.{Deed, returns, refuses, asking, matching, saving, answers, traits_of, ask_for, save_as, interpret, IsNamed}
use Rattle.hk_fix.specs.DeedLaws.{deeds-chains, deeds-named}
use Rattle.hk_fix.specs.Deeds.{on_way, task_of}
use Rattle.hk_fix.proofs.Firsts.{firsts-all}
use Rattle.hk_store.specs.Digests.{Digests}
use Rattle.hk_store.specs.Entry.{MarkView, EntryView}
use Rattle.hk_reuse.specs.Entries.{front, page_of_mark, last_page, saved_names}
use Rattle.hk_reuse.specs.Fits.{ask_fits, mark_fits, pattern_fits, fits}
use Rattle.hk_reuse.specs.Image.{ask_view, mark_view, match_view, entry_by, entry_at, entries_of, image}
use Rattle.hk_reuse.specs.Replay.{attempt, finish, pattern_numbers, replay_by}
use Rattle.hk_reuse.specs.Site.{Site, items_of, shape_of, clean_run, no_seeds, built, endings, IsSite}
use Rattle.hk_chain.specs.Names.{final_name}
use Rattle.hk_reuse.specs.Rebuilt.{replay_of, replay_run, rebuilt, reendings, TellApart, TextsTell, SameRun}
use Rattle.hk_reuse.proofs.Lists.{firsts-map, firsts-twice, all-of-firsts, all-front, all-back}
use Rattle.hk_reuse.proofs.Logs.{patterns_of-append, trace-append}
use Rattle.hk_reuse.proofs.Central.{Fits, FitsMarks, SameMatches, PagesApart, Ready, Goes, Follows, pair_now, pattern_now, central}
use Rattle.hk_reuse.proofs.Finishes.{finished-same}
use Rattle.hk_reuse.proofs.Tests.{and-both, list-same, some-or}

-- saves that rise
pub rising-pairs : (ss : List Save) → Rising ss → Ascending (map (λ s. s.pair) ss)
rising-pairs [] h = tt
rising-pairs (s ∷ ss) h = (above ss h.0, rising-pairs ss h.1)
  where
    above : (ts : List Save) → AllAbove s.pair ts → AllByRecursion (λ q. s.pair < q) (map (λ r. r.pair) ts)
    above [] w = tt
    above (r ∷ ts) w = (w.0, above ts w.1)

pub each-in : (ss : List Save) → Rising ss → AllByRecursion (λ s. page_in ss s.pair ≡ Some s.page) ss
each-in [] h = tt
each-in (s ∷ ss) h = (rw (eq-eqb s.pair s.pair refl) refl, later ss h.0 (each-in ss h.1))
  where
    other : (q : ℕ) → s.pair < q → nat_eq s.pair q ≡ false
    other q lt = grind (arith, lt)

    later : (ts : List Save) → AllAbove s.pair ts → AllByRecursion (λ r. page_in ss r.pair ≡ Some r.page) ts
        → AllByRecursion (λ r. cond (nat_eq s.pair r.pair) (Some s.page) (page_in ss r.pair) ≡ Some r.page) ts
    later [] u v = tt
    later (r ∷ ts) u v = (rw (other r.pair u.0) v.0, later ts u.1 v.1)

pub saves-weaker : (P Q : Save → Type 0) → ((s : Save) → P s → Q s) → (ss : List Save) → AllByRecursion P ss → AllByRecursion Q ss
saves-weaker P Q f [] h = tt
saves-weaker P Q f (s ∷ ss) h = (f s h.0, saves-weaker P Q f ss h.1)

nothing-kept : (ps : List ℕ) → AllByRecursion (λ p. is_in [] p ≡ false) ps
nothing-kept [] = tt
nothing-kept (p ∷ ps) = (refl, nothing-kept ps)

-- the asked pairs of a log are those of its trace
abbrev pub GroupsAll : (ℕ → Type 0) → List TraceMark → Type 0
GroupsAll P [] = Unit {0}
GroupsAll P (group ps ∷ marks) = AllByRecursion P ps × GroupsAll P marks
GroupsAll P (save p ∷ marks) = GroupsAll P marks

pub groups-first : (P : ℕ → Type 0) (ps : List ℕ) (marks : List TraceMark) → AllByRecursion P ps → GroupsAll P marks → GroupsAll P (group_first ps marks)
groups-first P [] marks h g = g
groups-first P (p ∷ ps) marks h g = (h, g)

pub trace-all : (P : ℕ → Type 0) (s kept : List ℕ) (l : List Mark) → AllByRecursion P (asks_of l) → GroupsAll P (trace_of s kept l)
trace-all P s kept [] h = tt
trace-all P s kept (asked ps ∷ l) h = groups-first P (firsts s ps) (trace_of (ps ++ s) kept l) (firsts-all P s ps (all-front P ps (asks_of l) h)) (trace-all P (ps ++ s) kept l (all-back P ps (asks_of l) h))
trace-all P s kept (note (used n) ∷ l) h = trace-all P s kept l h
trace-all P s kept (note (saved p x) ∷ l) h =
    elim (is_in kept p) as (λ b. GroupsAll P (cond b (trace_of s kept l) (save p ∷ trace_of s (p ∷ kept) l))) [
      | true ↦ trace-all P s kept l h
      | false ↦ trace-all P s (p ∷ kept) l h
    ]

-- a build without seeds
pub no-seeds : (lay : Shape) → IsSeeds lay no_seeds
no-seeds lay = record { each = λ p lt. refl; none = λ p le. refl }

pub laws-of : (site : Site) → IsSite site → IsRun (shape_of site) (clean_run site)
laws-of site s = chains-run (shape_of site) (task_of site.deeds) (on_way site.deeds) (deeds-chains site.deeds s.proper)

-- what a clean run saved is among the pages of the build
pub saves-built : (site : Site) → IsSite site → (i : ℕ) → i < (shape_of site).items → AllByRecursion (λ s. built site s.pair ≡ Some s.page) (saves_of (clean_run site i (built site)).log)
saves-built site h i lt =
    let lay = (shape_of site) in
    let laws : IsRun lay (clean_run site) = laws-of site h in
    let r = clean_run site i (built site) in
    saves-weaker (λ s. page_in (saves_of r.log) s.pair ≡ Some s.page) (λ s. built site s.pair ≡ Some s.page)
    (λ s e.
    let own = laws.own i (built site) s.pair s.page lt e in
    let way : page_of lay i r s.pair ≡ Some s.page = on-the-way lay (clean_run site) no_seeds h.shape laws (no-seeds lay) i (built site) s.pair s.page lt e in
    closed lay (clean_run site) no_seeds h.shape laws (no-seeds lay) s.pair s.page own.0 refl (rw own.1 way))
    (saves_of r.log) (each-in (saves_of r.log) (laws.rising i (built site) lt))

-- the finished page, in the entries
pub front-of : (ms : List MarkView) (m : MarkView) → front (ms ++ m ∷ []) ≡ ms
front-of [] m = refl
front-of (a ∷ []) m = refl
front-of (a ∷ b ∷ ms) m = ap (λ l. a ∷ l) (front-of (b ∷ ms) m)

pub last-of : (ms : List MarkView) (m : MarkView) → last_page (ms ++ m ∷ []) ≡ page_of_mark m
last-of [] m = refl
last-of (a ∷ []) m = refl
last-of (a ∷ b ∷ ms) m = last-of (b ∷ ms) m

pub final-built : (site : Site) → IsSite site → (i : ℕ) → i < (shape_of site).items → (x : Page) → (clean_run site i (built site)).end ≡ done x → built site (final_of (shape_of site) i) ≡ Some x
final-built site h i lt x e =
    let lay = (shape_of site) in
    let laws : IsRun lay (clean_run site) = laws-of site h in
    let page : page_of lay i (clean_run site i (built site)) (final_of lay i) ≡ Some x = at-last lay (clean_run site) no_seeds h.shape laws (no-seeds lay) i (built site) x (ap finished_page e) in
    closed lay (clean_run site) no_seeds h.shape laws (no-seeds lay) (final_of lay i) x (h.shape.in_pairs i lt) refl (rw (h.shape.own_final i lt) page)

final-unsaved : (site : Site) → IsSite site → (i : ℕ) → i < (shape_of site).items → (k : Pages) → is_in (saved_pairs (clean_run site i k).log ++ []) (final_of (shape_of site) i) ≡ false
final-unsaved site h i lt k =
    let saves = saves_of (clean_run site i k).log in
    let laws = laws-of site h in
    go saves
    (saves-weaker (λ s. page_in saves s.pair ≡ Some s.page) (λ s. s.pair ≢ final_of (shape_of site) i) (λ s e. (laws.own i k s.pair s.page lt e).2) saves (each-in saves (laws.rising i k lt)))
  where
    other : (p q : ℕ) → p ≢ q → nat_eq q p ≡ false
    other p q ne = at (nat_eq q p) refl
      where
        at : (b : Bool) → nat_eq q p ≡ b → b ≡ false
        at true e = absurd (ne (sym (eqb-true q p e)))
        at false e = refl

    go : (ss : List Save) → AllByRecursion (λ s. s.pair ≢ final_of (shape_of site) i) ss → is_in (map (λ s. s.pair) ss ++ []) (final_of (shape_of site) i) ≡ false
    go [] a = refl
    go (s ∷ ss) a = rw (other s.pair (final_of (shape_of site) i) a.0, go ss a.1) refl

-- the facts of an item that is done, without its finished page
pub trace-done : (site : Site) → IsSite site → (i : ℕ) → i < (shape_of site).items → (k : Pages) (x : Page)
    → trace_of [] [] ((clean_run site i k).log ++ note (saved (final_of (shape_of site) i) x) ∷ []) ≡ trace_of [] [] (clean_run site i k).log ++ save (final_of (shape_of site) i) ∷ []
trace-done site h i lt k x = trace-append [] [] (clean_run site i k).log (note (saved (final_of (shape_of site) i) x) ∷ []) ∙ rw (final-unsaved site h i lt k) refl

pub patterns-done : (l : List Mark) (p : ℕ) (x : Page) → patterns_of (l ++ note (saved p x) ∷ []) ≡ patterns_of l
patterns-done l p x = patterns_of-append l (note (saved p x) ∷ []) ∙ append-nil (patterns_of l)

-- the patterns of a deed have the numbers that the plan gives their texts
abbrev pub Numbered : Table → ℕ → Type 0
Numbered table n = table.number (table.pattern n) ≡ n

module _ {A : Type 0} (table : Table) (own : Ident) (k : Pages) where
  numbered-pages : (ps : List ℕ) (f : List Page → Task A) → ((xs : List Page) → AllByRecursion (Numbered table) (patterns_of (run (f xs) k).log))
      → (o : Option (List Page)) → AllByRecursion (Numbered table) (patterns_of (answered ps (lacking k ps) (λ xs. run (f xs) k) o).log)
  numbered-pages ps f rec None = tt
  numbered-pages ps f rec (Some xs) = rec xs

  numbered-asked : (r : Result (List ℕ) Fault) (f : List Page → Task A)
      → ((xs : List Page) → AllByRecursion (Numbered table) (patterns_of (run (f xs) k).log))
      → AllByRecursion (Numbered table) (patterns_of (run (ask_for r f) k).log)
  numbered-asked (Err e) f rec = tt
  numbered-asked (Ok []) f rec = rec []
  numbered-asked (Ok (p ∷ ps)) f rec = numbered-pages (p ∷ ps) f rec (all_pages k (p ∷ ps))

  numbered-saved : (o : Option ℕ) (x : Page) (t : Task A) → AllByRecursion (Numbered table) (patterns_of (run t k).log) → AllByRecursion (Numbered table) (patterns_of (run (save_as o x t) k).log)
  numbered-saved None x t h = h
  numbered-saved (Some p) x t h = h

  numbered : (d : Deed A) → IsNamed table own d → AllByRecursion (Numbered table) (patterns_of (run (interpret table own d) k).log)
  numbered (returns x) h = tt
  numbered (refuses e) h = tt
  numbered (asking keys f) h = numbered-asked (resolve table keys) (λ xs. interpret table own (f (answers xs (traits_of table keys)))) (λ xs. numbered (f (answers xs (traits_of table keys))) (h (answers xs (traits_of table keys))))
  numbered (matching by f) h = (ap table.number h.0, numbered (f (table.matches by)) h.1)
  numbered (saving name x d) h = numbered-saved (table.pair (record { id = own; name = name })) x (interpret table own d) (numbered d h.1)

pub numbered-run : (site : Site) → IsSite site → (i : ℕ) → i < (shape_of site).items → (k : Pages) → AllByRecursion (Numbered site.deeds.table) (patterns_of (clean_run site i k).log)
numbered-run site s i lt k = numbered site.deeds.table (site.deeds.id i) k (site.deeds.deed i) (deeds-named site.deeds s.proper i lt)

same-run : (lay : Shape) (i : ℕ) (c : Run Page) → SameRun lay i c c
same-run lay i c = record { saves = refl; ends = refl; facts = λ x e. refl }

module _ (dig : Digests) (old new : Site) (o : IsSite old) (n : IsSite new) (apart : TellApart dig old new) (tell : TextsTell old new) where
  module _ (i : ℕ) (lt : i < (shape_of new).items) (k : Pages) (within : Extends k (built new)) (j : ℕ) (old_lt : j < (shape_of old).items)
      (one : old.deeds.id j ≡ new.deeds.id i) (x : Page) (ends : (clean_run old j (built old)).end ≡ done x) where
    abbrev log0 : List Mark
    log0 = (clean_run old j (built old)).log

    abbrev here : ℕ → ℕ
    here = pair_now dig old.deeds.table new.deeds.table (new.deeds.id i) (built old) k

    abbrev pattern_here : ℕ → ℕ
    pattern_here = pattern_now dig old.deeds.table new.deeds.table (new.deeds.id i) (built old) k

    abbrev FitsHere : ℕ → Type 0
    FitsHere = Fits dig old.deeds.table new.deeds.table (new.deeds.id i) (built old) k

    abbrev marks0 : List MarkView
    marks0 = map (mark_view dig old.deeds.table (built old)) (trace_of [] [] log0)

    abbrev last0 : MarkView
    last0 = mark_view dig old.deeds.table (built old) (save (final_of (shape_of old) j))

    abbrev entry : EntryView
    entry = record { id = old.deeds.id j; print = dig.text (old.text j); patterns = map (match_view old.deeds.table) (firsts [] (patterns_of log0)); marks = marks0 ++ last0 ∷ [] }

    pages-apart : PagesApart dig old.deeds.table new.deeds.table (new.deeds.id i) (built old) k
    pages-apart p y z f a b t = apart.pages p (here p) y z (sym (n.proper.table.keyed (old.deeds.table.key p) (here p) f.here)) a (within (here p) z b) t

    fits-asks : (ps : List ℕ) → AllByRecursion (λ p. old.deeds.table.pair (old.deeds.table.key p) ≡ Some p) ps
        → list_all (ask_fits dig new.deeds.table) (map (ask_view dig old.deeds.table (built old)) ps) ≡ true → AllByRecursion FitsHere ps
    fits-asks [] h t = tt
    fits-asks (p ∷ ps) h t =
        let key = old.deeds.table.key p in
        let view = ask_view dig old.deeds.table (built old) in
        let w = and-both (ask_fits dig new.deeds.table (view p)) (list_all (ask_fits dig new.deeds.table) (map view ps)) t in
        let v = and-both (is_some (new.deeds.table.pair key)) (bytes_eq (dig.traits (new.deeds.table.traits key.id)) (dig.traits (old.deeds.table.traits key.id))) w.0 in
        let now : (q : ℕ) × (new.deeds.table.pair key ≡ Some q) = the_some (new.deeds.table.pair key) v.0 in
        let traits = apart.traits key.id (o.proper.table.item key p h.0) (n.proper.table.item key now.0 now.1) v.1 in
        (record { there = h.0; here = some-or (new.deeds.table.pair key) v.0; traits = traits }, fits-asks ps h.1 w.1)

    fits-marks : (marks : List TraceMark) → GroupsAll (λ p. old.deeds.table.pair (old.deeds.table.key p) ≡ Some p) marks
        → list_all (mark_fits dig new.deeds.table) (map (mark_view dig old.deeds.table (built old)) marks) ≡ true
        → FitsMarks dig old.deeds.table new.deeds.table (new.deeds.id i) (built old) k marks
    fits-marks [] h t = tt
    fits-marks (group ps ∷ marks) h t =
        let w = and-both (list_all (ask_fits dig new.deeds.table) (map (ask_view dig old.deeds.table (built old)) ps)) (list_all (mark_fits dig new.deeds.table) (map (mark_view dig old.deeds.table (built old)) marks)) t in
        (fits-asks ps h.0 w.0, fits-marks marks h.1 w.1)
    fits-marks (save p ∷ marks) h t = fits-marks marks h t

    abbrev PatternFits : ℕ → Type 0
    PatternFits m = (new.deeds.table.pattern (new.deeds.table.number (old.deeds.table.pattern m)) ≡ old.deeds.table.pattern m) × (new.deeds.table.matches (old.deeds.table.pattern m) ≡ old.deeds.table.matches (old.deeds.table.pattern m))

    fits-pattern : (m : ℕ) → pattern_fits (items_of new) (match_view old.deeds.table m) ≡ true → PatternFits m
    fits-pattern m t =
        let by = old.deeds.table.pattern m in
        let number = new.deeds.table.number by in
        let w = and-both (nat_lt number new.patterns && bytes_eq (new.deeds.table.pattern number) by) (pointwise (eq_by_cmp ident_cmp) (new.deeds.table.matches by) (old.deeds.table.matches by)) t in
        let v = and-both (nat_lt number new.patterns) (bytes_eq (new.deeds.table.pattern number) by) w.0 in
        (bytes-same (new.deeds.table.pattern number) by v.1, list-same (eq_by_cmp ident_cmp) idents-same (new.deeds.table.matches by) (old.deeds.table.matches by) w.1)

    fits-patterns : (ms : List ℕ) → list_all (pattern_fits (items_of new)) (map (match_view old.deeds.table) ms) ≡ true → AllByRecursion PatternFits ms
    fits-patterns [] t = tt
    fits-patterns (m ∷ ms) t =
        let w = and-both (pattern_fits (items_of new) (match_view old.deeds.table m)) (list_all (pattern_fits (items_of new)) (map (match_view old.deeds.table) ms)) t in
        (fits-pattern m w.0, fits-patterns ms w.1)

    abbrev Listed : ℕ → Type 0
    Listed m = Numbered old.deeds.table m × (new.deeds.table.pattern (new.deeds.table.number (old.deeds.table.pattern m)) ≡ old.deeds.table.pattern m)

    same-pattern : (a b : ℕ) → Listed a → Listed b → nat_eq (pattern_here a) (pattern_here b) ≡ nat_eq a b
    same-pattern a b f g = at (nat_eq (pattern_here a) (pattern_here b)) (nat_eq a b) refl refl
      where
        back : pattern_here a ≡ pattern_here b → a ≡ b
        back e =
            let w : old.deeds.table.pattern a ≡ old.deeds.table.pattern b = sym f.1 ∙ (ap new.deeds.table.pattern e ∙ g.1) in
            sym f.0 ∙ (ap old.deeds.table.number w ∙ g.0)

        at : (b1 b2 : Bool) → nat_eq (pattern_here a) (pattern_here b) ≡ b1 → nat_eq a b ≡ b2 → b1 ≡ b2
        at true true u v = refl
        at true false u v = clash (nat_eq a b) v (eq-eqb a b (back (eqb-true (pattern_here a) (pattern_here b) u)))
        at false true u v = clash (nat_eq (pattern_here a) (pattern_here b)) u (eq-eqb (pattern_here a) (pattern_here b) (ap pattern_here (eqb-true a b v)))
        at false false u v = refl

    listed : (ms : List ℕ) → AllByRecursion (Numbered old.deeds.table) ms → AllByRecursion PatternFits ms → AllByRecursion Listed ms
    listed [] h g = tt
    listed (m ∷ ms) h g = ((h.0, g.0.0), listed ms h.1 g.1)

    matched : (ms : List ℕ) → AllByRecursion PatternFits ms → AllByRecursion (SameMatches dig old.deeds.table new.deeds.table (new.deeds.id i) (built old) k) ms
    matched [] g = tt
    matched (m ∷ ms) g = (g.0.1, matched ms g.1)

    numbers-of : (ms : List ℕ) → map (λ m. new.deeds.table.number m.text) (map (match_view old.deeds.table) ms) ≡ map pattern_here ms
    numbers-of [] = refl
    numbers-of (m ∷ ms) = ap (λ l. pattern_here m ∷ l) (numbers-of ms)

    abbrev print_fits : Bool
    print_fits = bytes_eq entry.print (dig.text (new.text i))

    abbrev names_fit : Bool
    names_fit = pointwise bytes_eq (saved_names entry.marks) (new.deeds.names i ++ final_name ∷ [])

    abbrev patterns_fit : Bool
    patterns_fit = list_all (pattern_fits (items_of new)) entry.patterns

    abbrev marks_fit : Bool
    marks_fit = list_all (mark_fits dig new.deeds.table) entry.marks

    abbrev follows : Type 0
    follows = Follows [] [] (map pattern_here (patterns_of log0)) x (run (attempt dig new.deeds.table (new.deeds.id i) x [] marks0) k) (clean_run new i k)

    with-deed : print_fits ≡ true → Goes dig old.deeds.table new.deeds.table (new.deeds.id i) (built old) k x (task_of old.deeds j) (task_of new.deeds i)
    with-deed t =
        let same_text : old.text j ≡ new.text i = apart.texts j i old_lt lt one t in
        let same_deed : old.deeds.deed j ≡ new.deeds.deed i = tell j i old_lt lt one same_text in
        let named : IsNamed old.deeds.table (new.deeds.id i) (new.deeds.deed i) = subst (λ d. IsNamed old.deeds.table (new.deeds.id i) d) same_deed (subst (λ id. IsNamed old.deeds.table id (old.deeds.deed j)) one (deeds-named old.deeds o.proper j old_lt)) in
        let was : task_of old.deeds j ≡ interpret old.deeds.table (new.deeds.id i) (new.deeds.deed i) = ap (λ id. interpret old.deeds.table id (old.deeds.deed j)) one ∙ ap (λ d. interpret old.deeds.table (new.deeds.id i) d) same_deed in
        subst (λ c. Goes dig old.deeds.table new.deeds.table (new.deeds.id i) (built old) k x c (task_of new.deeds i)) (sym was)
        (central dig old.deeds.table new.deeds.table (new.deeds.id i) (built old) k o.proper.table n.proper.table pages-apart x (new.deeds.deed i) named (deeds-named new.deeds n.proper i lt))

    placed : (ps : List ℕ) → AllByRecursion (λ p. p < pairs (shape_of old)) ps → AllByRecursion (λ p. old.deeds.table.pair (old.deeds.table.key p) ≡ Some p) ps
    placed [] h = tt
    placed (p ∷ ps) h = (o.proper.table.placed p h.0, placed ps h.1)

    fitting-same : fits dig (items_of new) i entry ≡ true → SameRun (shape_of new) i (run (replay_by dig (items_of new) i (task_of new.deeds i) entry) k) (clean_run new i k)
    fitting-same t =
        let c = and-both (print_fits && names_fit && patterns_fit) marks_fit t in
        let b = and-both (print_fits && names_fit) patterns_fit c.0 in
        let a = and-both print_fits names_fit b.0 in
        let old_laws : IsRun (shape_of old) (clean_run old) = laws-of old o in
        let test = mark_fits dig new.deeds.table in
        let front_fits : list_all test marks0 ≡ true = (and-both (list_all test marks0) (list_all test (last0 ∷ [])) (sym (list_all-append test marks0 (last0 ∷ [])) ∙ c.1)).0 in
        let last : last_page entry.marks ≡ x = last-of marks0 last0 ∙ rw (final-built old o j old_lt x ends) refl in
        let new_laws : IsRun (shape_of new) (clean_run new) = laws-of new n in
        let p : AllByRecursion PatternFits (patterns_of log0) = all-of-firsts PatternFits [] (patterns_of log0) tt (fits-patterns (firsts [] (patterns_of log0)) b.1) in
        let numbers : AllByRecursion Listed (patterns_of log0) = listed (patterns_of log0) (numbered-run old o j old_lt (built old)) p in
        let asked : AllByRecursion (λ q. q < pairs (shape_of old)) (asks_of log0) = recursion_from_All (λ q. q < pairs (shape_of old)) (asks_of log0) (old_laws.within j (built old) old_lt) in
        let ready : Ready dig old.deeds.table new.deeds.table (new.deeds.id i) (built old) k x (clean_run old j (built old)) (task_of new.deeds i) [] [] = record {
          ends = ends;
          distinct = (deeds-chains new.deeds n.proper).distinct i lt;
          known = tt;
          fresh = nothing-kept (saved_pairs log0);
          rising = rising-pairs (saves_of log0) (old_laws.rising j (built old) old_lt);
          pages = saves-built old o j old_lt;
          fits = fits-marks (trace_of [] [] log0) (trace-all (λ q. old.deeds.table.pair (old.deeds.table.key q) ≡ Some q) [] [] log0 (placed (asks_of log0) asked)) front_fits;
          patterns = matched (patterns_of log0) p;
        } in
        let go : follows = with-deed a.0 [] [] [] ready in
        let first : firsts [] (map pattern_here (patterns_of log0)) ≡ map pattern_here (firsts [] (patterns_of log0)) = firsts-map pattern_here Listed same-pattern [] (patterns_of log0) tt numbers in
        let again : firsts [] (pattern_numbers new.deeds.table entry) ≡ firsts [] (map pattern_here (patterns_of log0)) =
        ap (firsts []) (numbers-of (firsts [] (patterns_of log0)) ∙ sym first) ∙ firsts-twice [] [] (map pattern_here (patterns_of log0)) (λ m. refl) in
        subst (λ m. SameRun (shape_of new) i (run (attempt dig new.deeds.table (new.deeds.id i) (last_page entry.marks) [] m ▷ finish (task_of new.deeds i) (pattern_numbers new.deeds.table entry)) k) (clean_run new i k)) (sym (front-of marks0 last0))
        (subst (λ y. SameRun (shape_of new) i (run (attempt dig new.deeds.table (new.deeds.id i) y [] marks0 ▷ finish (task_of new.deeds i) (pattern_numbers new.deeds.table entry)) k) (clean_run new i k)) (sym last)
        (finished-same (shape_of new) i (attempt dig new.deeds.table (new.deeds.id i) x [] marks0) (task_of new.deeds i) (pattern_numbers new.deeds.table entry) (map pattern_here (patterns_of log0)) x k
        (rising-pairs (saves_of (clean_run new i k).log) (new_laws.rising i k lt)) again go))

  -- whatever the item, its replay gives what its clean run gives
  module _ (i : ℕ) (lt : i < (shape_of new).items) (k : Pages) (within : Extends k (built new)) where
    abbrev whole0 : ℕ → List Mark
    whole0 j = whole_log (shape_of old) j (clean_run old j (built old))

    by-fit : (e : EntryView)
        → (fits dig (items_of new) i e ≡ true → SameRun (shape_of new) i (run (replay_by dig (items_of new) i (task_of new.deeds i) e) k) (clean_run new i k))
        → SameRun (shape_of new) i (run (replay_of dig new (image dig old) i (Some e)) k) (clean_run new i k)
    by-fit e f =
        elim (fits dig (items_of new) i e) as (λ b. fits dig (items_of new) i e ≡ b → SameRun (shape_of new) i (run (cond b (replay_by dig (items_of new) i (task_of new.deeds i) e) (task_of new.deeds i)) k) (clean_run new i k)) [
          | true ↦ λ t. f t
          | false ↦ λ t. same-run (shape_of new) i (clean_run new i k)
        ] refl

    by-end : (j : ℕ) → j < (shape_of old).items → old.deeds.id j ≡ new.deeds.id i → (e : End Page) → (clean_run old j (built old)).end ≡ e
        → SameRun (shape_of new) i (run (replay_of dig new (image dig old) i (entry_by dig (items_of old) (endings old) (built old) j (ends_with ((clean_run old j (built old)).log ++ final_mark (final_of (shape_of old) j) e) e))) k) (clean_run new i k)
    by-end j old_lt one (fault e) h = same-run (shape_of new) i (clean_run new i k)
    by-end j old_lt one (waits ps) h = same-run (shape_of new) i (clean_run new i k)
    by-end j old_lt one (done x) h =
        let log = (clean_run old j (built old)).log in
        let f = final_of (shape_of old) j in
        let given : SameRun (shape_of new) i (run (replay_of dig new (image dig old) i (Some (entry i lt k within j old_lt one x h))) k) (clean_run new i k) = by-fit (entry i lt k within j old_lt one x h) (fitting-same i lt k within j old_lt one x h) in
        let same : Some (entry i lt k within j old_lt one x h) ≡ entry_by dig (items_of old) (endings old) (built old) j (finished (facts_of (log ++ note (saved f x) ∷ []))) =
        rw (trace-done old o j old_lt (built old) x, patterns-done log f x, map-append (mark_view dig old.deeds.table (built old)) (trace_of [] [] log) (save f ∷ [])) refl in
        subst (λ e. SameRun (shape_of new) i (run (replay_of dig new (image dig old) i e) k) (clean_run new i k)) same given

    ending-is : (j : ℕ) → endings old j ≡ ends_with (whole0 j) (clean_run old j (built old)).end
    unfolding status
    ending-is j = refl

    by-item : (f : Option ℕ) → old.deeds.table.find (new.deeds.id i) ≡ f
        → SameRun (shape_of new) i (run (replay_of dig new (image dig old) i (entry_at dig (items_of old) (endings old) (built old) f)) k) (clean_run new i k)
    by-item None h = same-run (shape_of new) i (clean_run new i k)
    by-item (Some j) h =
        let w = o.proper.found (new.deeds.id i) j h in
        subst (λ e. SameRun (shape_of new) i (run (replay_of dig new (image dig old) i (entry_by dig (items_of old) (endings old) (built old) j e)) k) (clean_run new i k)) (sym (ending-is j))
        (by-end j w.0 w.1 (clean_run old j (built old)).end refl)

    pub replays-same : SameRun (shape_of new) i (replay_run dig new (image dig old) i k) (clean_run new i k)
    replays-same = by-item (old.deeds.table.find (new.deeds.id i)) refl

  -- so the rounds are the same, one by one
  abbrev lay : Shape
  lay = shape_of new

  abbrev replaying : ℕ → Pages → Run Page
  replaying = replay_run dig new (image dig old)

  page-same : (i p : ℕ) (r c : Run Page) → SameRun lay i r c → page_of lay i r p ≡ page_of lay i c p
  page-same i p r c h = rw (h.ends, h.saves) refl

  rounds-same : (k : Pages) → Extends k (built new) → round lay replaying no_seeds k ≡ round lay (clean_run new) no_seeds k
  rounds-same k within = fun_ext (λ p. at p (nat_lt p (pairs lay)) refl)
    where
      at : (p : ℕ) (b : Bool) → nat_lt p (pairs lay) ≡ b
          → cond b (page_of lay (item_of lay p) (replaying (item_of lay p) k) p) None ≡ cond b (page_of lay (item_of lay p) (clean_run new (item_of lay p) k) p) None
      at p true t = page-same (item_of lay p) p (replaying (item_of lay p) k) (clean_run new (item_of lay p) k) (replays-same (item_of lay p) (n.shape.in_items p (ltb-true p (pairs lay) t)) k within)
      at p false t = refl

  known-within : (m : ℕ) → Extends (known lay (clean_run new) no_seeds m) (built new)
  known-within zero p x e = cc
  known-within (suc m) p x e =
      subst (λ (k : Pages). k p ≡ Some x) (fix-fixed lay (clean_run new) no_seeds n.shape (laws-of new n) (no-seeds lay))
      (round-grows lay (clean_run new) no_seeds n.shape (laws-of new n) (no-seeds lay) (known lay (clean_run new) no_seeds m) (built new) (known-within m) p x e)

  pub known-same : (m : ℕ) → known lay replaying no_seeds m ≡ known lay (clean_run new) no_seeds m
  known-same zero = refl
  known-same (suc m) = ap (round lay replaying no_seeds) (known-same m) ∙ rounds-same (known lay (clean_run new) no_seeds m) (known-within m)

  pub rebuilt-same : rebuilt dig new (image dig old) ≡ built new
  unfolding fix
  rebuilt-same = known-same (pairs lay)

  ends-alike : (i : ℕ) (r c : Run Page) → SameRun lay i r c → ends_with (whole_log lay i r) r.end ≡ ends_with (whole_log lay i c) c.end
  ends-alike i r c h = ap (ends_with (whole_log lay i r)) h.ends ∙ at c.end refl
    where
      at : (e : End Page) → c.end ≡ e → ends_with (whole_log lay i r) e ≡ ends_with (whole_log lay i c) e
      at (done x) w = ap finished (h.facts x w)
      at (fault e) w = refl
      at (waits ps) w = refl

  pub endings-same : (i : ℕ) → i < lay.items → reendings dig new (image dig old) i ≡ endings new i
  unfolding status
  endings-same i lt =
      ap (λ k. ends_with (whole_log lay i (replaying i k)) (replaying i k).end) rebuilt-same
      ∙ ends-alike i (replaying i (built new)) (clean_run new i (built new)) (replays-same i lt (built new) (λ p x e. e))

  -- and the entries that it leaves are those of a clean build
  pub image-same : entries_of dig (items_of new) (reendings dig new (image dig old)) (rebuilt dig new (image dig old)) ≡ image dig new
  image-same = fun_ext (λ id. at id (new.deeds.table.find id) refl)
    where
      at : (id : Ident) (f : Option ℕ) → new.deeds.table.find id ≡ f
          → entry_at dig (items_of new) (reendings dig new (image dig old)) (rebuilt dig new (image dig old)) f ≡ entry_at dig (items_of new) (endings new) (built new) f
      at id None h = refl
      at id (Some i) h = ap (λ k. entry_by dig (items_of new) (endings new) k i (reendings dig new (image dig old) i)) rebuilt-same ∙ ap (entry_by dig (items_of new) (endings new) (built new) i) (endings-same i (n.proper.found id i h).0)
