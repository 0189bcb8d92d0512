-- A plan is apart from itself, and built again it keeps all items that were done.
use Rattle.std.proofs.Common.{◌≡◌, refl, sym, ap, ◌∙◌, arith, ℕ, ◌<◌, Bool, true, false, ◌&&◌, inl, inr, List, [], ◌∷◌, ◌++◌, map, append-nil, append_assoc, Option, Some, None, is_some, nat_eq, nat_lt, bytes_eq, lt-ltb, ltb-true, ltb-false}
use Rattle.std.specs.List.{AllByRecursion, IsDistinct, list_all}
use Rattle.std.specs.Ordering.{eq_by_cmp}
use Rattle.std.specs.Cmp.Lexicographic.{pointwise}
use Rattle.std.proofs.lemmas.List.{map-append}
use Rattle.std.proofs.lemmas.List.Elements.{recursion_from_All}
use Rattle.hk_base.specs.Bytes.{Bytes}
use Rattle.hk_base.specs.Identifier.{ident_cmp}
use Rattle.hk_base.specs.Ties.{bytes-self}
use Rattle.hk_chain.specs.declared.page.Page.{Page}
use Rattle.hk_chain.specs.Facts.{TraceMark, group, save}
use Rattle.hk_chain.specs.Layout.{pairs, final_of}
use Rattle.hk_chain.specs.Snapshots.{Ascending}
use Rattle.hk_chain.specs.Traces.{asked_in, saved_in}
use Rattle.hk_fix.specs.ChainLaws.{run_saves_all}
use Rattle.hk_fix.specs.DeedLaws.{id-same, deeds-chains}
use Rattle.hk_fix.specs.Deed.{HasPair}
use Rattle.hk_fix.specs.Deeds.{pair_or, on_way, task_of}
use Rattle.hk_fix.specs.Facts.{is_in, firsts, trace_of, final_mark, whole_log}
use Rattle.hk_fix.specs.Fix.{is_finished, ends_with, fix, status}
use Rattle.hk_fix.specs.Table.{Key}
use Rattle.hk_fix.specs.Run.{asks_of, patterns_of, is_wait}
use Rattle.hk_fix.specs.Task.{Mark, End, done, fault, waits}
use Rattle.hk_fix.proofs.Firsts.{firsts-all, firsts-of_distinct}
use Rattle.hk_fix.proofs.Orders.{asked-known, clash, decide, known-outside}
use Rattle.hk_fix.proofs.Traces.{trace-asks, trace-saves}
use Rattle.hk_store.specs.Digests.{Digests}
use Rattle.hk_store.specs.Entry.{MarkView, asked as recorded, stored, EntryView}
use Rattle.hk_reuse.specs.Entries.{asked_views, saved_names}
use Rattle.hk_reuse.specs.Fits.{pattern_fits, is_own}
use Rattle.hk_reuse.specs.Image.{page_at, match_view, ask_view, mark_view, entry_by, entry_at, image}
use Rattle.hk_reuse.specs.Kept.{kept_among, is_kept, has_digest, is_unchanged, asks_unchanged}
use Rattle.hk_reuse.specs.Rebuilt.{ArePlansApart}
use Rattle.hk_reuse.specs.Site.{pair_named, Site, items_of, shape_of, clean_run, no_seeds, built, endings, IsSite, UsesItsOwn}
use Rattle.hk_chain.specs.Names.{final_name}
use Rattle.hk_reuse.proofs.Cutoffs.{kept-if_unchanged}
use Rattle.hk_reuse.proofs.Images.{image-formed}
use Rattle.hk_reuse.proofs.Sites.{no-seeds, laws-of, trace-done, patterns-done, numbered-run, rebuilt-same}
use Rattle.hk_reuse.proofs.Tests.{some-or}

-- tests that hold
all-true : (a b : Bool) → a ≡ true → b ≡ true → (a && b) ≡ true
all-true true b e h = h
all-true false b e h = cc

pointwise-self : {A : Type 0} (test : A → A → Bool) → ((a : A) → test a a ≡ true) → (xs : List A) → pointwise test xs xs ≡ true
pointwise-self test f [] = refl
pointwise-self test f (x ∷ xs) = rw (f x) (pointwise-self test f xs)

ascending-distinct : (ps : List ℕ) → Ascending ps → IsDistinct nat_eq ps
unfolding IsDistinct
ascending-distinct [] a = tt
ascending-distinct (p ∷ ps) a = (others ps a.0, ascending-distinct ps a.1)
  where
    others : (qs : List ℕ) → AllByRecursion (λ q. p < q) qs → AllByRecursion (λ q. nat_eq p q ≡ false) qs
    others [] h = tt
    others (q ∷ qs) h = (grind (arith, h.0), others qs h.1)

none-seen : (ps : List ℕ) → AllByRecursion (λ p. is_in [] p ≡ false) ps
none-seen [] = tt
none-seen (p ∷ ps) = (refl, none-seen ps)

-- parts of marks
views-append : (a b : List MarkView) → asked_views (a ++ b) ≡ asked_views a ++ asked_views b
views-append [] b = refl
views-append (recorded views ∷ a) b = ap (λ l. views ++ l) (views-append a b) ∙ sym (append_assoc views (asked_views a) (asked_views b))
views-append (stored name page ∷ a) b = views-append a b

names-append : (a b : List MarkView) → saved_names (a ++ b) ≡ saved_names a ++ saved_names b
names-append [] b = refl
names-append (recorded views ∷ a) b = names-append a b
names-append (stored name page ∷ a) b = ap (λ l. name ∷ l) (names-append a b)

module _ (dig : Digests) (site : Site) (s : IsSite site) where
  same-number : (i j : ℕ) → i < (shape_of site).items → j < (shape_of site).items → site.deeds.id i ≡ site.deeds.id j → i ≡ j
  same-number i j lt less e = let both : Some i ≡ Some j = sym (s.numbered i lt) ∙ (ap site.deeds.table.find e ∙ s.numbered j less) in cc

  built-inside : (p : ℕ) (x : Page) → built site p ≡ Some x → p < pairs (shape_of site)
  unfolding fix
  built-inside p x e =
      elim (decide (nat_lt p (pairs (shape_of site)))) [
        | inl t ↦ ltb-true p (pairs (shape_of site)) t
        | inr f ↦ clash (is_some (built site p)) (ap is_some (known-outside (shape_of site) (clean_run site) no_seeds s.shape (laws-of site s) (no-seeds (shape_of site)) (pairs (shape_of site)) p (ltb-false p (pairs (shape_of site)) f))) (ap is_some e)
      ]

  -- whatever the digests
  pub self-apart : ArePlansApart dig site site
  self-apart =
      record {
        was = s;
        now = s;
        apart = record {
          texts = λ i j lt less one e. ap site.text (same-number i j lt less one);
          traits = λ id f g e. refl;
          pages = same-page;
        };
        told = λ i j lt less one e. ap site.deeds.deed (same-number i j lt less one);
      }
    where
      same-page : (p q : ℕ) (y x : Page) → site.deeds.table.key p ≡ site.deeds.table.key q → built site p ≡ Some y → built site q ≡ Some x → bytes_eq (dig.page x) (dig.page y) ≡ true → x ≡ y
      same-page p q y x one f g e =
          let numbers : Some p ≡ Some q = sym (s.proper.table.placed p (built-inside p y f)) ∙ (ap site.deeds.table.pair one ∙ s.proper.table.placed q (built-inside q x g)) in
          let number : p ≡ q = cc in
          let pages : Some x ≡ Some y = sym g ∙ (ap (built site) (sym number) ∙ f) in cc

  module _ (own : UsesItsOwn site) (i : ℕ) (lt : i < (shape_of site).items) (x : Page) (ends : (clean_run site i (built site)).end ≡ done x) where
    abbrev log : List Mark
    log = (clean_run site i (built site)).log

    abbrev last : ℕ
    last = final_of (shape_of site) i

    abbrev view : TraceMark → MarkView
    view = mark_view dig site.deeds.table (built site)

    abbrev marks : List MarkView
    marks = map view (trace_of [] [] log)

    abbrev entry : EntryView
    entry =
        record {
          id = site.deeds.id i;
          print = dig.text (site.text i);
          patterns = map (match_view site.deeds.table) (firsts [] (patterns_of log));
          marks = marks ++ view (save last) ∷ [];
        }

    ending-is : endings site i ≡ ends_with (log ++ final_mark last (clean_run site i (built site)).end) (clean_run site i (built site)).end
    unfolding status
    ending-is = refl

    entry-there : image dig site (site.deeds.id i) ≡ Some entry
    entry-there =
        ap (entry_at dig (items_of site) (endings site) (built site)) (s.numbered i lt)
        ∙ (ap (entry_by dig (items_of site) (endings site) (built site) i) (ending-is ∙ ap (λ e. ends_with (log ++ final_mark last e) e) ends)
        ∙ rw (trace-done site s i lt (built site) x, patterns-done log last x, map-append view (trace_of [] [] log) (save last ∷ [])) refl)

    -- the names of what was saved
    names-saved : (trace : List TraceMark) → saved_names (map view trace) ≡ map (λ p. (site.deeds.table.key p).name) (saved_in trace)
    names-saved [] = refl
    names-saved (group ps ∷ trace) = names-saved trace
    names-saved (save p ∷ trace) = ap (λ l. (site.deeds.table.key p).name ∷ l) (names-saved trace)

    names-back : (names : List Bytes) → AllByRecursion (HasPair site.deeds.table (site.deeds.id i)) names
        → map (λ p. (site.deeds.table.key p).name) (map (pair_named site.deeds.table (site.deeds.id i)) names) ≡ names
    names-back [] h = refl
    names-back (name ∷ names) h =
        let key : Key = record { id = site.deeds.id i; name = name } in
        let there = some-or (site.deeds.table.pair key) h.0 in
        rw (s.proper.table.keyed key (pair_or site.deeds.table key) there, names-back names h.1) refl

    pairs-saved : saved_in (trace_of [] [] log) ≡ on_way site.deeds i
    pairs-saved =
        let chains = deeds-chains site.deeds s.proper in
        trace-saves [] [] log
        ∙ (ap (firsts []) (run_saves_all (task_of site.deeds i) (on_way site.deeds i) (chains.saves i lt) (built site) x ends)
        ∙ firsts-of_distinct [] (on_way site.deeds i) (ascending-distinct (on_way site.deeds i) (s.proper.in_order i lt).rising) (none-seen (on_way site.deeds i)))

    names-are : saved_names entry.marks ≡ site.deeds.names i ++ final_name ∷ []
    names-are =
        names-append marks (view (save last) ∷ [])
        ∙ (ap (λ l. l ++ (site.deeds.table.key last).name ∷ []) (names-saved (trace_of [] [] log) ∙ (ap (map (λ p. (site.deeds.table.key p).name)) pairs-saved ∙ names-back (site.deeds.names i) (s.proper.owned i lt)))
        ∙ ap (λ (key : Key). site.deeds.names i ++ key.name ∷ []) (own.finals i lt))

    -- the patterns that were used
    abbrev IsOwnPattern : ℕ → Type 0
    IsOwnPattern n = (site.deeds.table.number (site.deeds.table.pattern n) ≡ n) × (n < site.patterns)

    both : (ns : List ℕ) → AllByRecursion (λ n. site.deeds.table.number (site.deeds.table.pattern n) ≡ n) ns → AllByRecursion (λ n. n < site.patterns) ns → AllByRecursion IsOwnPattern ns
    both [] h g = tt
    both (n ∷ ns) h g = ((h.0, g.0), both ns h.1 g.1)

    patterns-fit : (ns : List ℕ) → AllByRecursion IsOwnPattern ns → list_all (pattern_fits (items_of site)) (map (match_view site.deeds.table) ns) ≡ true
    patterns-fit [] h = refl
    patterns-fit (n ∷ ns) h =
        let by = site.deeds.table.pattern n in
        rw (h.0.0, lt-ltb n site.patterns h.0.1, bytes-self by, pointwise-self (eq_by_cmp ident_cmp) id-same (site.deeds.table.matches by)) (patterns-fit ns h.1)

    is-own : is_own dig (items_of site) i entry ≡ true
    is-own =
        let used : AllByRecursion IsOwnPattern (patterns_of log) = both (patterns_of log) (numbered-run site s i lt (built site)) (own.patterns i (built site) lt) in
        let names : pointwise bytes_eq (saved_names entry.marks) (site.deeds.names i ++ final_name ∷ []) ≡ true = ap (λ l. pointwise bytes_eq l (site.deeds.names i ++ final_name ∷ [])) names-are ∙ pointwise-self bytes_eq bytes-self (site.deeds.names i ++ final_name ∷ []) in
        all-true _ _ (all-true _ _ (bytes-self (dig.text (site.text i))) names) (patterns-fit (firsts [] (patterns_of log)) (firsts-all IsOwnPattern [] (patterns_of log) used))

    -- what was asked for
    views-asked : (trace : List TraceMark) → asked_views (map view trace) ≡ map (ask_view dig site.deeds.table (built site)) (asked_in trace)
    views-asked [] = refl
    views-asked (group ps ∷ trace) = ap (λ l. map (ask_view dig site.deeds.table (built site)) ps ++ l) (views-asked trace) ∙ sym (map-append (ask_view dig site.deeds.table (built site)) ps (asked_in trace))
    views-asked (save p ∷ trace) = views-asked trace

    abbrev IsThere : ℕ → Type 0
    IsThere p = (p < pairs (shape_of site)) × (is_some (built site p) ≡ true)

    there : (ps : List ℕ) → AllByRecursion (λ p. p < pairs (shape_of site)) ps → AllByRecursion (λ p. is_some (built site p) ≡ true) ps → AllByRecursion IsThere ps
    there [] h g = tt
    there (p ∷ ps) h g = ((h.0, g.0), there ps h.1 g.1)

    page-same : (p : ℕ) (o : Option Page) → built site p ≡ o → is_some o ≡ true → has_digest dig o (dig.page (page_at (built site) p)) ≡ true
    page-same p None e t = cc
    page-same p (Some y) e t = rw e (bytes-self (dig.page y))

    asks-same : (ps : List ℕ) → AllByRecursion IsThere ps → list_all (is_unchanged dig site.deeds.table (built site)) (map (ask_view dig site.deeds.table (built site)) ps) ≡ true
    asks-same [] h = refl
    asks-same (p ∷ ps) h =
        let key = site.deeds.table.key p in
        rw (s.proper.table.placed p h.0.0, bytes-self (dig.traits (site.deeds.table.traits key.id)), page-same p (built site p) refl h.0.1) (asks-same ps h.1)

    asks-are : asks_unchanged dig site.deeds.table (built site) entry ≡ true
    asks-are =
        let lay = shape_of site in
        let laws = laws-of site s in
        let below = recursion_from_All (λ p. p < pairs lay) (asks_of log) (laws.within i (built site) lt) in
        let known = recursion_from_All (λ p. is_some (built site p) ≡ true) (asks_of log) (asked-known lay (clean_run site) no_seeds s.shape laws (no-seeds lay) i (built site) lt (ap is_wait ends)) in
        let asked : asked_views entry.marks ≡ map (ask_view dig site.deeds.table (built site)) (firsts [] (asks_of log)) =
        views-append marks (view (save last) ∷ []) ∙ (append-nil (asked_views marks) ∙ (views-asked (trace_of [] [] log) ∙ ap (map (ask_view dig site.deeds.table (built site))) (trace-asks [] [] log))) in
        ap (list_all (is_unchanged dig site.deeds.table (built site))) asked ∙ asks-same (firsts [] (asks_of log)) (firsts-all IsThere [] (asks_of log) (there (asks_of log) below known))

    still-kept : is_kept dig site (image dig site) i ≡ true
    still-kept =
        ap (λ k. kept_among dig (items_of site) k (image dig site) i) (rebuilt-same dig site site s s self-apart.apart self-apart.told)
        ∙ (kept-if_unchanged dig (items_of site) (image dig site) (built site) i entry lt entry-there (image-formed dig site s (site.deeds.id i) entry entry-there).last is-own ∙ asks-are)

  -- an item that is done is kept when the same plan is built again
  pub done-kept : UsesItsOwn site → (i : ℕ) → i < (shape_of site).items → is_finished (endings site i) ≡ true → is_kept dig site (image dig site) i ≡ true
  unfolding status
  done-kept own i lt t = at (clean_run site i (built site)).end refl t
    where
      at : (e : End Page) → (clean_run site i (built site)).end ≡ e
          → is_finished (ends_with (whole_log (shape_of site) i (clean_run site i (built site))) e) ≡ true → is_kept dig site (image dig site) i ≡ true
      at (done x) w h = still-kept own i lt x w
      at (fault e) w h = cc
      at (waits ps) w h = cc
