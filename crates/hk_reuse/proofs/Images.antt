-- The entries that a build leaves are as a store's entries are.
use Rattle.std.proofs.Common.{◌≡◌, refl, sym, ap, ◌∙◌, subst, ℕ, ◌<◌, Bool, true, false, List, [], ◌∷◌, ◌++◌, map, Option, Some, None, nat_eq, eq-eqb}
use Rattle.std.specs.List.{AllByRecursion, IsDistinct}
use Rattle.std.proofs.lemmas.List.{map-append}
use Rattle.hk_chain.specs.Facts.{FactsView, TraceMark, group, save}
use Rattle.hk_chain.specs.declared.page.Page.{Page}
use Rattle.hk_chain.specs.Layout.{Shape, pairs, final_of}
use Rattle.hk_chain.specs.Traces.{asked_in, AreFacts}
use Rattle.hk_fix.specs.Pages.{Pages}
use Rattle.hk_fix.specs.Run.{patterns_of}
use Rattle.hk_fix.specs.Task.{done, Run}
use Rattle.hk_fix.specs.Facts.{facts_of, final_mark, whole_log}
use Rattle.hk_fix.specs.Fix.{IsSetting, Ending, finished, faulted, waiting, fix, status}
use Rattle.hk_fix.specs.Table.{same_key, IsTable}
use Rattle.hk_fix.proofs.Firsts.{firsts-all}
use Rattle.hk_fix.proofs.Orders.{clash}
use Rattle.hk_fix.proofs.Traces.{went-through, status-facts}
use Rattle.hk_store.specs.Digests.{Digests}
use Rattle.hk_store.specs.Entry.{MarkView}
use Rattle.hk_reuse.specs.Builds.{left}
use Rattle.hk_reuse.specs.Entries.{Entries, AskOnce, IsSave, LastSaves, IsFormed, AreFormed}
use Rattle.hk_reuse.specs.Image.{ask_view, mark_view, entry_with, entry_by, entry_at, entries_of, image}
use Rattle.hk_reuse.specs.Site.{Items, AreItems, Site, items_of, shape_of, clean_run, no_seeds, built, endings, IsSite}
use Rattle.hk_reuse.specs.Rebuilt.{rebuilt, reendings, replay_run}
use Rattle.hk_reuse.proofs.Laws.{replay-laws}
use Rattle.hk_reuse.proofs.Lists.{all-front, all-back}
use Rattle.hk_reuse.proofs.Sites.{no-seeds, laws-of, patterns-done}
use Rattle.hk_reuse.proofs.Tests.{keys-same}

-- parts of lists without repeats
distinct-front : (a b : List ℕ) → IsDistinct nat_eq (a ++ b) → IsDistinct nat_eq a
unfolding IsDistinct
distinct-front [] b d = tt
distinct-front (p ∷ a) b d = (all-front (λ q. nat_eq p q ≡ false) a b d.0, distinct-front a b d.1)

distinct-back : (a b : List ℕ) → IsDistinct nat_eq (a ++ b) → IsDistinct nat_eq b
unfolding IsDistinct
distinct-back [] b d = d
distinct-back (p ∷ a) b d = distinct-back a b d.1

pub last-saves : (views : List MarkView) (view : MarkView) → IsSave view → LastSaves (views ++ view ∷ [])
last-saves [] view s = s
last-saves (a ∷ []) view s = s
last-saves (a ∷ b ∷ views) view s = last-saves (b ∷ views) view s

module _ (dig : Digests) (items : Items) (laws : IsTable items.table) (k : Pages) where
  abbrev IsPair : ℕ → Type 0
  IsPair p = p < pairs items.table.layout

  abbrev view_of : TraceMark → MarkView
  view_of = mark_view dig items.table k

  pub keys-differ : (ps : List ℕ) → AllByRecursion IsPair ps → IsDistinct nat_eq ps → IsDistinct same_key (map (λ v. v.key) (map (ask_view dig items.table k) ps))
  unfolding IsDistinct
  keys-differ [] h d = tt
  keys-differ (p ∷ ps) h d = (each ps h.1 d.0, keys-differ ps h.1 d.1)
    where
      other : (q : ℕ) → IsPair q → nat_eq p q ≡ false → (b : Bool) → same_key (items.table.key p) (items.table.key q) ≡ b → b ≡ false
      other q w f false e = refl
      other q w f true e =
          let same : items.table.key p ≡ items.table.key q = keys-same (items.table.key p) (items.table.key q) e in
          let both : Some p ≡ Some q = sym (laws.placed p h.0) ∙ (ap items.table.pair same ∙ laws.placed q w) in
          let one : p ≡ q = cc in
          clash (nat_eq p q) f (eq-eqb p q one)

      each : (qs : List ℕ) → AllByRecursion IsPair qs → AllByRecursion (λ q. nat_eq p q ≡ false) qs
          → AllByRecursion (λ key. same_key (items.table.key p) key ≡ false) (map (λ v. v.key) (map (ask_view dig items.table k) qs))
      each [] a b = tt
      each (q ∷ qs) a b = (other q a.0 b.0 (same_key (items.table.key p) (items.table.key q)) refl, each qs a.1 b.1)

  -- the groups of a trace that asks for no pair twice
  views-once : (trace : List TraceMark) → AllByRecursion IsPair (asked_in trace) → IsDistinct nat_eq (asked_in trace) → AskOnce (map view_of trace)
  views-once [] h d = tt
  views-once (group ps ∷ trace) h d =
      (keys-differ ps (all-front IsPair ps (asked_in trace) h) (distinct-front ps (asked_in trace) d), views-once trace (all-back IsPair ps (asked_in trace) h) (distinct-back ps (asked_in trace) d))
  views-once (save p ∷ trace) h d = views-once trace h d

  entry-formed : (i : ℕ) (f : FactsView) (ends : ℕ → Ending) → AreFacts items.table.layout i f → IsFormed (entry_with dig items ends k i f)
  entry-formed i f ends are =
      record {
        once = views-once f.trace (subst (AllByRecursion IsPair) (sym are.asked) are.within) (subst (IsDistinct nat_eq) (sym are.asked) are.once);
        last = subst LastSaves (sym (ap (map view_of) are.last.1 ∙ map-append view_of are.last.0 (save _ ∷ []))) (last-saves (map view_of are.last.0) (view_of (save _)) tt);
      }

module _ (dig : Digests) (items : Items) (are : AreItems items) (ends : ℕ → Ending) (k : Pages) where
  -- where the facts of done items are those of runs that went through
  pub entries-formed : ((i : ℕ) (f : FactsView) → i < items.table.layout.items → ends i ≡ finished f → AreFacts items.table.layout i f) → AreFormed (entries_of dig items ends k)
  entries-formed facts id e = at (items.table.find id) refl
    where
      ended : (i : ℕ) → i < items.table.layout.items → (v : Ending) → ends i ≡ v → entry_by dig items ends k i v ≡ Some e → IsFormed e
      ended i lt (finished f) w h = let same : entry_with dig items ends k i f ≡ e = cc in subst IsFormed same (entry-formed dig items are.table k i f ends (facts i f lt w))
      ended i lt (faulted fault) w h = cc
      ended i lt (waiting ps) w h = cc

      at : (o : Option ℕ) → items.table.find id ≡ o → entry_at dig items ends k o ≡ Some e → IsFormed e
      at None w h = cc
      at (Some i) w h = ended i (are.found id i w).0 (ends i) refl h

pub site-items : (site : Site) → IsSite site → AreItems (items_of site)
site-items site s = record { table = s.proper.table; in_order = s.proper.in_order; found = s.proper.found; numbered = s.numbered }

pub image-formed : (dig : Digests) (site : Site) → IsSite site → AreFormed (image dig site)
image-formed dig site s =
    entries-formed dig (items_of site) (site-items site s) (endings site) (built site)
    (λ i f lt e. status-facts (shape_of site) (clean_run site) no_seeds (record { shape = s.shape; laws = laws-of site s; sown = no-seeds (shape_of site) }) (λ j g lt w. cc) i f lt e)

-- whatever well-formed entries a build was over
pub left-formed : (dig : Digests) (site : Site) (entries : Entries) → IsSite site → AreFormed entries → AreFormed (left dig site entries)
left-formed dig site entries s formed =
    entries-formed dig (items_of site) (site-items site s) (reendings dig site entries) (rebuilt dig site entries)
    (λ i f lt e. status-facts (shape_of site) (replay_run dig site entries) no_seeds (record { shape = s.shape; laws = replay-laws dig site s entries formed; sown = no-seeds (shape_of site) }) (λ j g lt w. cc) i f lt e)

-- where the runs use patterns below a limit, so do the facts of done items
pub facts-below : (lay : Shape) (run : ℕ → Pages → Run Page) (limit : ℕ) → IsSetting lay run no_seeds
    → ((i : ℕ) (k : Pages) → i < lay.items → AllByRecursion (λ n. n < limit) (patterns_of (run i k).log))
    → (i : ℕ) (f : FactsView) → i < lay.items → status lay run no_seeds i ≡ finished f → AllByRecursion (λ n. n < limit) f.patterns
facts-below lay run limit given below i f lt e =
    let r = run i (fix lay run no_seeds) in
    let w : (x : Page) × (r.end ≡ done x) × (f ≡ facts_of (whole_log lay i r)) = went-through lay run no_seeds given i f refl e in
    let used : patterns_of (whole_log lay i r) ≡ patterns_of r.log = ap (λ v. patterns_of (r.log ++ final_mark (final_of lay i) v)) w.1 ∙ patterns-done r.log (final_of lay i) w.0 in
    subst (λ (g : FactsView). AllByRecursion (λ n. n < limit) g.patterns) (sym w.2)
    (firsts-all (λ n. n < limit) [] (patterns_of (whole_log lay i r)) (subst (AllByRecursion (λ n. n < limit)) (sym used) (below i (fix lay run no_seeds) lt)))
