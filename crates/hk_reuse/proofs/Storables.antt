-- The entries that a build leaves are those of a store, and these are well formed.
use Rattle.std.proofs.Common.{◌≡◌, ◌≢◌, refl, sym, ap, ◌∙◌, subst, arith, ℕ, zero, suc, ◌<◌, Bool, true, false, cond, List, [], ◌∷◌, ◌++◌, map, Option, Some, None, nat_eq, bytes_eq, eq-eqb}
use Rattle.std.specs.Prelude.{filter_map}
use Rattle.std.specs.List.{AllByRecursion, IsDistinct, cons_option}
use Rattle.std.specs.Ordering.{eq_by_cmp}
use Rattle.std.specs.List.Sorted.{IsStrictlySortedBy}
use Rattle.std.specs.declared.cmp.Ordering.TheVariants.{Less}
use Rattle.std.proofs.lemmas.List.{length-map, map-append}
use Rattle.hk_base.specs.Bytes.{Bytes}
use Rattle.hk_base.specs.Identifier.{ident_cmp}
use Rattle.hk_base.specs.Ties.{bytes-same}
use Rattle.hk_chain.specs.Facts.{FactsView, TraceMark, group, save}
use Rattle.hk_chain.specs.Layout.{pairs, item_of, final_of}
use Rattle.hk_chain.specs.Snapshots.{Ascending, AreSnapshots}
use Rattle.hk_chain.specs.Traces.{asked_in, saved_in, HasPair, AreFacts}
use Rattle.hk_fix.specs.Fix.{Ending, finished, faulted, waiting}
use Rattle.hk_fix.specs.Pages.{Pages}
use Rattle.hk_fix.specs.Report.{upto}
use Rattle.hk_fix.specs.Table.{Key, same_key}
use Rattle.hk_fix.proofs.Orders.{clash}
use Rattle.hk_store.specs.Digests.{Digests}
use Rattle.hk_store.specs.Entry.{MatchView, MarkView, asked, stored, EntryView}
use Rattle.hk_store.specs.Stored.{is_page_name, keys_of_asks, asked_keys, saved_names, IsMark, IsEntry, ids_of, IsStored}
use Rattle.hk_reuse.specs.Entries.{entries_in, AskOnce, LastSaves, IsFormed, AreFormed}
use Rattle.hk_reuse.specs.Image.{page_at, match_view, ask_view, mark_view, entry_with, entry_by, entry_list}
use Rattle.hk_reuse.specs.Site.{Items}
use Rattle.hk_chain.specs.Names.{final_name}
use Rattle.hk_reuse.specs.Storable.{AreStorable}
use Rattle.hk_reuse.proofs.Images.{last-saves, keys-differ}
use Rattle.hk_reuse.proofs.Lists.{all-front, all-back, all-append}
use Rattle.hk_reuse.proofs.Listings.{upto-below}

-- ascending numbers
ascending-more : (ps : List ℕ) (n : ℕ) → Ascending ps → AllByRecursion (λ q. q < n) ps → Ascending (ps ++ n ∷ [])
ascending-more [] n a h = (tt, tt)
ascending-more (p ∷ ps) n a h = (all-append (λ q. p < q) ps (n ∷ []) a.0 (h.0, tt), ascending-more ps n a.1 h.1)

upto-ascends : (n : ℕ) → Ascending (upto n)
upto-ascends zero = tt
upto-ascends (suc n) = ascending-more (upto n) n (upto-ascends n) (upto-below n n (omega arith))

distinct-with : (ps : List ℕ) (last : ℕ) → Ascending ps → AllByRecursion (λ p. p ≢ last) ps → IsDistinct nat_eq (ps ++ last ∷ [])
unfolding IsDistinct
distinct-with [] last a h = (tt, tt)
distinct-with (p ∷ ps) last a h = (others ps a.0, distinct-with ps last a.1 h.1)
  where
    others : (qs : List ℕ) → AllByRecursion (λ q. p < q) qs → AllByRecursion (λ q. nat_eq p q ≡ false) (qs ++ last ∷ [])
    others [] w = (grind (arith, h.0), tt)
    others (q ∷ qs) w = (grind (arith, w.0), others qs w.1)

all-weaker : (P Q : ℕ → Type 0) → ((p : ℕ) → P p → Q p) → (ps : List ℕ) → AllByRecursion P ps → AllByRecursion Q ps
all-weaker P Q f [] h = tt
all-weaker P Q f (p ∷ ps) h = (f p h.0, all-weaker P Q f ps h.1)

module _ (dig : Digests) (items : Items) (are : AreStorable items) (k : Pages) where
  abbrev IsPair : ℕ → Type 0
  IsPair p = p < pairs items.table.layout

  abbrev view : TraceMark → MarkView
  view = mark_view dig items.table k

  abbrev name_of : ℕ → Bytes
  name_of p = (items.table.key p).name

  matches-sorted : (ns : List ℕ) → AllByRecursion (λ (m : MatchView). IsStrictlySortedBy ident_cmp m.matches) (map (match_view items.table) ns)
  matches-sorted [] = tt
  matches-sorted (n ∷ ns) = (are.matches (items.table.pattern n), matches-sorted ns)

  -- marks
  asks-named : (ps : List ℕ) → AllByRecursion IsPair ps → AllByRecursion (λ v. is_page_name v.key.name ≡ true) (map (ask_view dig items.table k) ps)
  asks-named [] h = tt
  asks-named (p ∷ ps) h = (are.names p h.0, asks-named ps h.1)

  marks-are : (trace : List TraceMark) → AllByRecursion HasPair trace → AllByRecursion IsPair (asked_in trace) → AllByRecursion IsPair (saved_in trace) → AllByRecursion IsMark (map view trace)
  marks-are [] g a s = tt
  marks-are (group ps ∷ trace) g a s =
      ((subst (λ (n : ℕ). 0 < n) (sym (length-map ps (ask_view dig items.table k))) g.0, asks-named ps (all-front IsPair ps (asked_in trace) a)), marks-are trace g.1 (all-back IsPair ps (asked_in trace) a) s)
  marks-are (save p ∷ trace) g a s = (are.names p s.0, marks-are trace g.1 a s.1)

  -- keys
  keys-of_views : (ps : List ℕ) → map (λ v. v.key) (map (ask_view dig items.table k) ps) ≡ map items.table.key ps
  keys-of_views [] = refl
  keys-of_views (p ∷ ps) = ap (λ l. items.table.key p ∷ l) (keys-of_views ps)

  keys-asked : (trace : List TraceMark) → asked_keys (map view trace) ≡ map (λ v. v.key) (map (ask_view dig items.table k) (asked_in trace))
  keys-asked [] = refl
  keys-asked (group ps ∷ trace) =
      ap (λ l. map (λ v. v.key) (map (ask_view dig items.table k) ps) ++ l) (keys-asked trace)
      ∙ (sym (map-append (λ v. v.key) (map (ask_view dig items.table k) ps) (map (ask_view dig items.table k) (asked_in trace)))
      ∙ ap (map (λ v. v.key)) (sym (map-append (ask_view dig items.table k) ps (asked_in trace))))
  keys-asked (save p ∷ trace) = keys-asked trace

  -- names
  names-saved : (trace : List TraceMark) → saved_names (map view trace) ≡ map name_of (saved_in trace)
  names-saved [] = refl
  names-saved (group ps ∷ trace) = names-saved trace
  names-saved (save p ∷ trace) = ap (λ l. name_of p ∷ l) (names-saved trace)

  module _ (i : ℕ) (lt : i < items.table.layout.items) where
    abbrev IsItsPair : ℕ → Type 0
    IsItsPair p = IsPair p × (item_of items.table.layout p ≡ i)

    names-differ : (ps : List ℕ) → AllByRecursion IsItsPair ps → IsDistinct nat_eq ps → IsDistinct bytes_eq (map name_of ps)
    unfolding IsDistinct
    names-differ [] h d = tt
    names-differ (p ∷ ps) h d = (each ps h.1 d.0, names-differ ps h.1 d.1)
      where
        other : (q : ℕ) → IsItsPair q → nat_eq p q ≡ false → (b : Bool) → bytes_eq (name_of p) (name_of q) ≡ b → b ≡ false
        other q w f false e = refl
        other q w f true e =
            let id : (items.table.key p).id ≡ (items.table.key q).id = are.owners p h.0.0 ∙ (ap items.id (h.0.1 ∙ sym w.1) ∙ sym (are.owners q w.0)) in
            let name : name_of p ≡ name_of q = bytes-same (name_of p) (name_of q) e in
            let key : items.table.key p ≡ items.table.key q = ap (λ x. record { id = x; name = name_of p }) id ∙ ap (λ x. record { id = (items.table.key q).id; name = x }) name in
            let both : Some p ≡ Some q = sym (are.numbers.table.placed p h.0.0) ∙ (ap items.table.pair key ∙ are.numbers.table.placed q w.0) in
            let one : p ≡ q = cc in
            clash (nat_eq p q) f (eq-eqb p q one)

        each : (qs : List ℕ) → AllByRecursion IsItsPair qs → AllByRecursion (λ q. nat_eq p q ≡ false) qs → AllByRecursion (λ name. bytes_eq (name_of p) name ≡ false) (map name_of qs)
        each [] a b = tt
        each (q ∷ qs) a b = (other q a.0 b.0 (bytes_eq (name_of p) (name_of q)) refl, each qs a.1 b.1)

    entry-stored : (f : FactsView) (ends : ℕ → Ending) → AreFacts items.table.layout i f → IsEntry (entry_with dig items ends k i f)
    entry-stored f ends facts =
        let lay = items.table.layout in
        let last = final_of lay i in
        let way = facts.saved.0 in
        let ways : AreSnapshots lay i way = facts.saved.1 in
        let saves : saved_in f.trace ≡ way ++ last ∷ [] = facts.saved.2 in
        let final : IsItsPair last = (are.shape.in_pairs i lt, are.shape.own_final i lt) in
        let own : AllByRecursion IsItsPair (way ++ last ∷ []) =
        all-append IsItsPair way (last ∷ []) (all-weaker (λ p. (p < pairs lay) × (item_of lay p ≡ i) × (p ≢ last)) IsItsPair (λ p h. (h.0, h.1)) way ways.own) (final, tt) in
        let differ : IsDistinct nat_eq (way ++ last ∷ []) = distinct-with way last ways.rising (all-weaker (λ p. (p < pairs lay) × (item_of lay p ≡ i) × (p ≢ last)) (λ p. p ≢ last) (λ p h. h.2) way ways.own) in
        let asked : AllByRecursion IsPair (asked_in f.trace) = subst (AllByRecursion IsPair) (sym facts.asked) facts.within in
        let saved : AllByRecursion IsPair (saved_in f.trace) = subst (AllByRecursion IsPair) (sym saves) (all-weaker IsItsPair IsPair (λ p h. h.0) (way ++ last ∷ []) own) in
        record {
          patterns = matches-sorted f.patterns;
          marks = marks-are f.trace facts.groups asked saved;
          asks = subst (IsDistinct same_key) (sym (keys-asked f.trace)) (keys-differ dig items are.numbers.table k (asked_in f.trace) asked (subst (IsDistinct nat_eq) (sym facts.asked) facts.once));
          saves = subst (IsDistinct bytes_eq) (sym (names-saved f.trace ∙ ap (map name_of) saves)) (names-differ (way ++ last ∷ []) own differ);
          last = (map view facts.last.0, page_at k last, ap (map view) facts.last.1 ∙ (map-append view facts.last.0 (save last ∷ []) ∙ ap (λ name. map view facts.last.0 ++ stored name (page_at k last) ∷ []) (are.finals i lt)));
        }

  module _ (ends : ℕ → Ending) (facts : (i : ℕ) (f : FactsView) → i < items.table.layout.items → ends i ≡ finished f → AreFacts items.table.layout i f) where
    abbrev entry_of : ℕ → Option EntryView
    entry_of i = entry_by dig items ends k i (ends i)

    abbrev IsItem : ℕ → Type 0
    IsItem i = i < items.table.layout.items

    own-id : (i : ℕ) (v : Ending) (e : EntryView) → entry_by dig items ends k i v ≡ Some e → e.id ≡ items.id i
    own-id i (finished f) e h = cc
    own-id i (faulted fault) e h = cc
    own-id i (waiting ps) e h = cc

    own-entry : (i : ℕ) → IsItem i → (v : Ending) → ends i ≡ v → (e : EntryView) → entry_by dig items ends k i v ≡ Some e → IsEntry e
    own-entry i lt (finished f) w e h = let same : entry_with dig items ends k i f ≡ e = cc in subst IsEntry same (entry-stored i lt f ends (facts i f lt w))
    own-entry i lt (faulted fault) w e h = cc
    own-entry i lt (waiting ps) w e h = cc

    each-stored : (is : List ℕ) → AllByRecursion IsItem is → AllByRecursion IsEntry (filter_map entry_of is)
    each-stored [] h = tt
    each-stored (i ∷ is) h = at (entry_of i) refl (each-stored is h.1)
      where
        at : (o : Option EntryView) → entry_of i ≡ o → AllByRecursion IsEntry (filter_map entry_of is) → AllByRecursion IsEntry (cons_option o (filter_map entry_of is))
        at None w rec = rec
        at (Some e) w rec = (own-entry i h.0 (ends i) refl e w, rec)

    ids-later : (i : ℕ) (is : List ℕ) → AllByRecursion IsItem is → AllByRecursion (λ j. i < j) is → AllByRecursion (λ id. ident_cmp (items.id i) id ≡ Less) (ids_of (filter_map entry_of is))
    ids-later i [] h a = tt
    ids-later i (j ∷ is) h a = at (entry_of j) refl (ids-later i is h.1 a.1)
      where
        at : (o : Option EntryView) → entry_of j ≡ o → AllByRecursion (λ id. ident_cmp (items.id i) id ≡ Less) (ids_of (filter_map entry_of is))
            → AllByRecursion (λ id. ident_cmp (items.id i) id ≡ Less) (ids_of (cons_option o (filter_map entry_of is)))
        at None w rec = rec
        at (Some e) w rec = (ap (ident_cmp (items.id i)) (own-id j (ends j) e w) ∙ are.ascend i j a.0 h.0, rec)

    ids-sorted : (is : List ℕ) → AllByRecursion IsItem is → Ascending is → IsStrictlySortedBy ident_cmp (ids_of (filter_map entry_of is))
    unfolding IsStrictlySortedBy
    ids-sorted [] h a = tt
    ids-sorted (i ∷ is) h a = at (entry_of i) refl (ids-sorted is h.1 a.1)
      where
        at : (o : Option EntryView) → entry_of i ≡ o → IsStrictlySortedBy ident_cmp (ids_of (filter_map entry_of is)) → IsStrictlySortedBy ident_cmp (ids_of (cons_option o (filter_map entry_of is)))
        at None w rec = rec
        at (Some e) w rec = (subst (λ id. AllByRecursion (λ other. ident_cmp id other ≡ Less) (ids_of (filter_map entry_of is))) (sym (own-id i (ends i) e w)) (ids-later i is h.1 a.0), rec)

    pub list-stored : IsStored (entry_list dig items ends k)
    list-stored =
        let n = items.table.layout.items in
        let below : AllByRecursion IsItem (upto n) = upto-below n n (omega arith) in
        record { order = ids-sorted (upto n) below (upto-ascends n); each = each-stored (upto n) below }

-- ---- and a store's entries are well formed

key-front : (a b : List Key) → IsDistinct same_key (a ++ b) → IsDistinct same_key a
unfolding IsDistinct
key-front [] b d = tt
key-front (key ∷ a) b d = (others a d.0, key-front a b d.1)
  where
    others : (qs : List Key) → AllByRecursion (λ q. same_key key q ≡ false) (qs ++ b) → AllByRecursion (λ q. same_key key q ≡ false) qs
    others [] h = tt
    others (q ∷ qs) h = (h.0, others qs h.1)

key-back : (a b : List Key) → IsDistinct same_key (a ++ b) → IsDistinct same_key b
unfolding IsDistinct
key-back [] b d = d
key-back (key ∷ a) b d = key-back a b d.1

groups-once : (marks : List MarkView) → IsDistinct same_key (asked_keys marks) → AskOnce marks
groups-once [] d = tt
groups-once (asked views ∷ marks) d = (key-front (keys_of_asks views) (asked_keys marks) d, groups-once marks (key-back (keys_of_asks views) (asked_keys marks) d))
groups-once (stored name page ∷ marks) d = groups-once marks d

entry-formed : (e : EntryView) → IsEntry e → IsFormed e
entry-formed e is = record { once = groups-once e.marks is.asks; last = subst LastSaves (sym is.last.2) (last-saves is.last.0 (stored final_name is.last.1) tt) }

pub stored-formed : (entries : List EntryView) → IsStored entries → AreFormed (entries_in entries)
stored-formed entries is id e = among entries is.each
  where
    first : (b : Bool) (x : EntryView) (xs : List EntryView) → IsEntry x → (entries_in xs id ≡ Some e → IsFormed e) → cond b (Some x) (entries_in xs id) ≡ Some e → IsFormed e
    first true x xs h rec w = let same : x ≡ e = cc in subst IsFormed same (entry-formed x h)
    first false x xs h rec w = rec w

    among : (xs : List EntryView) → AllByRecursion IsEntry xs → entries_in xs id ≡ Some e → IsFormed e
    among [] h w = cc
    among (x ∷ xs) h w = first (eq_by_cmp ident_cmp id x.id) x xs h.0 (λ v. among xs h.1 v) w
