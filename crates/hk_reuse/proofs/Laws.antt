-- The replay keeps the laws of a family of compilers, whatever entries there are.
use Rattle.std.proofs.Common.{◌≡◌, refl, sym, ap, ◌∙◌, subst, ℕ, ◌<◌, Bool, true, false, cond, ◌||◌, ◌&&◌, List, [], ◌∷◌, ◌++◌, map, append-nil, append_assoc, Option, Some, None, is_some, nat_eq, nat_lt, bytes_eq, eqb-true, ltb-true}
use Rattle.std.specs.List.{AllByRecursion, IsDistinct, list_all}
use Rattle.std.specs.Ordering.{eq_by_cmp}
use Rattle.std.specs.Cmp.Lexicographic.{pointwise}
use Rattle.hk_base.specs.Bytes.{Bytes}
use Rattle.hk_base.specs.Identifier.{Ident, ident_cmp}
use Rattle.hk_base.specs.Ties.{bytes-same}
use Rattle.hk_chain.specs.declared.page.Page.{Page}
use Rattle.hk_chain.specs.Layout.{Shape, pairs}
use Rattle.hk_chain.specs.Snapshots.{Ascending}
use Rattle.hk_fix.specs.Task.{Task, gives, fails, asks, notes, ◌▷◌, used, saved}
use Rattle.hk_fix.specs.Run.{IsRun}
use Rattle.hk_fix.specs.Facts.{is_in}
use Rattle.hk_fix.specs.Chains.{AllGroups, Saves, AreChains}
use Rattle.hk_fix.specs.ChainLaws.{chains-run}
use Rattle.hk_fix.proofs.Orders.{clash}
use Rattle.hk_fix.proofs.Trails.{in-append}
use Rattle.hk_fix.specs.Table.{Table, IsTable, same_key}
use Rattle.hk_fix.specs.DeedLaws.{key-same, deeds-chains}
use Rattle.hk_fix.specs.Deeds.{pair_or, on_way, task_of}
use Rattle.hk_fix.proofs.Firsts.{SameMembers}
use Rattle.hk_store.specs.Digests.{Digests}
use Rattle.hk_store.specs.Entry.{AskView, MatchView, MarkView, asked as recorded, stored, EntryView}
use Rattle.hk_reuse.specs.Entries.{Entries, front, last_page, saved_names, AskOnce, LastSaves, IsFormed, AreFormed}
use Rattle.hk_reuse.specs.Fits.{ask_fits, mark_fits, pattern_fits, fits}
use Rattle.hk_reuse.specs.Replay.{Attempt, through, broke, same_pages, asked_pairs, pattern_numbers, without, note_all, finish, attempt, attempt_of, replay_by}
use Rattle.hk_reuse.specs.Rebuilt.{replay_of, replay, replay_run}
use Rattle.hk_reuse.specs.Site.{pair_named, Items, own_pairs, Site, items_of, shape_of, IsSite}
use Rattle.hk_chain.specs.Names.{final_name}
use Rattle.hk_reuse.proofs.Lists.{all-in-left}
use Rattle.hk_reuse.proofs.Finishes.{apart-rest, all-moved}
use Rattle.hk_reuse.proofs.Tests.{and-both, list-same, some-or}

module _ {A B : Type 0} (P : List ℕ → Type 0) where
  pub groups-then : (t : Task A) (f : A → Task B) → AllGroups P t → ((y : A) → AllGroups P (f y)) → AllGroups P (t ▷ f)
  groups-then (gives y) f g h = h y
  groups-then (fails e) f g h = tt
  groups-then (asks ps t) f g h = (g.0, λ xs. groups-then (t xs) f (g.1 xs) h)
  groups-then (notes n t) f g h = groups-then t f g h

module _ {A : Type 0} (P : List ℕ → Type 0) where
  groups-without : (kept : List ℕ) (t : Task A) → AllGroups P t → AllGroups P (without kept t)
  groups-without kept (gives y) g = tt
  groups-without kept (fails e) g = tt
  groups-without kept (asks ps t) g = (g.0, λ xs. groups-without kept (t xs) (g.1 xs))
  groups-without kept (notes (used n) t) g = groups-without kept t g
  groups-without kept (notes (saved p x) t) g =
      elim (is_in kept p) as (λ b. AllGroups P (cond b (without kept t) (notes (saved p x) (without kept t)))) [
        | true ↦ groups-without kept t g
        | false ↦ groups-without kept t g
      ]

  groups-noted : (ns : List ℕ) (t : Task A) → AllGroups P t → AllGroups P (note_all ns t)
  groups-noted [] t g = g
  groups-noted (n ∷ ns) t g = groups-noted ns t g

  groups-if : (b : Bool) (s t : Task A) → AllGroups P s → AllGroups P t → AllGroups P (cond b s t)
  groups-if true s t g h = g
  groups-if false s t g h = h

module _ (P : List ℕ → Type 0) where
  finish-groups : (whole : Task Page) (ns : List ℕ) → AllGroups P whole → (y : Attempt) → AllGroups P (finish whole ns y)
  finish-groups whole ns g (through x) = groups-noted P ns (gives x) tt
  finish-groups whole ns g (broke kept) = groups-without P kept whole g

-- P holds of each group of these marks
abbrev GroupsBy : (List ℕ → Type 0) → Table → List MarkView → Type 0
GroupsBy P table [] = Unit {0}
GroupsBy P table (recorded rs ∷ marks) = P (asked_pairs table rs) × GroupsBy P table marks
GroupsBy P table (stored name page ∷ marks) = GroupsBy P table marks

module _ (P : List ℕ → Type 0) (dig : Digests) (table : Table) (own : Ident) (x : Page) where
  pub attempt-groups : (marks : List MarkView) (kept : List ℕ) → GroupsBy P table marks → AllGroups P (attempt dig table own x kept marks)
  attempt-groups [] kept g = tt
  attempt-groups (recorded rs ∷ marks) kept g = (g.0, λ xs. groups-if P (same_pages dig xs rs) (attempt dig table own x kept marks) (gives (broke kept)) (attempt-groups marks kept g.1) tt)
  attempt-groups (stored name page ∷ marks) kept g = attempt-groups marks (pair_named table own name ∷ kept) g

-- the groups of an entry that fits
module _ (dig : Digests) (table : Table) (laws : IsTable table) where
  found : (r : AskView) → ask_fits dig table r ≡ true → table.pair r.key ≡ Some (pair_or table r.key)
  found r t = some-or (table.pair r.key) (and-both (is_some (table.pair r.key)) (bytes_eq (dig.traits (table.traits r.key.id)) r.traits) t).0

  within-asked : (rs : List AskView) → list_all (ask_fits dig table) rs ≡ true → AllByRecursion (λ p. p < pairs table.layout) (asked_pairs table rs)
  within-asked [] t = tt
  within-asked (r ∷ rs) t =
      let w = and-both (ask_fits dig table r) (list_all (ask_fits dig table) rs) t in
      (laws.within r.key (pair_or table r.key) (found r w.0), within-asked rs w.1)

  differs : (a b : AskView) → ask_fits dig table a ≡ true → ask_fits dig table b ≡ true → same_key a.key b.key ≡ false → nat_eq (pair_or table a.key) (pair_or table b.key) ≡ false
  differs a b f g ne = at (nat_eq (pair_or table a.key) (pair_or table b.key)) refl
    where
      at : (c : Bool) → nat_eq (pair_or table a.key) (pair_or table b.key) ≡ c → c ≡ false
      at false e = refl
      at true e =
          let n : pair_or table a.key ≡ pair_or table b.key = eqb-true (pair_or table a.key) (pair_or table b.key) e in
          let k : a.key ≡ b.key = sym (laws.keyed a.key (pair_or table a.key) (found a f)) ∙ (ap table.key n ∙ laws.keyed b.key (pair_or table b.key) (found b g)) in
          clash (same_key a.key b.key) ne (ap (same_key a.key) (sym k) ∙ key-same a.key)

  once-asked : (rs : List AskView) → IsDistinct same_key (map (λ r. r.key) rs) → list_all (ask_fits dig table) rs ≡ true → IsDistinct nat_eq (asked_pairs table rs)
  unfolding IsDistinct
  once-asked [] d t = tt
  once-asked (r ∷ rs) d t =
      let w = and-both (ask_fits dig table r) (list_all (ask_fits dig table) rs) t in
      (each rs d.0 w.1 w.0, once-asked rs d.1 w.1)
    where
      each : (qs : List AskView) → AllByRecursion (λ k. same_key r.key k ≡ false) (map (λ q. q.key) qs) → list_all (ask_fits dig table) qs ≡ true
          → ask_fits dig table r ≡ true → AllByRecursion (λ p. nat_eq (pair_or table r.key) p ≡ false) (asked_pairs table qs)
      each [] a v f = tt
      each (q ∷ qs) a v f =
          let u = and-both (ask_fits dig table q) (list_all (ask_fits dig table) qs) v in
          (differs r q f u.0 a.0, each qs a.1 u.1 f)

  pub groups-once : (marks : List MarkView) → AskOnce marks → list_all (mark_fits dig table) marks ≡ true → GroupsBy (IsDistinct nat_eq) table marks
  groups-once [] o t = tt
  groups-once (recorded rs ∷ marks) o t = let w = and-both (list_all (ask_fits dig table) rs) (list_all (mark_fits dig table) marks) t in (once-asked rs o.0 w.0, groups-once marks o.1 w.1)
  groups-once (stored name page ∷ marks) o t = groups-once marks o t

  pub groups-within : (marks : List MarkView) → list_all (mark_fits dig table) marks ≡ true → GroupsBy (AllByRecursion (λ p. p < pairs table.layout)) table marks
  groups-within [] t = tt
  groups-within (recorded rs ∷ marks) t = let w = and-both (list_all (ask_fits dig table) rs) (list_all (mark_fits dig table) marks) t in (within-asked rs w.0, groups-within marks w.1)
  groups-within (stored name page ∷ marks) t = groups-within marks t

-- the saves
module _ {A : Type 0} where
  noted-saves : (ps ns : List ℕ) (t : Task A) → Saves ps t → Saves ps (note_all ns t)
  noted-saves ps [] t h = h
  noted-saves ps (n ∷ ns) t h = noted-saves ps ns t h

  -- without the first pairs, the rest is saved
  without-saves : (kept first rest : List ℕ) (t : Task A) → Saves (first ++ rest) t → AllByRecursion (λ p. is_in kept p ≡ true) first
      → AllByRecursion (λ p. is_in kept p ≡ false) rest → Saves rest (without kept t)
  without-saves kept [] rest (gives y) h a b = h
  without-saves kept (p ∷ first) rest (gives y) h a b = absurd h
  without-saves kept first rest (fails e) h a b = tt
  without-saves kept first rest (asks ps t) h a b = λ xs. without-saves kept first rest (t xs) (h xs) a b
  without-saves kept first rest (notes (used n) t) h a b = without-saves kept first rest t h a b
  without-saves kept [] [] (notes (saved p x) t) h a b = absurd h
  without-saves kept [] (r ∷ rest) (notes (saved p x) t) h a b =
      let out : is_in kept p ≡ false = ap (is_in kept) h.0 ∙ b.0 in
      subst (λ c. Saves (r ∷ rest) (cond c (without kept t) (notes (saved p x) (without kept t)))) (sym out) (h.0, without-saves kept [] rest t h.1 tt b.1)
  without-saves kept (q ∷ first) rest (notes (saved p x) t) h a b =
      let inside : is_in kept p ≡ true = ap (is_in kept) h.0 ∙ a.0 in
      subst (λ c. Saves rest (cond c (without kept t) (notes (saved p x) (without kept t)))) (sym inside) (without-saves kept first rest t h.1 a.1 b)

in-self : (xs : List ℕ) → AllByRecursion (λ p. is_in xs p ≡ true) xs
in-self xs = all-moved (xs ++ []) xs xs true (λ n. ap (λ l. is_in l n) (append-nil xs)) (all-in-left xs [])

module _ (dig : Digests) (table : Table) (own : Ident) (x : Page) (whole : Task Page) (ns : List ℕ) where
  abbrev pairs_saved : List MarkView → List ℕ
  pairs_saved marks = map (pair_named table own) (saved_names marks)

  one-more : (kept first : List ℕ) (q : ℕ) → SameMembers kept first → SameMembers (q ∷ kept) (first ++ q ∷ [])
  one-more kept first q h n = ap (λ b. nat_eq n q || b) (h n) ∙ (turn (nat_eq n q) (is_in first n) ∙ sym (in-append first (q ∷ []) n))
    where
      turn : (a b : Bool) → (a || b) ≡ (b || (a || false))
      turn true true = refl
      turn true false = refl
      turn false true = refl
      turn false false = refl

  saves-if : (ps : List ℕ) (b : Bool) (s t : Task Attempt) → Saves ps (s ▷ finish whole ns) → Saves ps (t ▷ finish whole ns) → Saves ps (cond b s t ▷ finish whole ns)
  saves-if ps true s t g h = g
  saves-if ps false s t g h = h

  attempt-saves : (marks : List MarkView) (first kept : List ℕ) → Saves (first ++ pairs_saved marks) whole → Ascending (first ++ pairs_saved marks)
      → SameMembers kept first → Saves (pairs_saved marks) (attempt dig table own x kept marks ▷ finish whole ns)
  attempt-saves [] first kept h r s = noted-saves [] ns (gives x) tt
  attempt-saves (recorded rs ∷ marks) first kept h r s = λ xs.
      saves-if (pairs_saved marks) (same_pages dig xs rs) (attempt dig table own x kept marks) (gives (broke kept)) (attempt-saves marks first kept h r s)
      (without-saves kept first (pairs_saved marks) whole h (all-moved first kept first true (λ n. sym (s n)) (in-self first)) (all-moved first kept (pairs_saved marks) false (λ n. sym (s n)) (apart-rest first (pairs_saved marks) r)))
  attempt-saves (stored name page ∷ marks) first kept h r s =
      let q = pair_named table own name in
      let e : first ++ q ∷ pairs_saved marks ≡ (first ++ q ∷ []) ++ pairs_saved marks = sym (append_assoc first (q ∷ []) (pairs_saved marks)) in
      (refl, attempt-saves marks (first ++ q ∷ []) (q ∷ kept) (subst (λ l. Saves l whole) e h) (subst Ascending e r) (one-more kept first q s))

-- all marks but the last
pub front-once : (marks : List MarkView) → AskOnce marks → AskOnce (front marks)
front-once [] o = tt
front-once (m ∷ []) o = tt
front-once (recorded rs ∷ n ∷ marks) o = (o.0, front-once (n ∷ marks) o.1)
front-once (stored name page ∷ n ∷ marks) o = front-once (n ∷ marks) o

pub front-fits : (test : MarkView → Bool) (marks : List MarkView) → list_all test marks ≡ true → list_all test (front marks) ≡ true
front-fits test [] t = refl
front-fits test (m ∷ []) t = refl
front-fits test (m ∷ n ∷ marks) t = let w = and-both (test m) (list_all test (n ∷ marks)) t in rw (w.0) (front-fits test (n ∷ marks) w.1)

pub front-names : (marks : List MarkView) → LastSaves marks → (name : Bytes) × (saved_names marks ≡ saved_names (front marks) ++ name ∷ [])
front-names [] h = absurd h
front-names (recorded rs ∷ []) h = absurd h
front-names (stored name page ∷ []) h = (name, refl)
front-names (recorded rs ∷ n ∷ marks) h = front-names (n ∷ marks) h
front-names (stored name page ∷ n ∷ marks) h = let w : (last : Bytes) × (saved_names (n ∷ marks) ≡ saved_names (front (n ∷ marks)) ++ last ∷ []) = front-names (n ∷ marks) h in (w.0, ap (λ l. name ∷ l) w.1)

pub all-but-last : (xs ys : List Bytes) (a b : Bytes) → xs ++ a ∷ [] ≡ ys ++ b ∷ [] → xs ≡ ys
all-but-last [] [] a b e = refl
all-but-last [] (y ∷ []) a b e = cc
all-but-last [] (y ∷ z ∷ ys) a b e = cc
all-but-last (x ∷ []) [] a b e = cc
all-but-last (x ∷ z ∷ xs) [] a b e = cc
all-but-last (x ∷ xs) (y ∷ ys) a b e =
    let h : x ≡ y = cc in
    let t : xs ++ a ∷ [] ≡ ys ++ b ∷ [] = cc in
    rw (h, all-but-last xs ys a b t) refl

patterns-within : (items : Items) (ms : List MatchView) → list_all (pattern_fits items) ms ≡ true → AllByRecursion (λ n. n < items.patterns) (map (λ m. items.table.number m.text) ms)
patterns-within items [] t = tt
patterns-within items (m ∷ ms) t =
    let number = items.table.number m.text in
    let w = and-both (pattern_fits items m) (list_all (pattern_fits items) ms) t in
    let v = and-both (nat_lt number items.patterns && bytes_eq (items.table.pattern number) m.text) (pointwise (eq_by_cmp ident_cmp) (items.table.matches m.text) m.matches) w.0 in
    let u = and-both (nat_lt number items.patterns) (bytes_eq (items.table.pattern number) m.text) v.0 in
    (ltb-true number items.patterns u.0, patterns-within items ms w.1)

-- the patterns of an entry that fits, and its marks but the last
pub record Fitting (dig : Digests) (items : Items) (i : ℕ) (e : EntryView) : Type 0 where
  pub names : saved_names (front e.marks) ≡ items.names i
  pub marks : list_all (mark_fits dig items.table) (front e.marks) ≡ true
  pub patterns : AllByRecursion (λ n. n < items.patterns) (pattern_numbers items.table e)
  pub pairs : map (pair_named items.table (items.id i)) (saved_names (front e.marks)) ≡ own_pairs items i

pub fitting : (dig : Digests) (items : Items) (i : ℕ) (e : EntryView) → LastSaves e.marks → fits dig items i e ≡ true → Fitting dig items i e
fitting dig items i e last t =
    let print = bytes_eq e.print (dig.text (items.text i)) in
    let names = pointwise bytes_eq (saved_names e.marks) (items.names i ++ final_name ∷ []) in
    let patterns = list_all (pattern_fits items) e.patterns in
    let c = and-both (print && names && patterns) (list_all (mark_fits dig items.table) e.marks) t in
    let a = and-both print names (and-both (print && names) patterns c.0).0 in
    let all_names : saved_names e.marks ≡ items.names i ++ final_name ∷ [] = list-same bytes_eq bytes-same (saved_names e.marks) (items.names i ++ final_name ∷ []) a.1 in
    let w : (name : Bytes) × (saved_names e.marks ≡ saved_names (front e.marks) ++ name ∷ []) = front-names e.marks last in
    let own : saved_names (front e.marks) ≡ items.names i = all-but-last (saved_names (front e.marks)) (items.names i) w.0 final_name (sym w.1 ∙ all_names) in
    record {
      names = own;
      marks = front-fits (mark_fits dig items.table) e.marks c.1;
      patterns = patterns-within items e.patterns (and-both (print && names) patterns c.0).1;
      pairs = ap (map (pair_named items.table (items.id i))) own;
    }

-- the replay as a family of chains
module _ (dig : Digests) (site : Site) (s : IsSite site) (entries : Entries) (formed : AreFormed entries) where
  abbrev lay : Shape
  lay = (shape_of site)

  pub record Chained (i : ℕ) (t : Task Page) : Type 0 where
    pub distinct : AllGroups (IsDistinct nat_eq) t
    pub within : AllGroups (AllByRecursion (λ p. p < pairs lay)) t
    pub saves : Saves (on_way site.deeds i) t

  chained-clean : (i : ℕ) → i < lay.items → Chained i (task_of site.deeds i)
  chained-clean i lt = record { distinct = (deeds-chains site.deeds s.proper).distinct i lt; within = (deeds-chains site.deeds s.proper).within i lt; saves = (deeds-chains site.deeds s.proper).saves i lt }

  chained-fit : (i : ℕ) → i < lay.items → (e : EntryView) → IsFormed e → fits dig (items_of site) i e ≡ true → Chained i (replay_by dig (items_of site) i (task_of site.deeds i) e)
  chained-fit i lt e f t =
      let fit : Fitting dig (items_of site) i e = fitting dig (items_of site) i e f.last t in
      let table = site.deeds.table in
      let own = site.deeds.id i in
      let last = last_page e.marks in
      let ns = pattern_numbers table e in
      let whole = task_of site.deeds i in
      let begun = attempt_of dig (items_of site) i e in
      let once : GroupsBy (IsDistinct nat_eq) table (front e.marks) = groups-once dig table s.proper.table (front e.marks) (front-once e.marks f.once) fit.marks in
      let inside : GroupsBy (AllByRecursion (λ p. p < pairs lay)) table (front e.marks) = groups-within dig table s.proper.table (front e.marks) fit.marks in
      let clean : Chained i whole = chained-clean i lt in
      record {
        distinct = groups-then (IsDistinct nat_eq) begun (finish whole ns) (attempt-groups (IsDistinct nat_eq) dig table own last (front e.marks) [] once) (finish-groups (IsDistinct nat_eq) whole ns clean.distinct);
        within =
            groups-then (AllByRecursion (λ p. p < pairs lay)) begun (finish whole ns)
            (attempt-groups (AllByRecursion (λ p. p < pairs lay)) dig table own last (front e.marks) [] inside) (finish-groups (AllByRecursion (λ p. p < pairs lay)) whole ns clean.within);
        saves =
            subst (λ l. Saves l (begun ▷ finish whole ns)) fit.pairs
            (attempt-saves dig table own last whole ns (front e.marks) [] [] (subst (λ l. Saves l whole) (sym fit.pairs) clean.saves) (subst Ascending (sym fit.pairs) (s.proper.in_order i lt).rising) (λ n. refl));
      }

  chained-by : (i : ℕ) → i < lay.items → (o : Option EntryView) → entries (site.deeds.id i) ≡ o → Chained i (replay_of dig site entries i o)
  chained-by i lt None h = chained-clean i lt
  chained-by i lt (Some e) h =
      elim (fits dig (items_of site) i e) as (λ b. fits dig (items_of site) i e ≡ b → Chained i (cond b (replay_by dig (items_of site) i (task_of site.deeds i) e) (task_of site.deeds i))) [
        | true ↦ λ t. chained-fit i lt e (formed (site.deeds.id i) e h) t
        | false ↦ λ t. chained-clean i lt
      ] refl

  pub replay-chains : AreChains lay (replay dig site entries) (on_way site.deeds)
  replay-chains =
      record {
        distinct = λ i lt. (chained-by i lt (entries (site.deeds.id i)) refl).distinct;
        within = λ i lt. (chained-by i lt (entries (site.deeds.id i)) refl).within;
        saves = λ i lt. (chained-by i lt (entries (site.deeds.id i)) refl).saves;
        in_order = (deeds-chains site.deeds s.proper).in_order;
      }

  pub replay-laws : IsRun lay (replay_run dig site entries)
  replay-laws = chains-run lay (replay dig site entries) (on_way site.deeds) replay-chains
