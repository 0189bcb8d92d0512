-- Groups whose pages are known in the end, one pair more at a time, and what that says of entries.
use Rattle.std.proofs.Common.{◌≡◌, refl, sym, ap, ◌∙◌, arith, ℕ, zero, suc, ◌+◌, ◌<◌, ◌≤◌, Bool, true, false, cond, ◌&&◌, not, List, [], ◌∷◌, ◌++◌, length, length-drop, drop, drop_of_length-le, filter, get_or, Option, Some, None, option_map, nat_eq, nat_lt, bytes_eq}
use Rattle.std.proofs.lemmas.List.{drop_more}
use Rattle.std.proofs.lemmas.List.Elements.{filter-append}
use Rattle.hk_base.specs.Bytes.{Bytes}
use Rattle.hk_chain.specs.declared.page.Page.{Page}
use Rattle.hk_fix.specs.Pages.{Pages, lacking, all_pages, with_page}
use Rattle.hk_fix.specs.Report.{upto}
use Rattle.hk_fix.specs.Task.{gives, run, answered}
use Rattle.hk_store.specs.Entry.{EntryView}
use Rattle.hk_store.specs.Traits.{sha_digests}
use Rattle.hk_reuse.specs.Entries.{Entries, front, last_page}
use Rattle.hk_reuse.specs.Fits.{fits}
use Rattle.hk_reuse.specs.Kept as names
use Rattle.hk_reuse.specs.Kept.{is_through}
use Rattle.hk_reuse.specs.Replay as replays
use Rattle.hk_reuse.specs.Replay.{Attempt, broke}
use Rattle.hk_reuse.specs.Site.{Items}
use Rattle.hk_replay.specs.declared.record.Step.{Step}
use Rattle.hk_replay.specs.declared.record.Step.TheVariants.{Asked, Saved}
use Rattle.hk_replay.specs.declared.record.Record.{Record}
use Rattle.hk_replay.specs.declared.record.Records.{Records}
use Rattle.hk_replay.specs.Replays.{digest, same_pages, attempt, record_at}
use Rattle.hk_replay.specs.Numbered.{record_view, numbered_entry, numbered_by, AreNumbered}
use Rattle.hk_replay.specs.Renewing.{agree, is_passed, is_kept, others_below}
use Rattle.hk_replay.proofs.Bridging.{attempts-same}

no-and : (b : Bool) → (b && false) ≡ false
no-and true = refl
no-and false = refl

-- ---- the loops

-- one pair of a group
agree-one : (k : Pages) (p : ℕ) (d : Bytes) (o : Option Page) → k p ≡ o → (ps : List ℕ) (ds : List Bytes) → agree (with_page o (all_pages k ps)) (d ∷ ds) ≡ (agree (with_page o (Some [])) (d ∷ []) && agree (all_pages k ps) ds)
agree-one k p d None e ps ds = refl
agree-one k p d (Some x) e ps ds = at (all_pages k ps)
  where
    at : (r : Option (List Page)) → agree (with_page (Some x) r) (d ∷ ds) ≡ ((bytes_eq (digest x) d && true) && agree r ds)
    at None = sym (no-and (bytes_eq (digest x) d && true))
    at (Some xs) = ap (λ b. b && same_pages xs ds) (sym (and-true (bytes_eq (digest x) d)))
      where
        and-true : (b : Bool) → (b && true) ≡ b
        and-true true = refl
        and-true false = refl

pub agree-turn : (k : Pages) (ps : List ℕ) (ds : List Bytes) (i p : ℕ) (d : Bytes) → i < length ps → i < length ds → p ≡ get_or ps i p → d ≡ get_or ds i d → agree (all_pages k (drop i ps)) (drop i ds) ≡ (agree (all_pages k (p ∷ [])) (d ∷ []) && agree (all_pages k (drop (i + 1) ps)) (drop (i + 1) ds))
agree-turn k ps ds i p d lt less here there =
    ap (λ l. agree (all_pages k l) (drop i ds)) (drop_more ps i p lt ∙ ap (λ q. q ∷ drop (i + 1) ps) (sym here))
    ∙ (ap (agree (all_pages k (p ∷ drop (i + 1) ps))) (drop_more ds i d less ∙ ap (λ q. q ∷ drop (i + 1) ds) (sym there))
    ∙ agree-one k p d (k p) refl (drop (i + 1) ps) (drop (i + 1) ds))

nothing : {A : Type 0} (l : List A) (i : ℕ) → length l ≤ i → drop i l ≡ []
nothing l i le = drop_of_length-le l le

-- more pairs than digests
pub agree-past : (k : Pages) (ps : List ℕ) (ds : List Bytes) (i p : ℕ) → i < length ps → length ds ≤ i → agree (all_pages k (drop i ps)) (drop i ds) ≡ false
agree-past k ps ds i p lt le =
    ap (λ l. agree (all_pages k l) (drop i ds)) (drop_more ps i p lt)
    ∙ (ap (agree (all_pages k (get_or ps i p ∷ drop (i + 1) ps))) (nothing ds i le)
    ∙ at (k (get_or ps i p)) (all_pages k (drop (i + 1) ps)))
  where
    at : (o : Option Page) (r : Option (List Page)) → agree (with_page o r) [] ≡ false
    at None r = refl
    at (Some x) None = refl
    at (Some x) (Some xs) = refl

left-over : (ds : List Bytes) → nat_eq (length ds) 0 ≡ same_pages [] ds
left-over [] = refl
left-over (d ∷ ds) = grind arith

-- as many as were read
pub agree-end : (k : Pages) (ps : List ℕ) (ds : List Bytes) (i : ℕ) → length ps ≤ i → i ≤ length ps → i ≤ length ds → nat_eq (length ps) (length ds) ≡ agree (all_pages k (drop i ps)) (drop i ds)
agree-end k ps ds i le ge less =
    even (length ps) (length ds) (length (drop i ds)) (omega (arith, length-drop i ds))
    ∙ (left-over (drop i ds) ∙ sym (ap (λ l. agree (all_pages k l) (drop i ds)) (nothing ps i le)))
  where
    even : (a b n : ℕ) → b ≡ a + n → nat_eq a b ≡ nat_eq n 0
    even a b n e = grind (arith, e)

-- one step more
pub passed-turn : (k : Pages) (steps : List Step) (i : ℕ) (s : Step) → i < length steps → s ≡ get_or steps i s → is_passed k (drop i steps) ≡ (is_passed k (s ∷ []) && is_passed k (drop (i + 1) steps))
passed-turn k steps i s lt here = ap (is_passed k) (drop_more steps i s lt ∙ ap (λ q. q ∷ drop (i + 1) steps) (sym here)) ∙ at s
  where
    at : (t : Step) → is_passed k (t ∷ drop (i + 1) steps) ≡ (is_passed k (t ∷ []) && is_passed k (drop (i + 1) steps))
    at (Asked ps ds) = three (agree (all_pages k ps.items) ds.items) (is_passed k (drop (i + 1) steps))
      where
        three : (a b : Bool) → (a && b) ≡ ((a && true) && b)
        three true b = refl
        three false b = refl
    at (Saved p x) = refl

-- one number more
pub others-turn : (k : Pages) (records : Records) (n : ℕ) (b : Bool) → b ≡ is_kept k (record_at records n) → others_below k records (n + 1) ≡ others_below k records n ++ cond b [] (n ∷ [])
others-turn k records n b e =
    let test : ℕ → Bool = λ i. not (is_kept k (record_at records i)) in
    more n ∙ (filter-append test (upto n) (n ∷ []) ∙ ap (λ l. filter test (upto n) ++ l) (at b e))
  where
    more : (m : ℕ) → others_below k records (m + 1) ≡ filter (λ i. not (is_kept k (record_at records i))) (upto m ++ m ∷ [])
    more m = let next : m + 1 ≡ suc m = omega arith in ap (λ j. others_below k records j) next

    at : (c : Bool) → c ≡ is_kept k (record_at records n) → filter (λ i. not (is_kept k (record_at records i))) (n ∷ []) ≡ cond c [] (n ∷ [])
    at c w = ap (λ x. cond (not x) (n ∷ []) []) (sym w) ∙ flip c
      where
        flip : (x : Bool) → cond {A = List ℕ} (not x) (n ∷ []) [] ≡ cond x [] (n ∷ [])
        flip true = refl
        flip false = refl

-- ---- what it says of entries

through-if : (k : Pages) (x : Page) (kept : List ℕ) (steps : List Step) (b : Bool) → is_through (run (cond b (attempt x kept steps) (gives (broke kept))) k).end ≡ (b && is_through (run (attempt x kept steps) k).end)
through-if k x kept steps true = refl
through-if k x kept steps false = refl

through-passed : (k : Pages) (x : Page) (kept : List ℕ) (steps : List Step) → is_through (run (attempt x kept steps) k).end ≡ is_passed k steps
through-passed k x kept [] = refl
through-passed k x kept (Asked ps ds ∷ steps) = at (all_pages k ps.items) (through-passed k x kept steps)
  where
    at : (o : Option (List Page)) → is_through (run (attempt x kept steps) k).end ≡ is_passed k steps → is_through (answered ps.items (lacking k ps.items) (λ xs. run (cond (same_pages xs ds.items) (attempt x kept steps) (gives (broke kept))) k) o).end ≡ (agree o ds.items && is_passed k steps)
    at None e = refl
    at (Some xs) e = through-if k x kept steps (same_pages xs ds.items) ∙ ap (λ b. same_pages xs ds.items && b) e
through-passed k x kept (Saved p y ∷ steps) = through-passed k x (p ∷ kept) steps

module _ (items : Items) (k : Pages) (i : ℕ) where
  entry-kept : (r : Record) (e : EntryView) → record_view r ≡ numbered_entry items i e → is_passed k r.steps.items ≡ is_through (run (replays.attempt_of sha_digests items i e) k).end
  entry-kept r e is = sym (through-passed k (last_page e.marks) [] r.steps.items) ∙ ap (λ t. is_through (run t k).end) (attempts-same items.table (items.id i) (last_page e.marks) [] r.steps.items (front e.marks) (ap (λ v. v.steps) is))

  by-fit : (o : Option Record) (e : EntryView) (b : Bool) → option_map record_view o ≡ cond b (Some (numbered_entry items i e)) None → is_kept k o ≡ (b && is_through (run (replays.attempt_of sha_digests items i e) k).end)
  by-fit None e true h = cc
  by-fit (Some r) e true h = let is : record_view r ≡ numbered_entry items i e = cc in entry-kept r e is
  by-fit None e false h = refl
  by-fit (Some r) e false h = cc

  by-entry : (o : Option Record) (e : Option EntryView) → option_map record_view o ≡ numbered_by sha_digests items i e → is_kept k o ≡ names.kept_by sha_digests items k i e
  by-entry None None h = refl
  by-entry (Some r) None h = cc
  by-entry o (Some e) h = by-fit o e (fits sha_digests items i e) h

module _ (items : Items) (entries : Entries) (records : Records) (k : Pages) (are : AreNumbered sha_digests items entries records) where
  kept-same : (i : ℕ) → i < items.table.layout.items → is_kept k (record_at records i) ≡ names.kept_among sha_digests items k entries i
  kept-same i lt =
      let less : nat_lt i items.table.layout.items ≡ true = grind (arith, lt) in
      by-entry items k i (record_at records i) (entries (items.id i)) (are i lt) ∙ sym (ap (λ b. b && names.kept_by sha_digests items k i (entries (items.id i))) less)

  below-same : (n : ℕ) → n ≤ items.table.layout.items → others_below k records n ≡ filter (λ i. not (names.kept_among sha_digests items k entries i)) (upto n)
  below-same zero le = refl
  below-same (suc n) le =
      let mine : ℕ → Bool = λ i. not (is_kept k (record_at records i)) in
      let theirs : ℕ → Bool = λ i. not (names.kept_among sha_digests items k entries i) in
      filter-append mine (upto n) (n ∷ [])
      ∙ ((λ j. below-same n (omega (arith, le)) j ++ cond (not (kept-same n (omega (arith, le)) j)) (n ∷ []) [])
      ∙ sym (filter-append theirs (upto n) (n ∷ [])))

  -- the items without a record that goes through are those that are out of date
  pub others-old : others_below k records items.table.layout.items ≡ names.out_of_date sha_digests items k entries
  others-old = below-same items.table.layout.items (omega arith)
