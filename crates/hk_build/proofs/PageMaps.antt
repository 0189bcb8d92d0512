-- The pages of a plan, put in order one after another, the last item's first.
use Rattle.std.proofs.Common.{◌≡◌, ℕ, ◌+◌, ◌<◌, ◌≤◌, ◌==◌, Bool, true, false, ◌&&◌, cond, length, List, [], ◌∷◌, ◌++◌, eqb-true, map, Option, Some, None, Result, Ok, Err, IfOk, Vec, refl, sym, ap, subst, ◌∙◌, arith, take, take_all, get_or}
use Rattle.std.specs.declared.alloc.Global.{Global}
use Rattle.std.specs.Ordering.{nat_cmp, match_ordering}
use Rattle.std.specs.Cmp.Lexicographic.{slice_cmp, nat_list_cmp_total}
use Rattle.std.specs.List.{flat_map}
use Rattle.std.specs.Option.{option_to_list}
use Rattle.std.specs.BTreeMap.{insert_entry}
use Rattle.std.specs.declared.cmp.Ordering.{Ordering}
use Rattle.std.specs.declared.cmp.Ordering.TheVariants.{Less, Equal, Greater}
use Rattle.std.specs.FinMap.{entries, from_entries, entries-insert}
use Rattle.std.specs.FinMap.Entries.{put, by_order}
use Rattle.std.proofs.lemmas.List.{map-append, nil_from_length, take_more}
use Rattle.std.proofs.lemmas.Simd.{map-map}
use Rattle.hk_base.specs.Bytes.{Bytes, Files, ascends, paths_of}
use Rattle.hk_base.proofs.Both.{left-part, right-part}
use Rattle.hk_base.proofs.Entries.{entries-from_entries}
use Rattle.hk_base.proofs.Ascending.{ascends-entries}
use Rattle.hk_base.specs.declared.refusal.NoMemory.{NoMemory}
use Rattle.hk_chain.specs.declared.page.Page.{Page}
use Rattle.hk_chain.specs.Kept.{at_place}
use Rattle.hk_chain.specs.Layout.{final_of}
use Rattle.hk_fix.specs.Fix.{Ending, finished, faulted, waiting, is_finished}
use Rattle.hk_fix.specs.Pages as known
use Rattle.hk_fix.specs.Report.{ReportView, upto, IsEmptyReport}
use Rattle.hk_fix.specs.Results.{ResultsView}
use Rattle.hk_fix.specs.Site as files
use Rattle.hk_fix.specs.Site.{file_of}
use Rattle.hk_fix.proofs.Empties.{empty-iff}
use Rattle.hk_machine.specs.Machine.{plan_shape}
use Rattle.hk_reuse.specs.Entries.{Entries}
use Rattle.hk_rules.specs.PlanView.{PlanView}
use Rattle.hk_rules.specs.Plan.{lookups}
use Rattle.hk_rules_file.specs.declared.tables.FeedRule.{FeedRule}
use Rattle.hk_writer.specs.declared.page_out.PageOut.{PageOut}
use Rattle.hk_writer.specs.Pages.{pages_of}
use Rattle.hk_build.specs.Build.{ending, endings, feeds, is_empty, pages, report, site_of, with_files}
use Rattle.hk_build.specs.Built.{AreResults}
use Rattle.hk_build.specs.Pages.{bodies, feed_page, feed_pages, in_order, item_pages, over, page_at, pages_at, placed, placed_out, with_page}
use Rattle.hk_build.proofs.Numbers.{at-upto, count-upto, flat-more, flat-upto, shape-items}

abbrev R : Bytes → Bytes → Ordering
R = slice_cmp nat_cmp

-- a map's insertion is the putting of an entry
pub insert-put : (es : List (Bytes × Page)) (k : Bytes) (page : Page) → insert_entry R es k page ≡ put R k page es
insert-put [] k v = refl
insert-put (e ∷ es) k v = elim (R k e.0) as (λ o. match_ordering o ((k, v) ∷ e ∷ es) ((e.0, v) ∷ es) (e ∷ insert_entry R es k v) ≡ by_order o ((k, v) ∷ e ∷ es) ((e.0, v) ∷ es) (e ∷ put R k v es)) [ Less ↦ refl | Equal ↦ refl | Greater ↦ ap (λ t. e ∷ t) (insert-put es k v) ]

over-append : (es ds m : List (Bytes × Page)) → over (es ++ ds) m ≡ over es (over ds m)
over-append [] ds m = refl
over-append (e ∷ es) ds m = ap (put R e.0 e.1) (over-append es ds m)

over-nothing : (es : List (Bytes × Page)) → over es [] ≡ in_order es
over-nothing [] = refl
over-nothing (e ∷ es) = ap (put R e.0 e.1) (over-nothing es)

put-over : (o : Option (Bytes × Page)) (m : List (Bytes × Page)) → with_page o m ≡ over (option_to_list o) m
put-over None m = refl
put-over (Some e) m = refl

-- the pages of the items before one
module _ (plan : PlanView) (k : known.Pages) where
  abbrev page-list : ℕ → List (Bytes × Page)
  page-list item = option_to_list (page_at plan k item)

  abbrev pub pages-upto : ℕ → List (Bytes × Page)
  pages-upto n = flat_map page-list (upto n)

  pub pages-first : over (pages-upto (length plan.items)) [] ≡ item_pages plan k
  pages-first = over-nothing (pages-upto (length plan.items))

  -- the page of one more item is put
  pub pages-turn : (i : ℕ) (page : Option (Bytes × Page)) (m m' all : List (Bytes × Page)) → page ≡ page_at plan k i → m' ≡ with_page page m
      → over (pages-upto (i + 1)) m ≡ all → over (pages-upto i) m' ≡ all
  pages-turn i page m m' all is put so =
      ap (over (pages-upto i)) (put ∙ put-over page m ∙ ap (λ (o : Option (Bytes × Page)). over (option_to_list o) m) is)
      ∙ sym (over-append (pages-upto i) (page-list i) m) ∙ ap (λ l. over l m) (sym (flat-more page-list i)) ∙ so

-- ---- the files that pages in order are

bodies-put : (es : List (Bytes × Page)) (k : Bytes) (page : Page) → bodies (put R k page es) ≡ put R k page.body (bodies es)
bodies-put [] k page = refl
bodies-put (e ∷ es) k page = elim (R k e.0) as (λ o. bodies (by_order o ((k, page) ∷ e ∷ es) ((e.0, page) ∷ es) (e ∷ put R k page es)) ≡ by_order o ((k, page.body) ∷ (e.0, e.1.body) ∷ bodies es) ((e.0, page.body) ∷ bodies es) ((e.0, e.1.body) ∷ put R k page.body (bodies es))) [ Less ↦ refl | Equal ↦ refl | Greater ↦ ap (λ t. (e.0, e.1.body) ∷ t) (bodies-put es k page) ]

bodies-order : (es : List (Bytes × Page)) → bodies (in_order es) ≡ entries (from_entries {R = R} (bodies es))
bodies-order [] = sym (entries-from_entries [] tt)
bodies-order (e ∷ es) = bodies-put (in_order es) e.0 e.1 ∙ ap (put R e.0 e.1.body) (bodies-order es) ∙ sym (entries-insert nat_list_cmp_total (from_entries (bodies es)) e.0 e.1.body)

-- pages over others are files over others
bodies-over : (es ds : List (Bytes × Page)) (m : Files) → bodies ds ≡ entries m → bodies (over es ds) ≡ entries (with_files (bodies es) m)
bodies-over [] ds m h = h
bodies-over (e ∷ es) ds m h =
    bodies-put (over es ds) e.0 e.1 ∙ ap (put R e.0 e.1.body) (bodies-over es ds m h)
    ∙ sym (entries-insert nat_list_cmp_total (with_files (bodies es) m) e.0 e.1.body)

bodies-flat : (f : ℕ → List (Bytes × Page)) (ns : List ℕ) → flat_map (λ i. bodies (f i)) ns ≡ bodies (flat_map f ns)
bodies-flat f [] = refl
bodies-flat f (n ∷ ns) = ap (λ l. bodies (f n) ++ l) (bodies-flat f ns) ∙ sym (map-append (λ (e : Bytes × Page). (e.0, e.1.body)) (f n) (flat_map f ns))

-- the targets of pages in order ascend
ascends-order : (es : List (Bytes × Page)) → ascends (map (λ (e : Bytes × Page). e.0) (in_order es)) ≡ true
ascends-order es =
    ap ascends (sym (map-map (λ (e : Bytes × Bytes). e.0) (λ (e : Bytes × Page). (e.0, e.1.body)) (in_order es)))
    ∙ ap (λ l. ascends (paths_of l)) (bodies-order es) ∙ ascends-entries (from_entries (bodies es))

-- the feeds and the items' pages in order
pages-order : (plan : PlanView) (k : known.Pages) → pages_at plan k ≡ in_order (feed_pages plan k ++ pages-upto plan k (length plan.items))
pages-order plan k =
    let items = pages-upto plan k (length plan.items) in
    ap (over (feed_pages plan k)) (sym (over-nothing items)) ∙ sym (over-append (feed_pages plan k) items [])
    ∙ over-nothing (feed_pages plan k ++ items)

pub ascends-pages : (plan : PlanView) (k : known.Pages) → ascends (map (λ (e : Bytes × Page). e.0) (pages_at plan k)) ≡ true
ascends-pages plan k =
    ap (λ (es : List (Bytes × Page)). ascends (map (λ e. e.0) es)) (pages-order plan k)
    ∙ ascends-order (feed_pages plan k ++ pages-upto plan k (length plan.items))

-- what a finished item has in the site is its page at its target
file-done : (target : Option Bytes) (o : Ending) (page : Option Page) → is_finished o ≡ true → file_of target o page ≡ bodies (option_to_list (placed target page))
file-done None o page h = refl
file-done (Some target) (finished facts) None h = refl
file-done (Some target) (finished facts) (Some page) h = refl
file-done (Some target) (faulted e) page h = cc
file-done (Some target) (waiting ps) page h = cc

none-left : (r : ReportView) → is_empty r ≡ true → IsEmptyReport r
none-left r e =
    let rest = right-part (length r.failed == 0) ((length r.cycles == 0) && (length r.blocked == 0)) e in (
      nil_from_length r.failed (eqb-true (length r.failed) 0 (left-part (length r.failed == 0) ((length r.cycles == 0) && (length r.blocked == 0)) e)),
      nil_from_length r.cycles (eqb-true (length r.cycles) 0 (left-part (length r.cycles == 0) (length r.blocked == 0) rest)),
      nil_from_length r.blocked (eqb-true (length r.blocked) 0 (right-part (length r.cycles == 0) (length r.blocked == 0) rest)),
    )

module _ (plan : PlanView) (over_entries : Entries) (empty : is_empty (report plan over_entries) ≡ true) where
  -- each item of a plan without a report is finished
  all-finished : (i : ℕ) → i < length plan.items → is_finished (ending plan over_entries i) ≡ true
  unfolding endings
  all-finished i lt =
      let each = (empty-iff (plan_shape plan) (endings plan over_entries)).0 (none-left (report plan over_entries) empty) in
      let count = count-upto (ending plan over_entries) (length plan.items) in
      sym (ap is_finished (at-upto (ending plan over_entries) (length plan.items) i (waiting []) lt))
      ∙ each i (waiting []) (subst (λ n. i < n) (sym count) lt)

  abbrev item-files : Files
  item-files = files.site_of (plan_shape plan) (lookups plan).target_of (ending plan over_entries) (pages plan over_entries)

  items-are : item-files ≡ from_entries (bodies (flat_map (λ i. option_to_list (page_at plan (pages plan over_entries) i)) (upto (length plan.items))))
  items-are =
      let k = pages plan over_entries in
      ap (λ n. from_entries (flat_map (λ i. file_of ((lookups plan).target_of i) (ending plan over_entries i) (k (final_of (plan_shape plan) i))) (upto n))) (shape-items plan)
      ∙ ap (λ l. from_entries l) (flat-upto (λ i. file_of ((lookups plan).target_of i) (ending plan over_entries i) (k (final_of (plan_shape plan) i))) (λ i. bodies (option_to_list (page_at plan k i))) (length plan.items)
      (λ i lt. file-done ((lookups plan).target_of i) (ending plan over_entries i) (k (final_of (plan_shape plan) i)) (all-finished i lt)))
      ∙ ap (λ l. from_entries l) (bodies-flat (λ i. option_to_list (page_at plan k i)) (upto (length plan.items)))

  feeds-are : bodies (feed_pages plan (pages plan over_entries)) ≡ feeds plan over_entries
  feeds-are = map-map (λ (e : Bytes × Page). (e.0, e.1.body)) (feed_page plan (pages plan over_entries)) plan.feeds

  -- the pages of results in order
  pub site-entries : (r : ResultsView) (outs : List PageOut) → AreResults plan over_entries r → map placed_out outs ≡ pages_at plan (at_place r.pages)
      → pages_of outs ≡ entries (site_of plan over_entries)
  site-entries r outs h e =
      let k = pages plan over_entries in
      let items = bodies-order (flat_map (λ i. option_to_list (page_at plan k i)) (upto (length plan.items))) ∙ ap entries (sym items-are) in
      sym (map-map (λ (p : Bytes × Page). (p.0, p.1.body)) placed_out outs)
      ∙ ap bodies (e ∙ ap (pages_at plan) h.pages)
      ∙ bodies-over (feed_pages plan k) (item_pages plan k) item-files items
      ∙ ap (λ fs. entries (with_files fs item-files)) feeds-are

-- the first feeds as pages
module _ (plan : PlanView) (k : known.Pages) (fs : List FeedRule) where
  abbrev pub feeds-upto : ℕ → List (Bytes × Page)
  feeds-upto n = map (feed_page plan k) (take n fs)

  pub feeds-first : (m : List (Bytes × Page)) → fs ≡ plan.feeds → over (feeds-upto (length fs)) m ≡ over (feed_pages plan k) m
  feeds-first m is = ap (λ (l : List FeedRule). over (map (feed_page plan k) l) m) (take_all (length fs) fs (omega arith) ∙ is)

  -- one feed more is put
  pub feeds-turn : (i : ℕ) (feed : FeedRule) (m m' all : List (Bytes × Page)) → i < length fs → feed ≡ get_or fs i feed
      → m' ≡ put R (feed_page plan k feed).0 (feed_page plan k feed).1 m → over (feeds-upto (i + 1)) m ≡ all → over (feeds-upto i) m' ≡ all
  feeds-turn i feed m m' all within is puts so =
      ap (over (feeds-upto i)) puts ∙ sym (over-append (feeds-upto i) (feed_page plan k feed ∷ []) m)
      ∙ ap (λ l. over l m) (sym (map-append (feed_page plan k) (take i fs) (feed ∷ [])))
      ∙ ap (λ (l : List FeedRule). over (map (feed_page plan k) l) m) (sym (take_more fs i feed within ∙ ap (λ z. take i fs ++ z ∷ []) (sym is)))
      ∙ so

-- pages that are the same in other words
pub same-pages : (r : Result (Vec PageOut Global) NoMemory) (es fs : List (Bytes × Page)) → es ≡ fs → IfOk r (λ v. map placed_out v.items ≡ es) → IfOk r (λ v. map placed_out v.items ≡ fs)
same-pages (Err e) es fs is h = tt
same-pages (Ok v) es fs is h = h ∙ is

-- the feeds over the items' pages
pub both-pages : (plan : PlanView) (k : known.Pages) (items all : List (Bytes × Page)) → all ≡ over (feed_pages plan k) items → items ≡ item_pages plan k
    → all ≡ pages_at plan k
both-pages plan k items all over-them are = over-them ∙ ap (over (feed_pages plan k)) are

-- so are they where they are made, if memory wasn't wanting
pub site-sorted : (plan : PlanView) (r : ResultsView) (result : Result (Vec PageOut Global) NoMemory) → IfOk result (λ v. map placed_out v.items ≡ pages_at plan (at_place r.pages))
    → IfOk result (λ v. (over_entries : Entries) → AreResults plan over_entries r → is_empty (report plan over_entries) ≡ true → pages_of v.items ≡ entries (site_of plan over_entries))
site-sorted plan r (Err e) h = tt
site-sorted plan r (Ok v) h = λ over_entries results empty. site-entries plan over_entries empty r v.items results h
