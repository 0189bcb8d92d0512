-- The items of feeds are those of the plan.
use Rattle.std.proofs.Common.{◌≡◌, refl, ℕ, zero, suc, ◌+◌, ◌<◌, ◌≤◌, Bool, true, false, cond, List, [], ◌∷◌, map, length, Option, Some, None, All, arith}
use Rattle.std.specs.Prelude.{reverse}
use Rattle.std.specs.List.{AllByRecursion, range_with_len, cons_option}
use Rattle.std.specs.Ordering.{is_lt}
use Rattle.std.proofs.lemmas.List.Elements.{All-from_recursion, recursion_from_All, All-filter, All-map}
use Rattle.std.proofs.lemmas.List.Sorted.{All-permutation, IsPermutation-reverse}
use Rattle.hk_base.specs.Bytes.{Bytes}
use Rattle.hk_chain.proofs.Spans.{range-all}
use Rattle.hk_chain.specs.declared.page.Kind.{Kind}
use Rattle.hk_chain.specs.declared.page.Kind.TheVariants as kinds
use Rattle.hk_chain.specs.declared.page.Page.{Page}
use Rattle.hk_meta.specs.declared.date.Moment.{Moment}
use Rattle.hk_fix.specs.Pages.{Pages}
use Rattle.hk_rules.specs.Plan.{Lookups, lookups}
use Rattle.hk_rules.specs.PlanView.{PlanView}
use Rattle.hk_feed.specs.Entries.{Entry, entry_of_kind, entry_by, page_by, entries_of}
use Rattle.hk_feed.specs.Members.{is_member, members, date_at}
use Rattle.hk_feed.specs.Recent.{Dated, dated_by, dated, is_earlier, by_date, item_in, latest_first, recent}
use Rattle.hk_rules_file.specs.declared.tables.FeedRule.{FeedRule}
use Rattle.hk_chain.specs.Sorting.{put_by, sorted_by}

pub members-within : (plan : Lookups) (feed : FeedRule) → All (λ item. item < plan.count) (members plan feed)
members-within plan feed =
    All-filter (is_member plan feed) (λ item. item < plan.count) (range_with_len 0 plan.count)
    (All-from_recursion (λ item. item < plan.count) (range_with_len 0 plan.count) (range-all (λ item. item < plan.count) 0 plan.count (λ q low high. omega (arith, high))))

module _ (P : ℕ → Type 0) where
  abbrev AllDated : List Dated → Type 0
  AllDated ds = AllByRecursion (λ (d : Dated). P d.item) ds

  dated-one : (item : ℕ) (date : Option Moment) (ds : List Dated) → P item → AllDated ds → AllDated (cons_option (dated_by item date) ds)
  dated-one item None ds p h = h
  dated-one item (Some date) ds p h = (p, h)

  dated-all : (plan : Lookups) (items : List ℕ) → AllByRecursion P items → AllDated (dated plan items)
  dated-all plan [] h = h
  dated-all plan (item ∷ items) h = dated-one item (date_at plan item) (dated plan items) h.0 (dated-all plan items h.1)

  put-all : (d : Dated) (es : List Dated) → P d.item → AllDated es → AllDated (put_by is_earlier d es)
  put-all d [] p h = (p, h)
  put-all d (e ∷ es) p h = elim (is_earlier e d) as (λ b. AllDated (cond b (e ∷ put_by is_earlier d es) (d ∷ e ∷ es))) [
    | true ↦ (h.0, put-all d es p h.1)
    | false ↦ (p, h)
  ]

  sort-all : (ds : List Dated) → AllDated ds → AllDated (by_date ds)
  sort-all [] h = h
  sort-all (d ∷ ds) h = put-all d (by_date ds) h.0 (sort-all ds h.1)

  pub latest-all : (plan : Lookups) (items : List ℕ) → All P items → All P (map item_in (latest_first (dated plan items)))
  latest-all plan items h =
      All-map P item_in (latest_first (dated plan items)) (All-permutation (λ (d : Dated). P d.item) (by_date (dated plan items)) (reverse (by_date (dated plan items))) (IsPermutation-reverse (by_date (dated plan items)))
      (All-from_recursion (λ (d : Dated). P d.item) (by_date (dated plan items)) (sort-all (dated plan items) (dated-all plan items (recursion_from_All P items h)))))

  abbrev AllEntries : List Entry → Type 0
  AllEntries es = AllByRecursion (λ (e : Entry). P e.item) es

  entry-kind : (item : ℕ) (page : Page) (kind : Kind) (es : List Entry) → P item → AllEntries es → AllEntries (cons_option (entry_of_kind item page kind) es)
  entry-kind item page kinds.Text es p h = (p, h)
  entry-kind item page kinds.Template es p h = h
  entry-kind item page kinds.File es p h = h

  entry-one : (item : ℕ) (page : Option Page) (es : List Entry) → P item → AllEntries es → AllEntries (cons_option (entry_by item page) es)
  entry-one item None es p h = h
  entry-one item (Some page) es p h = entry-kind item page page.kind es p h

  entries-all : (plan : Lookups) (pages : Pages) (name : Bytes) (items : List ℕ) → AllByRecursion P items → AllEntries (entries_of plan pages name items)
  entries-all plan pages name [] h = h
  entries-all plan pages name (item ∷ items) h = entry-one item (page_by pages (plan.pair item name)) (entries_of plan pages name items) h.0 (entries-all plan pages name items h.1)

  pub entries-kept : (plan : Lookups) (pages : Pages) (name : Bytes) (items : List ℕ) → All P items → All (λ (e : Entry). P e.item) (entries_of plan pages name items)
  entries-kept plan pages name items h =
      All-from_recursion (λ (e : Entry). P e.item) (entries_of plan pages name items) (entries-all plan pages name items (recursion_from_All P items h))

pub recent-within : (plan : PlanView) (feed : FeedRule) → All (λ item. item < length plan.items) (recent (lookups plan) feed)
unfolding lookups
recent-within plan feed = latest-all (λ item. item < length plan.items) (lookups plan) (members (lookups plan) feed) (members-within (lookups plan) feed)
