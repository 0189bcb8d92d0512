-- A build of a plan over stored entries: its pages, how its items end, its report, its site, and the store that it leaves.
use Rattle.std.specs.Prelude.{ℕ, ◌==◌, Bool, ◌&&◌, List, [], ◌∷◌, length, map, filter}
use Rattle.std.specs.FinMap.{insert}
use Rattle.hk_base.specs.Bytes.{Bytes, Files}
use Rattle.hk_chain.specs.declared.page.Page.{Page}
use Rattle.hk_feed.specs.FeedText.{feed_files}
use Rattle.hk_fix.specs.declared.event.Event.{Event}
use Rattle.hk_fix.specs.Fix.{Ending, Seeds}
use Rattle.hk_fix.specs.Pages.{Pages}
use Rattle.hk_fix.specs.Report.{ReportView, report_of, upto}
use Rattle.hk_fix.specs.Site as files
use Rattle.hk_fix.specs.Task.{Run}
use Rattle.hk_machine.specs.Machine.{plan_shape}
use Rattle.hk_reuse.specs.Entries.{Entries}
use Rattle.hk_reuse.specs.Histories.{others}
use Rattle.hk_reuse.specs.Kept as kept
use Rattle.hk_rules.specs.PlanView.{PlanView}
use Rattle.hk_rules.specs.Plan.{lookups}
use Rattle.hk_sites.specs.PlanSite.{items_of}
use Rattle.hk_sites.specs.Rebuilding.{ends_by, keeps, list_by, pages_by, run_over, seeds_of_kept}
use Rattle.hk_store.specs.StoreText.{sealed, store_text}
use Rattle.hk_store.specs.Traits.{sha_digests}

-- there is nothing to report
abbrev pub is_empty : ReportView → Bool
is_empty r = (length r.failed == 0) && ((length r.cycles == 0) && (length r.blocked == 0))

-- files put over others, the last one first
abbrev pub with_files : List (Bytes × Bytes) → Files → Files
with_files [] m = m
with_files (file ∷ files) m = insert (with_files files m) file.0 file.1

module _ (plan : PlanView) (entries : Entries) where
  -- what an item's compiler does under known pages: it replays its entry, where that fits, and else its chain
  abbrev pub run_of : ℕ → Pages → Run Page
  run_of = run_over sha_digests plan entries

  -- the page of each pair in the least fixpoint of these, where there is one
  unfoldable pub pages : Pages
  pages = pages_by plan run_of

  -- how an item ends there, and how each does
  abbrev pub ending : ℕ → Ending
  ending = ends_by plan run_of

  unfoldable pub endings : List Ending
  endings = map ending (upto (length plan.items))

  -- the items that aren't done
  abbrev pub report : ReportView
  report = report_of (plan_shape plan) endings

  -- the texts of the feeds at their targets
  abbrev pub feeds : List (Bytes × Bytes)
  feeds = feed_files (lookups plan) pages plan.feeds

  -- the site: the files of the finished items that have a target, and the feeds
  abbrev pub site_of : Files
  site_of = with_files feeds (files.site_of (plan_shape plan) (lookups plan).target_of ending pages)

  -- the bytes of the store
  unfoldable pub image : Bytes
  image = sealed (store_text (list_by sha_digests plan run_of))

  -- the items that are compiled, and those whose entries are gone through to their ends
  unfoldable pub compiled : List ℕ
  compiled = kept.out_of_date sha_digests (items_of plan) pages entries

  unfoldable pub reused : List ℕ
  reused = filter (keeps sha_digests plan entries) (upto (length plan.items))

  -- the pages and facts of the latter
  abbrev pub seeds : Seeds
  seeds = seeds_of_kept sha_digests plan entries

  -- a history without their events
  abbrev pub shown : List Event → List Event
  shown history = others (plan_shape plan) (keeps sha_digests plan entries) history
