-- A build over what another clean build left is a clean build.
use Rattle.std.proofs.Common.{◌≡◌, sym, ap, ◌∙◌, subst, arith, ℕ, List, length}
use Rattle.std.proofs.lemmas.List.{length-map}
use Rattle.hk_chain.specs.declared.page.Page.{Page}
use Rattle.hk_eval.specs.PlanTable.{table_of}
use Rattle.hk_fix.specs.declared.event.Event.{Event}
use Rattle.hk_fix.specs.Fix.{Ending, IsComplete}
use Rattle.hk_fix.specs.Pages.{Pages}
use Rattle.hk_fix.specs.Task.{Run}
use Rattle.hk_machine.specs.Machine.{plan_run, plan_shape}
use Rattle.hk_reuse.specs.Entries.{Entries, no_entries}
use Rattle.hk_reuse.specs.Image.{entry_by, entry_list}
use Rattle.hk_reuse.specs.Site.{no_seeds}
use Rattle.hk_rules.specs.MadePlan.{IsMadePlan}
use Rattle.hk_rules.specs.Pairs.{count_of}
use Rattle.hk_rules.specs.PlanView.{PlanView}
use Rattle.hk_sites.proofs.CleanBuilds.{builds-clean}
use Rattle.hk_sites.proofs.KeptItems.{plan-history}
use Rattle.hk_sites.proofs.Lawful.{left-listed}
use Rattle.hk_sites.proofs.SmallLimits.{plans-limited}
use Rattle.hk_sites.specs.PlanSite.{items_of}
use Rattle.hk_sites.specs.Rebuilding as plans
use Rattle.hk_sites.specs.Rebuilding.{IsCleanBuild, clean_entries, ends_by, list_by, pages_by, run_over}
use Rattle.hk_store.specs.Entry.{EntryView}
use Rattle.hk_store.specs.StoreText.{sealed, store_text}
use Rattle.hk_store.specs.Traits.{sha_digests}
use Rattle.hk_build.specs.Build as build
use Rattle.hk_build.specs.Build.{endings, image, run_of, seeds, shown}
use Rattle.hk_build.specs.Built.{AreApart, IsClean, left}
use Rattle.hk_build.proofs.Numbers.{map-upto}
use Rattle.hk_build.proofs.Replayed.{planned-made}
use Rattle.hk_build.proofs.Storing.{entry-any, filter-upto}

-- a clean build of a plan leaves its clean entries
pub left-clean : (plan : PlanView) → IsMadePlan plan → left plan ≡ clean_entries sha_digests plan
left-clean plan made = left-listed sha_digests plan made no_entries

-- the pages and ends of a clean build
module _ (plan : PlanView) (entries : Entries) (is : IsCleanBuild sha_digests plan entries) where
  abbrev run : ℕ → Pages → Run Page
  run = run_over sha_digests plan entries

  same-ends : endings plan entries ≡ endings plan no_entries
  unfolding endings
  same-ends = map-upto (ends_by plan run) (ends_by plan (plan_run plan)) (length plan.items) is.ends

  count : (items_of plan).table.layout.items ≡ length plan.items
  unfolding table_of
  count = length-map plan.items count_of

  same-list : list_by sha_digests plan run ≡ list_by sha_digests plan (plan_run plan)
  same-list =
      let items = items_of plan in
      let now : ℕ → Ending = ends_by plan run in
      let then : ℕ → Ending = ends_by plan (plan_run plan) in
      let F : Pages = pages_by plan (plan_run plan) in
      ap (λ (k : Pages). entry_list sha_digests items now k) is.pages
      ∙ filter-upto (λ i. entry_by sha_digests items now F i (now i)) (λ i. entry_by sha_digests items then F i (then i)) items.table.layout.items
      (λ i lt. entry-any sha_digests items now then F i (now i) ∙ ap (entry_by sha_digests items then F i) (is.ends i (omega (arith, lt, count))))

  clean-by : IsClean plan entries
  unfolding build.pages image
  clean-by = record { pages = is.pages; endings = same-ends; image = ap (λ (es : List EntryView). sealed (store_text es)) same-list }

module _ (old new : PlanView) (apart : AreApart old new) where
  plans-apart : plans.AreApart sha_digests old new
  plans-apart =
      record {
        was = planned-made old apart.was;
        now = planned-made new apart.now;
        was_limited = plans-limited old (planned-made old apart.was).linked;
        now_limited = plans-limited new (planned-made new apart.now).linked;
        short = apart.short;
        apart = apart.apart;
      }

  found : left old ≡ clean_entries sha_digests old
  found = left-clean old (planned-made old apart.was)

  pub honest-clean : IsClean new (left old)
  honest-clean = subst (IsClean new) (sym found) (clean-by new (clean_entries sha_digests old) (builds-clean sha_digests old new plans-apart))

  -- a history of it is one of the machines
  module _ (h : List Event) where
    abbrev Statement : Entries → Type 0
    Statement es = IsComplete (plan_shape new) (run_of new es) no_seeds h → IsComplete (plan_shape new) (plan_run new) (seeds new es) (shown new es h)

    pub honest-history : Statement (left old)
    honest-history = subst Statement (sym found) (plan-history sha_digests old new plans-apart h)
