-- Builds of plans by the machine's runs, clean and over stored entries.
use Rattle.std.specs.Prelude.{◌≡◌, ℕ, ◌<◌, Bool, List, [], ◌∷◌, length}
use Rattle.hk_base.specs.Bytes.{Bytes}
use Rattle.hk_chain.specs.declared.page.Page.{Page}
use Rattle.hk_fix.specs.Fix.{Seeds, Ending, fix, status}
use Rattle.hk_fix.specs.Pages.{Pages}
use Rattle.hk_fix.specs.Table.{Traits}
use Rattle.hk_fix.specs.Task.{Run}
use Rattle.hk_machine.specs.Machine.{plan_shape, plan_run}
use Rattle.hk_rules.specs.MadePlan.{IsMadePlan}
use Rattle.hk_rules.specs.PlanView.{PlanView}
use Rattle.hk_store.specs.Digests.{Digests}
use Rattle.hk_store.specs.Entry.{EntryView}
use Rattle.hk_store.specs.Stored.{IsDigest}
use Rattle.hk_reuse.specs.Entries.{Entries}
use Rattle.hk_reuse.specs.Histories.{kept_seeds}
use Rattle.hk_reuse.specs.Image.{entries_of, entry_list}
use Rattle.hk_reuse.specs.Kept.{kept_among}
use Rattle.hk_reuse.specs.Over.{over}
use Rattle.hk_reuse.specs.Rebuilt.{TellApart}
use Rattle.hk_reuse.specs.Site.{no_seeds}
use Rattle.hk_sites.specs.PlanSite.{site_of, items_of}
use Rattle.hk_sites.specs.Sizes.{HasLimits, HasTexts}

-- the pages of a build by some runs of a plan's items, how these end, and the entries that the build leaves
abbrev pub pages_by : PlanView → (ℕ → Pages → Run Page) → Pages
pages_by plan run = fix (plan_shape plan) run no_seeds

abbrev pub ends_by : PlanView → (ℕ → Pages → Run Page) → ℕ → Ending
ends_by plan run = status (plan_shape plan) run no_seeds

abbrev pub entries_by : Digests → PlanView → (ℕ → Pages → Run Page) → Entries
entries_by dig plan run = entries_of dig (items_of plan) (ends_by plan run) (pages_by plan run)

-- the same in the order of the items
abbrev pub list_by : Digests → PlanView → (ℕ → Pages → Run Page) → List EntryView
list_by dig plan run = entry_list dig (items_of plan) (ends_by plan run) (pages_by plan run)

-- the entries that a clean build leaves
abbrev pub clean_entries : Digests → PlanView → Entries
clean_entries dig plan = entries_by dig plan (plan_run plan)

-- the runs over entries: the replay of each item that has a fitting one
abbrev pub run_over : Digests → PlanView → Entries → ℕ → Pages → Run Page
run_over dig plan entries = over dig (items_of plan) entries (plan_run plan)

-- each digest has the form of one
pub record HasDigests (dig : Digests) : Type 0 where
  pub text : (text : Bytes) → IsDigest (dig.text text)
  pub page : (page : Page) → IsDigest (dig.page page)
  pub traits : (traits : Traits) → IsDigest (dig.traits traits)

-- two plans as rules make them, of which one is built over what the other left: equal digests of what is compared mean
-- equal things
pub record AreApart (dig : Digests) (old new : PlanView) : Type 0 where
  pub was : IsMadePlan old
  pub now : IsMadePlan new
  pub was_limited : HasLimits old
  pub now_limited : HasLimits new
  pub short : HasTexts old
  pub apart : TellApart dig (site_of old) (site_of new)

-- a build over entries gives the pages, the ends and the entries of a clean build
pub record IsCleanBuild (dig : Digests) (plan : PlanView) (entries : Entries) : Type 0 where
  pub pages : pages_by plan (run_over dig plan entries) ≡ pages_by plan (plan_run plan)
  pub ends : (item : ℕ) → item < length plan.items → ends_by plan (run_over dig plan entries) item ≡ ends_by plan (plan_run plan) item
  pub left : entries_by dig plan (run_over dig plan entries) ≡ clean_entries dig plan

-- whether a build over entries goes on with what is stored for an item
abbrev pub keeps : Digests → PlanView → Entries → ℕ → Bool
keeps dig plan entries = kept_among dig (items_of plan) (pages_by plan (run_over dig plan entries)) entries

-- the pages and facts of the items with which it does
abbrev pub seeds_of_kept : Digests → PlanView → Entries → Seeds
seeds_of_kept dig plan entries =
    kept_seeds (plan_shape plan) (keeps dig plan entries) (pages_by plan (run_over dig plan entries)) (ends_by plan (run_over dig plan entries))

-- the entries after one build after another, each over the entries that the one before left
abbrev pub entries_after : Digests → Entries → List PlanView → Entries
entries_after dig entries [] = entries
entries_after dig entries (plan ∷ plans) = entries_after dig (entries_by dig plan (run_over dig plan entries)) plans

-- each plan and the next are apart
abbrev pub AreLinked : Digests → PlanView → List PlanView → Type 0
AreLinked dig plan [] = Unit {0}
AreLinked dig plan (next ∷ plans) = AreApart dig plan next × AreLinked dig next plans

abbrev pub last_of : PlanView → List PlanView → PlanView
last_of plan [] = plan
last_of plan (next ∷ plans) = last_of next plans
