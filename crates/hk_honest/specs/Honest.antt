-- Stores that are honest for a plan, and what a build over one leaves and writes.
use Rattle.std.specs.Prelude.{◌≡◌, ℕ, ◌<◌, Bool, true, false, List, ◌++◌, length, Option, Some, None, Err}
use Rattle.std.specs.FinMap.{insert}
use Rattle.hk_base.specs.Bytes.{Bytes, Files}
use Rattle.hk_build.specs.Build.{compiled, image, is_empty, report, reused, seeds, site_of}
use Rattle.hk_build.specs.Built.{AreApart}
use Rattle.hk_fix.specs.declared.event.Event.{Event}
use Rattle.hk_fix.specs.declared.event.Event.TheVariants.{Begin}
use Rattle.hk_fix.specs.Facts.{is_in}
use Rattle.hk_fix.specs.Fix.{IsComplete, stands}
use Rattle.hk_machine.specs.Machine.{plan_run, plan_shape}
use Rattle.hk_reuse.specs.Entries.{no_entries}
use Rattle.hk_rules.specs.PlanView.{PlanView}
use Rattle.hk_store.specs.Damage.{IsRead}
use Rattle.hk_store.specs.Told.{Short}
use Rattle.hk_store.specs.declared.damage.StoreDamage.{StoreDamage}
use Rattle.hk_texts.specs.Printed.{summary}
use Rattle.hk_app.specs.Promise.{Written, traced}
use Rattle.hk_app.specs.Standing.{removed, store_path, written}
use Rattle.hk_app.specs.Taking.{Taken}
use Rattle.hk_app.specs.World.{Folders, Output}

-- There is none, or it is what a clean build of a plan left that is apart, or it is damaged or of the version before. Its length is below 2^64,
-- as that of every text in memory is.
pub data IsHonest (plan : PlanView) (store : Option Bytes) : Type 0 where
  absent : store ≡ None → IsHonest plan store
  left : (old : PlanView) → AreApart old plan → Short (image old no_entries) → store ≡ Some (image old no_entries) → IsHonest plan store
  damaged : (bytes : Bytes) (damage : StoreDamage) → Short bytes → IsRead bytes (Err damage) → store ≡ Some bytes → IsHonest plan store

-- every item is done in the least fixpoint of the plan, the site is exactly its pages, and `store` is that of a clean build
pub record IsCleanSite (plan : PlanView) (cache : Files) (new : Folders) : Type 0 where
  pub all : is_empty (report plan no_entries) ≡ true
  pub site : new.site.files ≡ Some (site_of plan no_entries)
  pub store : new.cache.files ≡ Some (insert cache store_path (image plan no_entries))

-- some item isn't, the site is as before, and so is the store that of a clean build
pub record IsCleanReport (plan : PlanView) (cache : Files) (old new : Folders) : Type 0 where
  pub some : is_empty (report plan no_entries) ≡ false
  pub site : new.site.files ≡ old.site.files
  pub store : new.cache.files ≡ Some (insert cache store_path (image plan no_entries))

-- the summary over what was taken: it counts the items that were compiled and those that were reused, and what the site of a
-- clean build writes and removes of the files before
abbrev pub clean_summary : PlanView → Taken → Files → Bytes
clean_summary plan t before =
    let site : Files = site_of plan no_entries in
    summary (length (compiled plan t.entries)) (length (reused plan t.entries)) (written site before) (removed site before)

-- What is written in whole: the line of a damaged store; then, where they are asked for, the lines of a history that is complete
-- for the plan's own compilers with the pages and facts of the kept items as seeds, in which exactly the items begin that are
-- compiled; and then the rest.
pub record SaysCleanly (trace : Bool) (plan : PlanView) (t : Taken) (rest : Bytes) (out out' : Output) : Type 0 where
  pub history : List Event
  pub complete : IsComplete (plan_shape plan) (plan_run plan) (seeds plan t.entries) history
  pub begun : (item : ℕ) → item < length plan.items → stands (Begin item) history ≡ is_in (compiled plan t.entries) item
  pub text : Written out out' (t.damage ++ (traced trace plan history ++ rest))
