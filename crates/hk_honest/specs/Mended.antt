-- One run before a build, whatever it came to, and what it leaves of the store.
use Rattle.std.specs.Prelude.{◌≡◌, ◌⊎◌, Bool, true, false, List, Option, Some, None, IsSome, Err}
use Rattle.std.specs.FinMap.{get}
use Rattle.hk_base.specs.Bytes.{Bytes, Files}
use Rattle.hk_build.specs.Build.{image, is_empty, report}
use Rattle.hk_outside.specs.Causes.{Rose}
use Rattle.hk_reuse.specs.Entries.{no_entries}
use Rattle.hk_rules.specs.PlanView.{PlanView}
use Rattle.hk_store.specs.Damage.{IsRead}
use Rattle.hk_store.specs.Told.{Short}
use Rattle.hk_store.specs.declared.damage.StoreDamage.{StoreDamage}
use Rattle.hk_words.specs.declared.commands.Command.{Command}
use Rattle.hk_words.specs.declared.commands.Command.TheVariants.{Build, Rebuild, Clean}
use Rattle.hk_words.specs.Words.{command}
use Rattle.hk_app.specs.declared.status.Status.{Status}
use Rattle.hk_app.specs.declared.status.Status.TheVariants.{Ok as Done, Report, ReadFault, WriteFault, NoMemory}
use Rattle.hk_app.specs.Promise.{IsPlanOf, Promise}
use Rattle.hk_app.specs.Standing.{store_path}
use Rattle.hk_app.specs.World.{Folders, Output}
use Rattle.hk_honest.specs.Chain.{IsLinked}
use Rattle.hk_honest.specs.Honest.{IsHonest}

-- the commands that write the store
abbrev pub writes_store : Command → Bool
writes_store (Build o) = true
writes_store (Rebuild o) = true
writes_store _ = false

-- the command that reads it
abbrev pub reads_store : Command → Bool
reads_store (Build o) = true
reads_store _ = false

-- What a failed write of these bytes leaves of the store: what stood before, none, all of the bytes, or some that aren't
-- read as a store, as a cut text whose trailer doesn't match.
pub data IsTornStore (before : Option Bytes) (bytes : Bytes) (now : Option Bytes) : Type 0 where
  held : now ≡ before → IsTornStore before bytes now
  gone : now ≡ None → IsTornStore before bytes now
  whole : now ≡ Some bytes → IsTornStore before bytes now
  cut : (rest : Bytes) (damage : StoreDamage) → Short rest → IsRead rest (Err damage) → now ≡ Some rest → IsTornStore before bytes now

-- the words are a command that writes the store, and the source has this plan
pub record IsBuildOf (words : List Bytes) (old : Folders) (own : PlanView) : Type 0 where
  pub task : Command
  pub asked : command words ≡ Some task
  pub writes : writes_store task ≡ true
  pub source : Files
  pub source_told : old.source.files ≡ Some source
  pub plan_of : IsPlanOf source own

-- The plan of a build before another one: the other's may follow it, the store that it read was honest for it too, and a
-- write of the store that failed left of it what such a write leaves.
pub record IsOwnPlan (task : Command) (own plan : PlanView) (cache after : Files) (old new : Folders) : Type 0 where
  pub linked : IsLinked own plan
  pub honest : reads_store task ≡ true → IsHonest own (get cache store_path)
  pub torn : Rose old.cache.faults new.cache.faults → IsTornStore (get cache store_path) (image own no_entries) (get after store_path)

-- A run of any words that came to any status, over a cache whose store was honest for the plan of the build that follows.
-- The cache tells its files before and after the run, and the source does where the run writes the store.
pub record IsRunBefore (plan : PlanView) (cache after : Files) : Type 0 where
  pub words : List Bytes
  pub old : Folders
  pub new : Folders
  pub out : Output
  pub out' : Output
  pub status : Status
  pub promise : Promise words old new out out' status
  pub cache_told : old.cache.files ≡ Some cache
  pub after_told : new.cache.files ≡ Some after
  pub source_told : (task : Command) → command words ≡ Some task → writes_store task ≡ true → IsSome old.source.files
  pub honest : IsHonest plan (get cache store_path)
  pub built : (own : PlanView) (b : IsBuildOf words old own) → IsOwnPlan b.task own plan cache after old new

-- What stands of the store after a run: what stood before; none, after `clean`; the store of a clean build of the run's
-- plan; or, where a fault of the cache was counted, what a failed write of that store leaves.
pub data IsStoreAfter (words : List Bytes) (old new : Folders) (before now : Option Bytes) : Type 0 where
  as_before : now ≡ before → IsStoreAfter words old new before now
  removed : command words ≡ Some Clean → now ≡ None → IsStoreAfter words old new before now
  written : (own : PlanView) → IsBuildOf words old own → now ≡ Some (image own no_entries) → IsStoreAfter words old new before now
  torn_write : (own : PlanView) → IsBuildOf words old own → Rose old.cache.faults new.cache.faults → IsTornStore before (image own no_entries) now
      → IsStoreAfter words old new before now

-- a run ended with a fault of the source or of the site
abbrev pub FailsElsewhere : Status → Type 0
FailsElsewhere status = (status ≡ ReadFault) ⊎ (status ≡ WriteFault)

-- no call of a folder or of the output failed
pub record IsFaultless (old new : Folders) (out out' : Output) : Type 0 where
  pub source : Rose old.source.faults new.source.faults → ⊥
  pub site : Rose old.site.faults new.site.faults → ⊥
  pub cache : Rose old.cache.faults new.cache.faults → ⊥
  pub said : Rose out.faults out'.faults → ⊥

-- `Ok`, and every item is done in the least fixpoint of the plan; or `Report`, and some item isn't; or want of memory
pub data IsAnswered (plan : PlanView) (status : Status) : Type 0 where
  done : status ≡ Done → is_empty (report plan no_entries) ≡ true → IsAnswered plan status
  reported : status ≡ Report → is_empty (report plan no_entries) ≡ false → IsAnswered plan status
  wanting : status ≡ NoMemory → IsAnswered plan status
