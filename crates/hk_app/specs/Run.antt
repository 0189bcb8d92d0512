-- What the parts of a run come to.
use Rattle.std.specs.Prelude.{◌≡◌, ◌≤◌, ◌+◌, Bool, List, Some, IfSome, Result, Ok, Err, length}
use Rattle.std.specs.FinMap.{keys}
use Rattle.hk_base.specs.declared.refusal.NoMemory.{NoMemory as NoMemory-data}
use Rattle.hk_base.specs.Bytes.{Bytes, Files}
use Rattle.hk_build.specs.Build.{site_of}
use Rattle.hk_outside.specs.Causes.{Rose}
use Rattle.hk_rules.specs.PlanView.{PlanView}
use Rattle.hk_words.specs.declared.commands.Command.{Command}
use Rattle.hk_words.specs.Words.{command}
use Rattle.hk_app.specs.declared.ended.Ended.{Ended}
use Rattle.hk_app.specs.declared.status.Status.{Status}
use Rattle.hk_app.specs.declared.status.Status.TheVariants.{Ok as Done, Report, WriteFault, StoreFault, OutFault, NoMemory}
use Rattle.hk_app.specs.Promise.{Always, Comes, Holds, Leaves, AllEnd, AllButStore, EndsStopped, EndsUnsaved, EndsUnwritten, EndsWhole, IsNamed, IsPast, IsSaid, IsShown, Written, Cut}
use Rattle.hk_app.specs.Standing.{Same, SameButStore, IsPartly, IsTorn}
use Rattle.hk_app.specs.Taking.{Taken}
use Rattle.hk_app.specs.World.{Folder, Output, Folders}

-- ---- a run without its last write

pub record Ends (words : List Bytes) (old new : Folders) (status : Status) (text : Bytes) : Type 0 where
  pub always : Always old new
  pub holds : Holds words old new status text

pub record Wants (words : List Bytes) (old new : Folders) : Type 0 where
  pub always : Always old new
  pub leaves : Leaves (command words) old new

abbrev pub EndsWith : List Bytes → Folders → Folders → Result Ended NoMemory-data → Type 0
EndsWith words old new (Ok e) = Ends words old new e.status e.text
EndsWith words old new (Err e) = Wants words old new

-- ---- one command

pub record EndsTask (c : Command) (old new : Folders) (status : Status) (text : Bytes) : Type 0 where
  pub always : Always old new
  pub comes : Comes c old new status text

pub record WantsTask (c : Command) (old new : Folders) : Type 0 where
  pub always : Always old new
  pub leaves : Leaves (Some c) old new

abbrev pub EndsAs : Command → Folders → Folders → Result Ended NoMemory-data → Type 0
EndsAs c old new (Ok e) = EndsTask c old new e.status e.text
EndsAs c old new (Err e) = WantsTask c old new

-- ---- the end of a build, of a plan over what was taken of the cache

pub record IsFailedWrite (old new : Folders) (rest : Bytes) (plan : PlanView) (t : Taken) : Type 0 where
  pub rose : Rose old.site.faults new.site.faults
  pub cache : Same old.cache new.cache
  pub ends : EndsUnwritten old new rest plan t

pub record IsFailedSave (old new : Folders) (rest : Bytes) (plan : PlanView) (t : Taken) : Type 0 where
  pub rose : Rose old.cache.faults new.cache.faults
  pub cache : SameButStore old.cache new.cache
  pub ends : EndsUnsaved old new rest plan t

-- all pages were written, or some item isn't done, or a call failed
abbrev pub EndsBuilt : Folders → Folders → PlanView → Taken → Status → Bytes → Type 0
EndsBuilt old new plan t Done rest = SameButStore old.cache new.cache × EndsWhole old new rest plan t
EndsBuilt old new plan t Report rest = Same old.site new.site × (SameButStore old.cache new.cache × EndsStopped old new rest plan t)
EndsBuilt old new plan t WriteFault rest = IsFailedWrite old new rest plan t
EndsBuilt old new plan t StoreFault rest = IsFailedSave old new rest plan t
EndsBuilt old new plan t status rest = ⊥

-- memory was wanting before the first change, or after some of those of the site, or after a failed one, or later
pub data WantsBuilt (old new : Folders) (plan : PlanView) (t : Taken) : Type 0 where
  before : Same old.site new.site → Same old.cache new.cache → WantsBuilt old new plan t
  among : AllEnd plan t → IsPartly (site_of plan t.entries) old.site new.site → Same old.cache new.cache → WantsBuilt old new plan t
  past_fault : Rose old.site.faults new.site.faults → AllEnd plan t → IsTorn (site_of plan t.entries) old.site new.site → Same old.cache new.cache
      → WantsBuilt old new plan t
  after_all : SameButStore old.cache new.cache → IsPast old new plan t → WantsBuilt old new plan t

abbrev pub EndsBuild : Folders → Folders → PlanView → Taken → Result Ended NoMemory-data → Type 0
EndsBuild old new plan t (Ok e) = EndsBuilt old new plan t e.status e.text
EndsBuild old new plan t (Err e) = WantsBuilt old new plan t

-- the same with the line of a damaged store and the lines of a history in front
abbrev pub EndsTold : Bool → Folders → Folders → PlanView → Taken → Result Ended NoMemory-data → Type 0
EndsTold trace old new plan t (Ok e) = (rest : Bytes) × EndsBuilt old new plan t e.status rest × IsSaid trace plan t rest e.text
EndsTold trace old new plan t (Err e) = WantsBuilt old new plan t

-- ---- the checking of a plan, whose text goes by what is shown

abbrev pub EndsChecked : (PlanView → Bytes) → PlanView → Status → Bytes → Type 0
EndsChecked shown plan Done text = IsShown shown text plan
EndsChecked shown plan Report text = IsNamed text plan
EndsChecked shown plan status text = ⊥

abbrev pub EndsCheck : (PlanView → Bytes) → PlanView → Ended → Type 0
EndsCheck shown plan e = EndsChecked shown plan e.status e.text

-- ---- the last write

-- what saying a text makes of a status
abbrev pub SaysAs : Output → Output → Bytes → Status → Status → Type 0
SaysAs old new text status OutFault = Cut old new text
SaysAs old new text status NoMemory = new.written ≡ old.written
SaysAs old new text status result = (result ≡ status) × Written old new text
