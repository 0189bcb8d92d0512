-- What the beginning of a build comes to.
use Rattle.std.specs.Prelude.{◌≡◌, ◌≤◌, IfSome, Result, Ok, Err}
use Rattle.std.specs.FinMap.{get}
use Rattle.hk_base.specs.Bytes.{Bytes}
use Rattle.hk_base.specs.declared.refusal.NoMemory.{NoMemory as NoMemory-data}
use Rattle.hk_build.specs.Planned.{IsPlanned}
use Rattle.hk_outside.specs.Causes.{Rose}
use Rattle.hk_rules.specs.PlanView.{PlanView}
use Rattle.hk_store.specs.Stored.{IsStored}
use Rattle.hk_texts.specs.Printed.{store_unread_line}
use Rattle.hk_words.specs.declared.commands.Command.{Command}
use Rattle.hk_app.specs.declared.beginning.Begun.{Begun}
use Rattle.hk_app.specs.declared.beginning.Begun.TheVariants.{Over, Ready}
use Rattle.hk_app.specs.declared.status.Status.TheVariants.{StoreFault}
use Rattle.hk_app.specs.declared.taken.Taken.{Taken as TakenStore}
use Rattle.hk_app.specs.Promise.{Comes, IsPlanOf}
use Rattle.hk_app.specs.Standing.{Same, store_path}
use Rattle.hk_app.specs.TakenBy.{taken_by}
use Rattle.hk_app.specs.Taking.{IsTakenBy, IsTakenOf}
use Rattle.hk_app.specs.World.{Folder, Folders}

-- nothing changed but counts that rose
pub record IsStill (old new : Folders) : Type 0 where
  pub source : Same old.source new.source
  pub source_count : old.source.faults ≤ new.source.faults
  pub site : new.site ≡ old.site
  pub cache : Same old.cache new.cache
  pub cache_count : old.cache.faults ≤ new.cache.faults

-- a plan of the source, and what a command takes of the cache
pub record IsReady (c : Command) (old : Folders) (plan : PlanView) (store : TakenStore) : Type 0 where
  pub planned : IsPlanned plan
  pub read : IfSome old.source.files (λ m. IsPlanOf m plan)
  pub stored : IsStored store.stored
  pub taken : IsTakenBy c old.cache (taken_by store)

abbrev pub HasBegun : Command → Folders → Folders → Begun → Type 0
HasBegun c old new (Over e) = Comes c old new e.status e.text
HasBegun c old new (Ready plan taken) = IsReady c old plan taken

abbrev pub BeginsAs : Command → Folders → Folders → Result Begun NoMemory-data → Type 0
BeginsAs c old new (Ok b) = HasBegun c old new b
BeginsAs c old new (Err e) = Unit {0}

pub record Begins (c : Command) (old new : Folders) (r : Result Begun NoMemory-data) : Type 0 where
  pub still : IsStill old new
  pub begun : BeginsAs c old new r

-- the store couldn't be read, or this was taken of it, for a plan
abbrev pub TakesFor : PlanView → Folder → Folder → Begun → Type 0
TakesFor plan old new (Over e) = (e.status ≡ StoreFault) × ((e.text ≡ store_unread_line) × Rose old.faults new.faults)
TakesFor plan old new (Ready p taken) = (p ≡ plan) × (IsStored taken.stored × IfSome old.files (λ m. IsTakenOf (get m store_path) (taken_by taken)))

abbrev pub TakesStore : PlanView → Folder → Folder → Result Begun NoMemory-data → Type 0
TakesStore plan old new (Ok b) = TakesFor plan old new b
TakesStore plan old new (Err e) = Unit {0}
