-- Runs of `build`, one after another.
use Rattle.std.specs.Prelude.{◌≡◌, ◌⊎◌, List, Some, None}
use Rattle.std.specs.FinMap.{get}
use Rattle.hk_base.specs.Bytes.{Bytes, Files}
use Rattle.hk_build.specs.Build.{image}
use Rattle.hk_build.specs.Built.{AreApart}
use Rattle.hk_reuse.specs.Entries.{no_entries}
use Rattle.hk_rules.specs.PlanView.{PlanView}
use Rattle.hk_store.specs.Told.{Short}
use Rattle.hk_words.specs.declared.commands.BuildOptions.{BuildOptions}
use Rattle.hk_words.specs.declared.commands.Command.TheVariants.{Build}
use Rattle.hk_words.specs.Words.{command}
use Rattle.hk_app.specs.declared.status.Status.{Status}
use Rattle.hk_app.specs.declared.status.Status.TheVariants.{Ok as Done, Report}
use Rattle.hk_app.specs.Promise.{IsPlanOf, Promise}
use Rattle.hk_app.specs.Standing.{store_path}
use Rattle.hk_app.specs.World.{Folders, Output}

-- a run of `build` with this status over folders that tell their files, of which the source has this plan
pub record IsRun (plan : PlanView) (cache : Files) (old new : Folders) (status : Status) : Type 0 where
  pub words : List Bytes
  pub options : BuildOptions
  pub asked : command words ≡ Some (Build options)
  pub out : Output
  pub out' : Output
  pub promise : Promise words old new out out' status
  pub source : Files
  pub source_told : old.source.files ≡ Some source
  pub plan_of : IsPlanOf source plan
  pub site : Files
  pub site_told : old.site.files ≡ Some site
  pub cache_told : old.cache.files ≡ Some cache

-- a plan may follow another: the two are apart, and the length of the store between them is below 2^64
pub record IsLinked (before plan : PlanView) : Type 0 where
  pub apart : AreApart before plan
  pub short : Short (image before no_entries)

abbrev pub EndsBuild : Status → Type 0
EndsBuild status = (status ≡ Done) ⊎ (status ≡ Report)

-- A chain of builds, each with the status Ok or Report, that began without a store: its last plan, and the cache that it left.
-- Each plan may follow the one before.
pub data IsChain : PlanView → Files → Type 0 where
  first : (plan : PlanView) (left cache : Files) (old new : Folders) (status : Status) → IsRun plan cache old new status → EndsBuild status → get cache store_path ≡ None
      → new.cache.files ≡ Some left → IsChain plan left
  next : (before plan : PlanView) (left cache : Files) (old new : Folders) (status : Status) → IsChain before cache → IsLinked before plan → IsRun plan cache old new status
      → EndsBuild status → new.cache.files ≡ Some left → IsChain plan left
