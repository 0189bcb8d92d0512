-- What a build gives, and when its replays are those of entries.
use Rattle.std.specs.Prelude.{◌≡◌, List, Option}
use Rattle.std.specs.Option.{ForSome}
use Rattle.hk_base.specs.Bytes.{Bytes}
use Rattle.hk_fix.specs.Results.{ResultsView}
use Rattle.hk_replay.specs.Numbered.{AreNumbered}
use Rattle.hk_replay.specs.declared.record.Records.{Records}
use Rattle.hk_reuse.specs.Entries.{Entries, AreFormed}
use Rattle.hk_rules.specs.PlanView.{PlanView}
use Rattle.hk_rules.specs.MadePlan.{IsMadePlan}
use Rattle.hk_sites.specs.PlanSite.{items_of}
use Rattle.hk_store.specs.Entry.{EntryView}
use Rattle.hk_store.specs.StoreText.{sealed, store_text}
use Rattle.hk_store.specs.Traits.{sha_digests}
use Rattle.hk_build.specs.declared.ended.Build.{Build}
use Rattle.hk_build.specs.Build.{compiled, image}
use Rattle.hk_build.specs.Built.{AreResults}

-- its results, the items that are compiled, and the bytes of its store
pub record IsBuild (plan : PlanView) (entries : Entries) (b : Build) : Type 0 where
  pub results : AreResults plan entries b.results
  pub compiled : b.compiled.items ≡ compiled plan entries
  pub store : b.store ≡ image plan entries

-- results of replays by the records of a made plan's entries
pub record IsReplayed (plan : PlanView) (entries : Entries) (records : Records) (r : ResultsView) : Type 0 where
  pub made : IsMadePlan plan
  pub formed : AreFormed entries
  pub numbered : AreNumbered sha_digests (items_of plan) entries records
  pub results : AreResults plan entries r

abbrev pub HasReplayed : PlanView → Records → ResultsView → Type 0
HasReplayed plan records r = (entries : Entries) × IsReplayed plan entries records r

-- what a build over some entries gave
abbrev pub HasBuilt : PlanView → Build → Type 0
HasBuilt plan b = (entries : Entries) × IsBuild plan entries b

-- bytes, where there are some, are those of a store with these entries
abbrev pub AreBytesOf : List EntryView → Option Bytes → Type 0
AreBytesOf entries bytes = ForSome bytes (λ b. b ≡ sealed (store_text entries))
