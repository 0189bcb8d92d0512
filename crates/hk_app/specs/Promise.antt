-- What each status of a run promises.
use Rattle.std.specs.Prelude.{◌≡◌, ◌⊎◌, ℕ, ◌+◌, ◌≤◌, Bool, true, false, List, [], ◌++◌, Option, Some, None, IfSome, length, take}
use Rattle.std.specs.FinMap.{keys}
use Rattle.hk_base.specs.Bytes.{Bytes, Files}
use Rattle.hk_build.specs.Build.{compiled, endings, image, is_empty, pages, report, reused, run_of, seeds, shown, site_of}
use Rattle.hk_build.specs.Linked.{all_lead, link_lines}
use Rattle.hk_build.specs.Pages.{pages_at}
use Rattle.hk_build.specs.Planned.{IsPlanned}
use Rattle.hk_build.specs.declared.site_fault.SiteFault.{SiteFault}
use Rattle.hk_build.specs.declared.site_fault.SiteFault.TheVariants.{Plan, Tags, Feeds}
use Rattle.hk_chain.specs.declared.page.Page.{Page}
use Rattle.hk_fix.specs.declared.event.Event.{Event}
use Rattle.hk_fix.specs.Fix.{IsComplete}
use Rattle.hk_gen.specs.Site.{site}
use Rattle.hk_machine.specs.Machine.{plan_shape}
use Rattle.hk_outside.specs.Causes.{Rose}
use Rattle.hk_reuse.specs.Entries.{no_entries}
use Rattle.hk_reuse.specs.Site.{no_seeds}
use Rattle.hk_rules.specs.PlanView.{PlanView}
use Rattle.hk_rules.specs.Plan.{lookups}
use Rattle.hk_texts.specs.DepsText.{deps_text}
use Rattle.hk_texts.specs.Printed.{absent_line, rules_line, plan_line, tag_line, feed_line, read_fault_line, write_fault_line, summary, items_line, removed_line}
use Rattle.hk_texts.specs.Printed.{store_unread_line, store_unwritten_line, store_unremoved_line}
use Rattle.hk_texts.specs.ReportText.{report_text}
use Rattle.hk_texts.specs.TraceText.{trace_text}
use Rattle.hk_words.specs.Usage.{usage}
use Rattle.hk_words.specs.Words.{command}
use Rattle.hk_words.specs.declared.commands.Command.{Command}
use Rattle.hk_words.specs.declared.commands.GenerateOptions.{GenerateOptions}
use Rattle.hk_words.specs.declared.commands.Command.TheVariants.{Build, Rebuild, Check, Deps, Clean, Generate, Links}
use Rattle.hk_app.specs.declared.status.Status.{Status}
use Rattle.hk_app.specs.declared.status.Status.TheVariants.{Ok as Done, Report, Usage, BadRules, BadSite, ReadFault, WriteFault}
use Rattle.hk_app.specs.declared.status.Status.TheVariants.{StoreFault, OutFault, NoMemory, BadLinks}
use Rattle.hk_app.specs.Generated.{site_line}
use Rattle.hk_app.specs.FolderReading.{Reading, absent, refused, unplanned, planned, files_reading, reading}
use Rattle.hk_app.specs.Standing.{Same, Told, SameButStore, LostSome, HoldsOnly, IsCleared, IsSaved, IsPartly, IsTorn, written, removed}
use Rattle.hk_app.specs.Taking.{Taken, Takes, TakesAny, nothing}
use Rattle.hk_app.specs.World.{Folder, Output, Folders}

-- ---- with every status

pub record Always (old new : Folders) : Type 0 where
  pub source : Same old.source new.source
  pub source_count : old.source.faults ≤ new.source.faults
  pub site_count : old.site.faults ≤ new.site.faults
  pub site_told : Told old.site new.site
  pub cache_count : old.cache.faults ≤ new.cache.faults
  pub cache_told : Told old.cache new.cache

-- no call of any of the three folders was made
abbrev pub Untouched : Folders → Folders → Type 0
Untouched old new = new ≡ old

-- ---- what a command goes by

-- the plan of a folder's files, made of linked rules
pub record IsPlanOf (files : Files) (plan : PlanView) : Type 0 where
  pub read : reading files ≡ planned plan
  pub of_rules : IsPlanned plan

-- the source has a plan, and of it P holds
abbrev pub Plans : Folders → (PlanView → Type 0) → Type 0
Plans old P = IfSome old.source.files (λ m. (plan : PlanView) × IsPlanOf m plan × P plan)

-- the source has a plan, and of it and of what the command takes of the cache P holds
abbrev pub Runs : Command → Folders → (PlanView → Taken → Type 0) → Type 0
Runs c old P = Plans old (λ plan. Takes c old.cache (P plan))

-- the commands that read the source
abbrev pub reads_source : Command → Bool
reads_source Clean = false
reads_source (Generate o) = false
reads_source _ = true

-- every item is done
abbrev pub AllEnd : PlanView → Taken → Type 0
AllEnd plan t = is_empty (report plan t.entries) ≡ true

-- some item failed or waits
abbrev pub SomeStop : PlanView → Taken → Type 0
SomeStop plan t = is_empty (report plan t.entries) ≡ false

abbrev pub summary_of : PlanView → Taken → Files → Bytes
summary_of plan t before =
    summary (length (compiled plan t.entries)) (length (reused plan t.entries)) (written (site_of plan t.entries) before) (removed (site_of plan t.entries) before)

abbrev pub report_lines : PlanView → Taken → Bytes
report_lines plan t = report_text (lookups plan) (endings plan t.entries) (report plan t.entries)

abbrev pub count_line : PlanView → Bytes
count_line plan = items_line (length plan.items)

abbrev pub deps_lines : PlanView → Bytes
deps_lines plan = deps_text (lookups plan) (length plan.items) (endings plan no_entries)

-- ---- what a build says

-- the lines of a history, where they are asked for
abbrev pub traced : Bool → PlanView → List Event → Bytes
traced true plan history = trace_text (lookups plan) history
traced false plan history = []

-- The line of a damaged store; then, where they are asked for, the lines of a history without the events of the items that
-- are reused, which is complete with these items' pages and facts as seeds; and then the rest.
pub record IsSaid (trace : Bool) (plan : PlanView) (t : Taken) (rest said : Bytes) : Type 0 where
  pub history : List Event
  pub complete : IsComplete (plan_shape plan) (run_of plan t.entries) no_seeds history
  pub seeded : IsComplete (plan_shape plan) (run_of plan t.entries) (seeds plan t.entries) (shown plan t.entries history)
  pub text : said ≡ t.damage ++ (traced trace plan (shown plan t.entries history) ++ rest)

-- ---- how a build ends

-- all items are done, the site is exactly their pages, and the store is theirs
pub record EndsWhole (old new : Folders) (rest : Bytes) (plan : PlanView) (t : Taken) : Type 0 where
  pub all : AllEnd plan t
  pub site : HoldsOnly (site_of plan t.entries) old.site new.site
  pub store : IsSaved (image plan t.entries) old.cache new.cache
  pub text : IfSome old.site.files (λ before. rest ≡ summary_of plan t before)

-- some item isn't, and the store is that of those that are
pub record EndsStopped (old new : Folders) (rest : Bytes) (plan : PlanView) (t : Taken) : Type 0 where
  pub some : SomeStop plan t
  pub store : IsSaved (image plan t.entries) old.cache new.cache
  pub text : rest ≡ report_lines plan t

-- all items are done, and a change of the site failed
pub record EndsUnwritten (old new : Folders) (rest : Bytes) (plan : PlanView) (t : Taken) : Type 0 where
  pub all : AllEnd plan t
  pub site : IsTorn (site_of plan t.entries) old.site new.site
  pub text : rest ≡ write_fault_line

-- all but the store is done: the site holds the pages, or is as before where some item isn't done; and this is to be said
pub data AllButStore (old new : Folders) (rest : Bytes) (plan : PlanView) (t : Taken) : Type 0 where
  whole : AllEnd plan t → HoldsOnly (site_of plan t.entries) old.site new.site → IfSome old.site.files (λ before. rest ≡ summary_of plan t before)
      → AllButStore old new rest plan t
  stopped : SomeStop plan t → Same old.site new.site → rest ≡ report_lines plan t → AllButStore old new rest plan t

pub record EndsUnsaved (old new : Folders) (rest : Bytes) (plan : PlanView) (t : Taken) : Type 0 where
  pub before : Bytes
  pub done : AllButStore old new before plan t
  pub text : rest ≡ before ++ store_unwritten_line

-- a build ended so and says it
pub record Says (Ends : Bytes → PlanView → Taken → Type 0) (trace : Bool) (said : Bytes) (plan : PlanView) (t : Taken) : Type 0 where
  pub rest : Bytes
  pub ends : Ends rest plan t
  pub text : IsSaid trace plan t rest said

-- ---- 0: the command was done

pub record Builds (c : Command) (trace : Bool) (old new : Folders) (said : Bytes) : Type 0 where
  pub cache : SameButStore old.cache new.cache
  pub run : Runs c old (Says (EndsWhole old new) trace said)

pub record IsShown (shown : PlanView → Bytes) (said : Bytes) (plan : PlanView) : Type 0 where
  pub all : AllEnd plan nothing
  pub text : said ≡ shown plan

-- some item failed or waits, from nothing that is kept, and the text is the report
pub record IsNamed (said : Bytes) (plan : PlanView) : Type 0 where
  pub some : SomeStop plan nothing
  pub text : said ≡ report_lines plan nothing

-- nothing but the text is written
pub record Shows (shown : PlanView → Bytes) (old new : Folders) (said : Bytes) : Type 0 where
  pub site : Same old.site new.site
  pub cache : Same old.cache new.cache
  pub run : Plans old (IsShown shown said)

-- both folders are empty, and the text counts their files
pub record Cleans (old new : Folders) (said : Bytes) : Type 0 where
  pub site : IsCleared old.site new.site
  pub cache : IsCleared old.cache new.cache
  pub text : IfSome old.site.files (λ m. IfSome old.cache.files (λ k. said ≡ removed_line (length (keys m) + length (keys k))))

-- what the source folder of a generated site comes to
abbrev pub generated : GenerateOptions → Reading
generated o = files_reading (site o.number o.count)

-- it has a plan, of which P holds
abbrev pub PlansGenerated : GenerateOptions → (PlanView → Type 0) → Type 0
PlansGenerated o P = (plan : PlanView) × (generated o ≡ planned plan) × P plan

-- no folder is touched, and the text tells the generated site
pub record Generates (o : GenerateOptions) (P : PlanView → Type 0) (old new : Folders) : Type 0 where
  pub folders : Untouched old new
  pub run : PlansGenerated o P

-- the pages of the site, from nothing that is kept, in the order of their targets
abbrev pub page_list : PlanView → List (Bytes × Page)
page_list plan = pages_at plan (pages plan no_entries)

-- all items are done, each link leads somewhere or not, and the text says which links don't and how many there are
pub record HasLinks (lead : Bool) (said : Bytes) (plan : PlanView) : Type 0 where
  pub all : AllEnd plan nothing
  pub links : all_lead (page_list plan) ≡ lead
  pub text : said ≡ link_lines (page_list plan)

pub record TestsLinks (lead : Bool) (old new : Folders) (said : Bytes) : Type 0 where
  pub site : Same old.site new.site
  pub cache : Same old.cache new.cache
  pub run : Plans old (HasLinks lead said)

abbrev pub IsDone : Command → Folders → Folders → Bytes → Type 0
IsDone (Build o) = Builds (Build o) o.trace
IsDone (Rebuild o) = Builds (Rebuild o) o.trace
IsDone Check = Shows count_line
IsDone Deps = Shows deps_lines
IsDone Clean = Cleans
IsDone (Generate o) = λ old new said. Generates o (IsShown site_line said) old new
IsDone Links = TestsLinks true

-- ---- 1: some item failed or waits

pub record Reports (c : Command) (trace : Bool) (old new : Folders) (said : Bytes) : Type 0 where
  pub site : Same old.site new.site
  pub cache : SameButStore old.cache new.cache
  pub run : Runs c old (Says (EndsStopped old new) trace said)

pub record Names (old new : Folders) (said : Bytes) : Type 0 where
  pub site : Same old.site new.site
  pub cache : Same old.cache new.cache
  pub run : Plans old (IsNamed said)

abbrev pub IsStopped : Command → Folders → Folders → Bytes → Type 0
IsStopped (Build o) old new said = Reports (Build o) o.trace old new said
IsStopped (Rebuild o) old new said = Reports (Rebuild o) o.trace old new said
IsStopped Check old new said = Names old new said
IsStopped Deps old new said = Names old new said
IsStopped Clean old new said = ⊥
IsStopped (Generate o) old new said = Generates o (IsNamed said) old new
IsStopped Links old new said = Names old new said

-- ---- 3, 4 and 5: the source has no plan, or can't be read

-- there are no rules, and the text says why
abbrev pub IsBadRules : Bytes → Reading → Type 0
IsBadRules said absent = said ≡ absent_line
IsBadRules said (refused fault) = said ≡ rules_line fault
IsBadRules said (unplanned fault) = ⊥
IsBadRules said (planned plan) = ⊥

-- why a site has no plan
abbrev pub fault_line : SiteFault → Bytes
fault_line (Plan fault) = plan_line fault
fault_line (Tags fault) = tag_line fault
fault_line (Feeds fault) = feed_line fault

-- the site has no plan, and the text says why
abbrev pub IsBadSite : Bytes → Reading → Type 0
IsBadSite said absent = ⊥
IsBadSite said (refused fault) = ⊥
IsBadSite said (unplanned fault) = said ≡ fault_line fault
IsBadSite said (planned plan) = ⊥

-- the command reads the source, which was read, and this holds of what it comes to
pub record IsRefused (c : Command) (P : Reading → Type 0) (old new : Folders) : Type 0 where
  pub reads : reads_source c ≡ true
  pub cause : IfSome old.source.files (λ m. P (reading m))
  pub site : Same old.site new.site
  pub cache : Same old.cache new.cache

pub record IsUnread (c : Command) (old new : Folders) (said : Bytes) : Type 0 where
  pub reads : reads_source c ≡ true
  pub cause : Rose old.source.faults new.source.faults
  pub site : Same old.site new.site
  pub cache : Same old.cache new.cache
  pub text : said ≡ read_fault_line

-- the same of a generated site
pub record IsRefusedGenerated (P : Reading → Type 0) (o : GenerateOptions) (old new : Folders) : Type 0 where
  pub folders : Untouched old new
  pub cause : P (generated o)

abbrev pub IsUnplanned : Command → (Reading → Type 0) → Folders → Folders → Type 0
IsUnplanned (Generate o) P = IsRefusedGenerated P o
IsUnplanned c P = IsRefused c P

-- ---- 6: the site can't be written, or not be removed

pub record FailsWriting (c : Command) (trace : Bool) (old new : Folders) (said : Bytes) : Type 0 where
  pub cause : Rose old.site.faults new.site.faults
  pub cache : Same old.cache new.cache
  pub run : Runs c old (Says (EndsUnwritten old new) trace said)

pub record FailsCleaning (old new : Folders) (said : Bytes) : Type 0 where
  pub cause : Rose old.site.faults new.site.faults
  pub site : LostSome old.site new.site
  pub cache : Same old.cache new.cache
  pub text : said ≡ write_fault_line

abbrev pub IsWriteFault : Command → Folders → Folders → Bytes → Type 0
IsWriteFault (Build o) old new said = FailsWriting (Build o) o.trace old new said
IsWriteFault (Rebuild o) old new said = FailsWriting (Rebuild o) o.trace old new said
IsWriteFault Check old new said = ⊥
IsWriteFault Deps old new said = ⊥
IsWriteFault Clean old new said = FailsCleaning old new said
IsWriteFault (Generate o) old new said = ⊥
IsWriteFault Links old new said = ⊥

-- ---- 7: the store can't be read or written, or the cache not be removed

pub record FailsReading (old new : Folders) (said : Bytes) : Type 0 where
  pub cause : Rose old.cache.faults new.cache.faults
  pub site : Same old.site new.site
  pub cache : Same old.cache new.cache
  pub plan : Plans old (λ plan. Unit {0})
  pub text : said ≡ store_unread_line

pub record FailsSaving (c : Command) (trace : Bool) (old new : Folders) (said : Bytes) : Type 0 where
  pub cause : Rose old.cache.faults new.cache.faults
  pub cache : SameButStore old.cache new.cache
  pub run : Runs c old (Says (EndsUnsaved old new) trace said)

pub record FailsRemoving (old new : Folders) (said : Bytes) : Type 0 where
  pub cause : Rose old.cache.faults new.cache.faults
  pub site : IsCleared old.site new.site
  pub cache : LostSome old.cache new.cache
  pub text : said ≡ store_unremoved_line

abbrev pub IsStoreFault : Command → Folders → Folders → Bytes → Type 0
IsStoreFault (Build o) old new said = FailsReading old new said ⊎ FailsSaving (Build o) o.trace old new said
IsStoreFault (Rebuild o) old new said = FailsSaving (Rebuild o) o.trace old new said
IsStoreFault Check old new said = ⊥
IsStoreFault Deps old new said = ⊥
IsStoreFault Clean old new said = FailsRemoving old new said
IsStoreFault (Generate o) old new said = ⊥
IsStoreFault Links old new said = ⊥

-- ---- 10: a link leads nowhere

abbrev pub IsBadLinks : Command → Folders → Folders → Bytes → Type 0
IsBadLinks Links old new said = TestsLinks false old new said
IsBadLinks c old new said = ⊥

-- ---- what holds of a run that came to a status and has this text to write

-- a command came to a status
abbrev pub Comes : Command → Folders → Folders → Status → Bytes → Type 0
Comes c old new Done said = IsDone c old new said
Comes c old new Report said = IsStopped c old new said
Comes c old new Usage said = ⊥
Comes c old new BadRules said = IsUnplanned c (IsBadRules said) old new
Comes c old new BadSite said = IsUnplanned c (IsBadSite said) old new
Comes c old new ReadFault said = IsUnread c old new said
Comes c old new WriteFault said = IsWriteFault c old new said
Comes c old new StoreFault said = IsStoreFault c old new said
Comes c old new OutFault said = ⊥
Comes c old new NoMemory said = ⊥
Comes c old new BadLinks said = IsBadLinks c old new said

-- the words are a command, and this came to a status
pub record AtCommand (words : List Bytes) (old new : Folders) (status : Status) (said : Bytes) : Type 0 where
  pub task : Command
  pub asked : command words ≡ Some task
  pub comes : Comes task old new status said

-- ---- 2: the words are no command

pub record AtUsage (words : List Bytes) (old new : Folders) (said : Bytes) : Type 0 where
  pub cause : command words ≡ None
  pub folders : Untouched old new
  pub text : said ≡ usage

abbrev pub Holds : List Bytes → Folders → Folders → Status → Bytes → Type 0
Holds words old new Usage said = AtUsage words old new said
Holds words old new status said = AtCommand words old new status said

-- ---- 9: want of memory

pub record IsPartlyBuilt (old new : Folders) (plan : PlanView) (t : Taken) : Type 0 where
  pub all : AllEnd plan t
  pub site : IsPartly (site_of plan t.entries) old.site new.site

pub record IsTornBuilt (old new : Folders) (plan : PlanView) (t : Taken) : Type 0 where
  pub all : AllEnd plan t
  pub site : IsTorn (site_of plan t.entries) old.site new.site

-- what may stand of `store` once all else is done: it is as before, or the new one, or after a counted fault anything
pub data StoreLeft (bytes : Bytes) (old new : Folder) : Type 0 where
  unsaved : Same old new → StoreLeft bytes old new
  saved : IsSaved bytes old new → StoreLeft bytes old new
  torn_store : Rose old.faults new.faults → SameButStore old new → StoreLeft bytes old new

pub record IsPast (old new : Folders) (plan : PlanView) (t : Taken) : Type 0 where
  pub rest : Bytes
  pub done : AllButStore old new rest plan t
  pub store : StoreLeft (image plan t.entries) old.cache new.cache

-- a build: nothing was done, or some of the site, or all of it, and only then was the store written
pub data StopsBuild (c : Command) (old new : Folders) : Type 0 where
  unbegun : Same old.site new.site → Same old.cache new.cache → StopsBuild c old new
  partly : Runs c old (IsPartlyBuilt old new) → Same old.cache new.cache → StopsBuild c old new
  torn_site : Rose old.site.faults new.site.faults → Runs c old (IsTornBuilt old new) → Same old.cache new.cache → StopsBuild c old new
  past : Runs c old (IsPast old new) → SameButStore old.cache new.cache → StopsBuild c old new

-- `clean`: some files of the site are gone, or all of it and some files of the cache
pub data StopsClean (old new : Folders) : Type 0 where
  clearing_site : LostSome old.site new.site → Same old.cache new.cache → StopsClean old new
  clearing_cache : IsCleared old.site new.site → LostSome old.cache new.cache → StopsClean old new

pub record StopsReader (old new : Folders) : Type 0 where
  pub site : Same old.site new.site
  pub cache : Same old.cache new.cache

-- what want of memory leaves
abbrev pub Leaves : Option Command → Folders → Folders → Type 0
Leaves None old new = Untouched old new
Leaves (Some (Build o)) old new = StopsBuild (Build o) old new
Leaves (Some (Rebuild o)) old new = StopsBuild (Rebuild o) old new
Leaves (Some Check) old new = StopsReader old new
Leaves (Some Deps) old new = StopsReader old new
Leaves (Some Clean) old new = StopsClean old new
Leaves (Some (Generate o)) old new = Untouched old new
Leaves (Some Links) old new = StopsReader old new

-- ---- what is written

pub record Written (old new : Output) (text : Bytes) : Type 0 where
  pub all : IfSome old.written (λ w. new.written ≡ Some (w ++ text))

-- a front of the text, after a counted fault
pub record Cut (old new : Output) (text : Bytes) : Type 0 where
  pub cause : Rose old.faults new.faults
  pub front : IfSome old.written (λ w. (n : ℕ) × (n ≤ length text) × (new.written ≡ Some (w ++ take n text)))

-- nothing is written
pub record AtNoMemory (words : List Bytes) (old new : Folders) (out out' : Output) : Type 0 where
  pub leaves : Leaves (command words) old new
  pub written : out'.written ≡ out.written

-- Of a text that was cut short all else holds that holds of its own status.
pub record AtOutFault (words : List Bytes) (old new : Folders) (out out' : Output) : Type 0 where
  pub status : Status
  pub text : Bytes
  pub holds : Holds words old new status text
  pub cut : Cut out out' text

pub record Prints (words : List Bytes) (old new : Folders) (out out' : Output) (status : Status) : Type 0 where
  pub text : Bytes
  pub holds : Holds words old new status text
  pub written : Written out out' text

abbrev pub Said : List Bytes → Folders → Folders → Output → Output → Status → Type 0
Said words old new out out' OutFault = AtOutFault words old new out out'
Said words old new out out' NoMemory = AtNoMemory words old new out out'
Said words old new out out' status = Prints words old new out out' status

-- ---- completeness

-- the source has a plan, and all its items are done with whatever the command takes of the cache
pub record HasSoundPlan (c : Command) (old : Folders) : Type 0 where
  pub files : Files
  pub told : old.source.files ≡ Some files
  pub plan : PlanView
  pub planned : reading files ≡ planned plan
  pub all : TakesAny c old.cache (AllEnd plan)

-- the source has a plan, all its items are done, and each link of their pages leads somewhere
pub record HasLeadingPlan (old : Folders) : Type 0 where
  pub files : Files
  pub told : old.source.files ≡ Some files
  pub plan : PlanView
  pub planned : reading files ≡ planned plan
  pub all : AllEnd plan nothing
  pub links : all_lead (page_list plan) ≡ true

abbrev pub IsSound : Command → Folders → Type 0
IsSound Clean old = Unit {0}
IsSound (Generate o) old = PlansGenerated o (λ plan. AllEnd plan nothing)
IsSound Links old = HasLeadingPlan old
IsSound c old = HasSoundPlan c old

pub data HasFault (old new : Folders) : Type 0 where
  of_source : Rose old.source.faults new.source.faults → HasFault old new
  of_site : Rose old.site.faults new.site.faults → HasFault old new
  of_cache : Rose old.cache.faults new.cache.faults → HasFault old new

-- a run gave way to want of memory or to a fault that was counted
pub data IsExcused (old new : Folders) (out out' : Output) (status : Status) : Type 0 where
  wanting : status ≡ NoMemory → IsExcused old new out out' status
  failed : HasFault old new → IsExcused old new out out' status
  unsaid : Rose out.faults out'.faults → IsExcused old new out out' status

abbrev pub EndsWell : Folders → Folders → Output → Output → Status → Type 0
EndsWell old new out out' status = (status ≡ Done) ⊎ IsExcused old new out out' status

-- ---- the promise

-- With a command and a sound source a run ends well, but for want of memory or a counted fault.
pub record Promise (words : List Bytes) (old new : Folders) (out out' : Output) (status : Status) : Type 0 where
  pub always : Always old new
  pub later : out.faults ≤ out'.faults
  pub said : Said words old new out out' status
  pub complete : (c : Command) → command words ≡ Some c → IsSound c old → EndsWell old new out out' status
