-- From what the parts of a run come to, to what the run promises.
use Rattle.std.proofs.Common.{◌≡◌, ℕ, Bool, true, false, List, Option, Some, None, refl, sym, ap, subst, ◌∙◌, arith, IfSome, Result, Ok, Err, IfOk, inl, inr, ◌≤◌, ◌⊎◌}
use Rattle.std.specs.Prelude.{IsSome}
use Rattle.std.specs.FinMap.{get}
use Rattle.hk_base.specs.Bytes.{Bytes, Files}
use Rattle.hk_base.specs.declared.refusal.NoMemory.{NoMemory as NoMemory-data}
use Rattle.hk_build.specs.Build.{report, is_empty}
use Rattle.hk_outside.specs.Causes.{Rose}
use Rattle.hk_rules.specs.PlanView.{PlanView}
use Rattle.hk_writer.specs.Writing.{HeldOrNone}
use Rattle.hk_words.specs.Usage.{usage}
use Rattle.hk_words.specs.declared.commands.BuildOptions.{BuildOptions}
use Rattle.hk_words.specs.declared.commands.Command.{Command}
use Rattle.hk_words.specs.declared.commands.Command.TheVariants.{Build, Rebuild, Check, Deps, Clean, Generate, Links}
use Rattle.hk_words.specs.Words.{command}
use Rattle.hk_app.specs.declared.ended.Ended.{Ended}
use Rattle.hk_app.specs.declared.status.Status.{Status}
use Rattle.hk_app.specs.declared.status.Status.TheVariants.{Ok as Done, Report, Usage, BadRules, BadSite, ReadFault, WriteFault, StoreFault, OutFault, NoMemory, BadLinks}
use Rattle.hk_app.specs.Gathering.{RefusesFolder}
use Rattle.hk_app.specs.Promise.{Always, Plans, Runs, IsPlanOf, reads_source, AllEnd, SomeStop, IsSaid, EndsWhole, EndsStopped, EndsUnwritten, EndsUnsaved, AllButStore, Says, Builds, Reports, FailsWriting, FailsSaving}
use Rattle.hk_app.specs.Promise.{IsNamed, IsShown, Shows, IsStopped, IsWriteFault, IsStoreFault, IsBadRules, IsBadSite, IsUnplanned, Comes, Holds, IsPartlyBuilt, IsTornBuilt, IsPast, StoreLeft, saved, unsaved, torn_store, whole, stopped}
use Rattle.hk_app.specs.Promise.{StopsBuild, unbegun, partly, torn_site, past, StopsClean, clearing_site, clearing_cache, StopsReader, Leaves, IsSound, HasSoundPlan, IsExcused, failed, unsaid, wanting, of_source, of_site, of_cache, EndsWell, Promise}
use Rattle.hk_app.specs.Run.{Ends, EndsWith, EndsAs, EndsBuilt, EndsTold, WantsBuilt, before, among, after_all, past_fault, EndsChecked, EndsCheck, SaysAs}
use Rattle.hk_app.specs.FolderReading.{Reading, absent, refused, unplanned, planned, reading}
use Rattle.hk_app.specs.Standing.{Same, Told, SameButStore, store_path}
use Rattle.hk_app.specs.Taking.{Taken, Takes, TakesAny, IsTakenBy, IsTakenOf, nothing}
use Rattle.hk_app.specs.World.{Folder, Folders, Output, folders}

-- ---- what is known of an option

pub at-some : {A : Type 0} {o : Option A} {x : A} (P : A → Type 0) → o ≡ Some x → IfSome o P → P x
at-some P e h = subst (λ o. IfSome o P) e h

some-map : {A : Type 0} (P Q : A → Type 0) → ((x : A) → P x → Q x) → (o : Option A) → IfSome o P → IfSome o Q
some-map P Q f None h = tt
some-map P Q f (Some x) h = f x h

-- what holds of the plan, and of what is taken of the cache
plans-map : (old : Folders) (P Q : PlanView → Type 0) → ((plan : PlanView) → P plan → Q plan) → Plans old P → Plans old Q
plans-map old P Q f = some-map _ _ (λ m h. (h.0, h.1, f h.0 h.2)) old.source.files

pub plans-of : (old : Folders) (P : PlanView → Type 0) (plan : PlanView) → IfSome old.source.files (λ m. IsPlanOf m plan) → P plan → Plans old P
plans-of old P plan is h = some-map _ _ (λ m at. (plan, at, h)) old.source.files is

takes-map : (c : Command) (cache : Folder) (P Q : Taken → Type 0) → ((t : Taken) → P t → Q t) → Takes c cache P → Takes c cache Q
takes-map (Build o) cache P Q f h = some-map _ _ (λ m w. (w.0, w.1, f w.0 w.2)) cache.files h
takes-map (Rebuild o) cache P Q f h = f nothing h
takes-map Check cache P Q f h = f nothing h
takes-map Deps cache P Q f h = f nothing h
takes-map Clean cache P Q f h = f nothing h
takes-map (Generate o) cache P Q f h = f nothing h
takes-map Links cache P Q f h = f nothing h

takes-of : (c : Command) (cache : Folder) (P : Taken → Type 0) (t : Taken) → IsTakenBy c cache t → P t → Takes c cache P
takes-of (Build o) cache P t is h = some-map _ _ (λ m at. (t, at, h)) cache.files is
takes-of (Rebuild o) cache P t is h = subst P is h
takes-of Check cache P t is h = subst P is h
takes-of Deps cache P t is h = subst P is h
takes-of Clean cache P t is h = subst P is h
takes-of (Generate o) cache P t is h = subst P is h
takes-of Links cache P t is h = subst P is h

pub runs-map : (c : Command) (old : Folders) (P Q : PlanView → Taken → Type 0) → ((plan : PlanView) (t : Taken) → P plan t → Q plan t) → Runs c old P → Runs c old Q
runs-map c old P Q f = plans-map old (λ plan. Takes c old.cache (P plan)) (λ plan. Takes c old.cache (Q plan)) (λ plan. takes-map c old.cache (P plan) (Q plan) (f plan))

-- ---- one command

module _ (c : Command) (trace : Bool) (old new : Folders) (plan : PlanView) (t : Taken) (read : IfSome old.source.files (λ m. IsPlanOf m plan)) (taken : IsTakenBy c old.cache t) where
  runs-of : (P : PlanView → Taken → Type 0) → P plan t → Runs c old P
  runs-of P h = plans-of old (λ p. Takes c old.cache (P p)) plan read (takes-of c old.cache (P plan) t taken h)

  says : (E : Bytes → PlanView → Taken → Type 0) (rest text : Bytes) → E rest plan t → IsSaid trace plan t rest text → Runs c old (Says E trace text)
  says E rest text e s = runs-of (Says E trace text) (record { rest = rest; ends = e; text = s })

  builds : (rest text : Bytes) → EndsBuilt old new plan t Done rest → IsSaid trace plan t rest text → Builds c trace old new text
  builds rest text h s = record { cache = h.0; run = says (EndsWhole old new) rest text h.1 s }

  reports : (rest text : Bytes) → EndsBuilt old new plan t Report rest → IsSaid trace plan t rest text → Reports c trace old new text
  reports rest text h s = record { site = h.0; cache = h.1.0; run = says (EndsStopped old new) rest text h.1.1 s }

  fails-writing : (rest text : Bytes) → EndsBuilt old new plan t WriteFault rest → IsSaid trace plan t rest text → FailsWriting c trace old new text
  fails-writing rest text h s = record { cause = h.rose; cache = h.cache; run = says (EndsUnwritten old new) rest text h.ends s }

  fails-saving : (rest text : Bytes) → EndsBuilt old new plan t StoreFault rest → IsSaid trace plan t rest text → FailsSaving c trace old new text
  fails-saving rest text h s = record { cause = h.rose; cache = h.cache; run = says (EndsUnsaved old new) rest text h.ends s }

  stops-build : WantsBuilt old new plan t → StopsBuild c old new
  stops-build (before a b) = unbegun a b
  stops-build (among all h same) = partly (runs-of (IsPartlyBuilt old new) (record { all = all; site = h })) same
  stops-build (past_fault rose all h same) = torn_site rose (runs-of (IsTornBuilt old new) (record { all = all; site = h })) same
  stops-build (after_all but h) = past (runs-of (IsPast old new) h) but

module _ (o : BuildOptions) (old new : Folders) (plan : PlanView) (t : Taken) (read : IfSome old.source.files (λ m. IsPlanOf m plan)) where
  build-comes : IsTakenBy (Build o) old.cache t → (status : Status) (rest text : Bytes) → EndsBuilt old new plan t status rest → IsSaid o.trace plan t rest text → Comes (Build o) old new status text
  build-comes taken Done rest text h s = builds (Build o) o.trace old new plan t read taken rest text h s
  build-comes taken Report rest text h s = reports (Build o) o.trace old new plan t read taken rest text h s
  build-comes taken Usage rest text h s = absurd h
  build-comes taken BadRules rest text h s = absurd h
  build-comes taken BadSite rest text h s = absurd h
  build-comes taken ReadFault rest text h s = absurd h
  build-comes taken WriteFault rest text h s = fails-writing (Build o) o.trace old new plan t read taken rest text h s
  build-comes taken StoreFault rest text h s = inr (fails-saving (Build o) o.trace old new plan t read taken rest text h s)
  build-comes taken OutFault rest text h s = absurd h
  build-comes taken NoMemory rest text h s = absurd h
  build-comes taken BadLinks rest text h s = absurd h

  rebuild-comes : IsTakenBy (Rebuild o) old.cache t → (status : Status) (rest text : Bytes) → EndsBuilt old new plan t status rest → IsSaid o.trace plan t rest text → Comes (Rebuild o) old new status text
  rebuild-comes taken Done rest text h s = builds (Rebuild o) o.trace old new plan t read taken rest text h s
  rebuild-comes taken Report rest text h s = reports (Rebuild o) o.trace old new plan t read taken rest text h s
  rebuild-comes taken Usage rest text h s = absurd h
  rebuild-comes taken BadRules rest text h s = absurd h
  rebuild-comes taken BadSite rest text h s = absurd h
  rebuild-comes taken ReadFault rest text h s = absurd h
  rebuild-comes taken WriteFault rest text h s = fails-writing (Rebuild o) o.trace old new plan t read taken rest text h s
  rebuild-comes taken StoreFault rest text h s = fails-saving (Rebuild o) o.trace old new plan t read taken rest text h s
  rebuild-comes taken OutFault rest text h s = absurd h
  rebuild-comes taken NoMemory rest text h s = absurd h
  rebuild-comes taken BadLinks rest text h s = absurd h

  -- what the building of the plan that was read comes to
  pub build-task : IsTakenBy (Build o) old.cache t → (r : Result Ended NoMemory-data) → Always old new → EndsTold o.trace old new plan t r → EndsAs (Build o) old new r
  build-task taken (Ok e) always h = record { always = always; comes = build-comes taken e.status h.0 e.text h.1 h.2 }
  build-task taken (Err e) always h = record { always = always; leaves = stops-build (Build o) o.trace old new plan t read taken h }

  pub rebuild-task : IsTakenBy (Rebuild o) old.cache t → (r : Result Ended NoMemory-data) → Always old new → EndsTold o.trace old new plan t r → EndsAs (Rebuild o) old new r
  rebuild-task taken (Ok e) always h = record { always = always; comes = rebuild-comes taken e.status h.0 e.text h.1 h.2 }
  rebuild-task taken (Err e) always h = record { always = always; leaves = stops-build (Rebuild o) o.trace old new plan t read taken h }

-- a task by its name
pub same-task : (c d : Command) (old new : Folders) (r : Result Ended NoMemory-data) → c ≡ d → EndsAs d old new r → EndsAs c old new r
same-task c d old new r e h = subst (λ t. EndsAs t old new r) (sym e) h

-- ---- all words

holds-of : (words : List Bytes) (c : Command) (old new : Folders) (status : Status) (text : Bytes) → command words ≡ Some c → Comes c old new status text → Holds words old new status text
holds-of words c old new Done text asked h = record { task = c; asked = asked; comes = h }
holds-of words c old new Report text asked h = record { task = c; asked = asked; comes = h }
holds-of words c old new Usage text asked h = absurd h
holds-of words c old new BadRules text asked h = record { task = c; asked = asked; comes = h }
holds-of words c old new BadSite text asked h = record { task = c; asked = asked; comes = h }
holds-of words c old new ReadFault text asked h = record { task = c; asked = asked; comes = h }
holds-of words c old new WriteFault text asked h = record { task = c; asked = asked; comes = h }
holds-of words c old new StoreFault text asked h = record { task = c; asked = asked; comes = h }
holds-of words c old new OutFault text asked h = absurd h
holds-of words c old new NoMemory text asked h = absurd h
holds-of words c old new BadLinks text asked h = record { task = c; asked = asked; comes = h }

-- the words are a command
pub task-ends : (words : List Bytes) (c : Command) (old new : Folders) (r : Result Ended NoMemory-data) → command words ≡ Some c → EndsAs c old new r → EndsWith words old new r
task-ends words c old new (Ok e) asked h = record { always = h.always; holds = holds-of words c old new e.status e.text asked h.comes }
task-ends words c old new (Err e) asked h = record { always = h.always; leaves = subst (λ o. Leaves o old new) (sym asked) h.leaves }

pub told-self : (o : Option Files) → IfSome o (λ m. IsSome o)
told-self None = tt
told-self (Some m) = refl

pub always-same : (old : Folders) → Always old old
always-same old =
    record { source = refl; source_count = omega arith; site_count = omega arith; site_told = told-self old.site.files; cache_count = omega arith; cache_told = told-self old.cache.files }

-- nothing of site and cache changed, and the command isn't `gen`, which touches nothing
pub leaves-still : (c : Command) (old new : Folders) → reads_source c ≡ true → Same old.site new.site → Same old.cache new.cache → Leaves (Some c) old new
leaves-still (Build o) old new reads site cache = unbegun site cache
leaves-still (Rebuild o) old new reads site cache = unbegun site cache
leaves-still Check old new reads site cache = record { site = site; cache = cache }
leaves-still Deps old new reads site cache = record { site = site; cache = cache }
leaves-still Clean old new reads site cache = absurd (cc reads)
leaves-still (Generate o) old new reads site cache = absurd (cc reads)
leaves-still Links old new reads site cache = record { site = site; cache = cache }

lost-self : (o : Option Files) → IfSome o (λ m. IfSome o (λ n. (path : Bytes) → HeldOrNone path m n))
lost-self None = tt
lost-self (Some m) = λ path. inl refl

-- memory was wanting before any call of a folder
leaves-all : (c : Option Command) (old : Folders) → Leaves c old old
leaves-all None old = refl
leaves-all (Some (Build o)) old = unbegun refl refl
leaves-all (Some (Rebuild o)) old = unbegun refl refl
leaves-all (Some Check) old = record { site = refl; cache = refl }
leaves-all (Some Deps) old = record { site = refl; cache = refl }
leaves-all (Some Clean) old = clearing_site (lost-self old.site.files) refl
leaves-all (Some (Generate o)) old = refl
leaves-all (Some Links) old = record { site = refl; cache = refl }

pub unread-ends : (words : List Bytes) (old : Folders) (r : Result Ended NoMemory-data) (e : NoMemory-data) → r ≡ Err e → EndsWith words old old r
unread-ends words old r e is = subst (EndsWith words old old) (sym is) (record { always = always-same old; leaves = leaves-all (command words) old })
