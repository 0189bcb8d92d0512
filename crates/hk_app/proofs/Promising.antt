-- From what a run comes to before its last write, to its promise.
use Rattle.std.proofs.Common.{◌≡◌, ℕ, Bool, true, false, List, [], Option, Some, None, refl, sym, ap, subst, ◌∙◌, IfSome, inl, inr, ◌≤◌, ◌⊎◌}
use Rattle.std.specs.FinMap.{get}
use Rattle.hk_base.specs.Bytes.{Bytes, Files}
use Rattle.hk_build.specs.Build.{is_empty, report}
use Rattle.hk_build.specs.Linked.{all_lead}
use Rattle.hk_outside.specs.Causes.{Rose}
use Rattle.hk_rules.specs.PlanView.{PlanView}
use Rattle.hk_words.specs.declared.commands.Command.{Command}
use Rattle.hk_words.specs.declared.commands.Command.TheVariants.{Build, Rebuild, Check, Deps, Clean, Generate, Links}
use Rattle.hk_words.specs.Words.{command}
use Rattle.hk_app.specs.declared.status.Status.{Status}
use Rattle.hk_app.specs.declared.status.Status.TheVariants.{Ok as Done, Report, Usage, BadRules, BadSite, ReadFault, WriteFault, StoreFault, OutFault, NoMemory, BadLinks}
use Rattle.hk_app.specs.Promise.{Plans, Runs, IsPlanOf, reads_source, AllEnd, SomeStop, AllButStore, whole, stopped, EndsWhole, EndsStopped, EndsUnwritten, EndsUnsaved, Says, Builds, Reports, FailsWriting, FailsSaving, FailsReading}
use Rattle.hk_app.specs.Promise.{HasLinks, IsBadLinks, page_list, IsNamed, IsStopped, IsWriteFault, IsStoreFault, IsBadRules, IsBadSite, IsUnplanned, Comes, Holds, IsTornBuilt, IsPast, StoreLeft, saved, unsaved, torn_store}
use Rattle.hk_app.specs.Promise.{StopsBuild, unbegun, torn_site, past, clearing_site, clearing_cache, Leaves, IsSound, HasSoundPlan, IsExcused, failed, unsaid, wanting, of_source, of_site, of_cache, EndsWell, Promise}
use Rattle.hk_app.specs.Run.{Ends, SaysAs}
use Rattle.hk_app.specs.FolderReading.{Reading, absent, refused, unplanned, planned, reading}
use Rattle.hk_app.specs.Standing.{store_path}
use Rattle.hk_app.specs.Taking.{Taken, Takes, TakesAny, IsTakenOf, nothing}
use Rattle.hk_app.specs.World.{Folders, Output}
use Rattle.hk_app.proofs.Endings.{at-some, leaves-still, runs-map}
use Rattle.hk_app.proofs.Removing.{lost-all}

-- ---- what want of memory leaves once all but the text is done

module _ (c : Command) (trace : Bool) (old new : Folders) (text : Bytes) where
  built-past : Builds c trace old new text → StopsBuild c old new
  built-past h = past (runs-map c old (Says (EndsWhole old new) trace text) (IsPast old new) (λ plan t s. record { rest = s.rest; done = whole s.ends.all s.ends.site s.ends.text; store = saved s.ends.store }) h.run) h.cache

  reported-past : Reports c trace old new text → StopsBuild c old new
  reported-past h =
      past (runs-map c old (Says (EndsStopped old new) trace text) (IsPast old new) (λ plan t s. record { rest = s.rest; done = stopped s.ends.some h.site s.ends.text; store = saved s.ends.store }) h.run) h.cache

  torn-past : FailsWriting c trace old new text → StopsBuild c old new
  torn-past h = torn_site h.cause (runs-map c old (Says (EndsUnwritten old new) trace text) (IsTornBuilt old new) (λ plan t s. record { all = s.ends.all; site = s.ends.site }) h.run) h.cache

  unsaved-past : FailsSaving c trace old new text → StopsBuild c old new
  unsaved-past h =
      past (runs-map c old (Says (EndsUnsaved old new) trace text) (IsPast old new) (λ plan t s. record { rest = s.ends.before; done = s.ends.done; store = torn_store h.cause h.cache }) h.run) h.cache

task-leaves : (c : Command) (old new : Folders) (status : Status) (text : Bytes) → Comes c old new status text → Leaves (Some c) old new
task-leaves (Build o) old new Done text h = built-past (Build o) o.trace old new text h
task-leaves (Build o) old new Report text h = reported-past (Build o) o.trace old new text h
task-leaves (Build o) old new WriteFault text h = torn-past (Build o) o.trace old new text h
task-leaves (Build o) old new StoreFault text (inl h) = unbegun h.site h.cache
task-leaves (Build o) old new StoreFault text (inr h) = unsaved-past (Build o) o.trace old new text h
task-leaves (Rebuild o) old new Done text h = built-past (Rebuild o) o.trace old new text h
task-leaves (Rebuild o) old new Report text h = reported-past (Rebuild o) o.trace old new text h
task-leaves (Rebuild o) old new WriteFault text h = torn-past (Rebuild o) o.trace old new text h
task-leaves (Rebuild o) old new StoreFault text h = unsaved-past (Rebuild o) o.trace old new text h
task-leaves Check old new Done text h = record { site = h.site; cache = h.cache }
task-leaves Check old new Report text h = record { site = h.site; cache = h.cache }
task-leaves Check old new WriteFault text h = absurd h
task-leaves Check old new StoreFault text h = absurd h
task-leaves Deps old new Done text h = record { site = h.site; cache = h.cache }
task-leaves Deps old new Report text h = record { site = h.site; cache = h.cache }
task-leaves Deps old new WriteFault text h = absurd h
task-leaves Deps old new StoreFault text h = absurd h
task-leaves Clean old new Done text h = clearing_cache h.site (lost-all old.cache.files new.cache.files h.cache)
task-leaves Clean old new Report text h = absurd h
task-leaves Clean old new WriteFault text h = clearing_site h.site h.cache
task-leaves Clean old new StoreFault text h = clearing_cache h.site h.cache
task-leaves (Generate o) old new Done text h = h.folders
task-leaves (Generate o) old new Report text h = h.folders
task-leaves (Generate o) old new BadRules text h = h.folders
task-leaves (Generate o) old new BadSite text h = h.folders
task-leaves (Generate o) old new WriteFault text h = absurd h
task-leaves (Generate o) old new StoreFault text h = absurd h
task-leaves Links old new Done text h = record { site = h.site; cache = h.cache }
task-leaves Links old new Report text h = record { site = h.site; cache = h.cache }
task-leaves Links old new BadRules text h = leaves-still Links old new h.reads h.site h.cache
task-leaves Links old new BadSite text h = leaves-still Links old new h.reads h.site h.cache
task-leaves Links old new WriteFault text h = absurd h
task-leaves Links old new StoreFault text h = absurd h
task-leaves Links old new BadLinks text h = record { site = h.site; cache = h.cache }
task-leaves (Build o) old new BadLinks text h = absurd h
task-leaves (Rebuild o) old new BadLinks text h = absurd h
task-leaves Check old new BadLinks text h = absurd h
task-leaves Deps old new BadLinks text h = absurd h
task-leaves Clean old new BadLinks text h = absurd h
task-leaves (Generate o) old new BadLinks text h = absurd h
task-leaves (Build o) old new BadRules text h = leaves-still (Build o) old new h.reads h.site h.cache
task-leaves (Build o) old new BadSite text h = leaves-still (Build o) old new h.reads h.site h.cache
task-leaves (Rebuild o) old new BadRules text h = leaves-still (Rebuild o) old new h.reads h.site h.cache
task-leaves (Rebuild o) old new BadSite text h = leaves-still (Rebuild o) old new h.reads h.site h.cache
task-leaves Check old new BadRules text h = leaves-still Check old new h.reads h.site h.cache
task-leaves Check old new BadSite text h = leaves-still Check old new h.reads h.site h.cache
task-leaves Deps old new BadRules text h = leaves-still Deps old new h.reads h.site h.cache
task-leaves Deps old new BadSite text h = leaves-still Deps old new h.reads h.site h.cache
task-leaves Clean old new BadRules text h = leaves-still Clean old new h.reads h.site h.cache
task-leaves Clean old new BadSite text h = leaves-still Clean old new h.reads h.site h.cache
task-leaves c old new ReadFault text h = leaves-still c old new h.reads h.site h.cache
task-leaves c old new Usage text h = absurd h
task-leaves c old new OutFault text h = absurd h
task-leaves c old new NoMemory text h = absurd h

pub leaves : (words : List Bytes) (old new : Folders) (status : Status) (text : Bytes) → Holds words old new status text → Leaves (command words) old new
leaves words old new Usage text h = subst (λ o. Leaves o old new) (sym h.cause) h.folders
leaves words old new Done text h = subst (λ o. Leaves o old new) (sym h.asked) (task-leaves h.task old new Done text h.comes)
leaves words old new Report text h = subst (λ o. Leaves o old new) (sym h.asked) (task-leaves h.task old new Report text h.comes)
leaves words old new BadRules text h = subst (λ o. Leaves o old new) (sym h.asked) (task-leaves h.task old new BadRules text h.comes)
leaves words old new BadSite text h = subst (λ o. Leaves o old new) (sym h.asked) (task-leaves h.task old new BadSite text h.comes)
leaves words old new ReadFault text h = subst (λ o. Leaves o old new) (sym h.asked) (task-leaves h.task old new ReadFault text h.comes)
leaves words old new WriteFault text h = subst (λ o. Leaves o old new) (sym h.asked) (task-leaves h.task old new WriteFault text h.comes)
leaves words old new StoreFault text h = subst (λ o. Leaves o old new) (sym h.asked) (task-leaves h.task old new StoreFault text h.comes)
leaves words old new OutFault text h = absurd h.comes
leaves words old new NoMemory text h = absurd h.comes
leaves words old new BadLinks text h = subst (λ o. Leaves o old new) (sym h.asked) (task-leaves h.task old new BadLinks text h.comes)

-- ---- completeness follows from the causes

unwritten-cause : (c : Command) (old new : Folders) (text : Bytes) → IsWriteFault c old new text → Rose old.site.faults new.site.faults
unwritten-cause (Build o) old new text h = h.cause
unwritten-cause (Rebuild o) old new text h = h.cause
unwritten-cause Check old new text h = absurd h
unwritten-cause Deps old new text h = absurd h
unwritten-cause Clean old new text h = h.cause
unwritten-cause (Generate o) old new text h = absurd h
unwritten-cause Links old new text h = absurd h

store-cause : (c : Command) (old new : Folders) (text : Bytes) → IsStoreFault c old new text → Rose old.cache.faults new.cache.faults
store-cause (Build o) old new text (inl h) = h.cause
store-cause (Build o) old new text (inr h) = h.cause
store-cause (Rebuild o) old new text h = h.cause
store-cause Check old new text h = absurd h
store-cause Deps old new text h = absurd h
store-cause Clean old new text h = h.cause
store-cause (Generate o) old new text h = absurd h
store-cause Links old new text h = absurd h

one-plan : (x y : PlanView) → planned x ≡ planned y → x ≡ y
one-plan x y e = ap held e
  where
    held : Reading → PlanView
    held (planned z) = z
    held absent = x
    held (refused fault) = x
    held (unplanned fault) = x

not-both : (plan : PlanView) (t : Taken) → AllEnd plan t → SomeStop plan t → ⊥
not-both plan t all some = let twice : true ≡ false = sym all ∙ some in cc

-- a plan that is there and whose items are all done isn't reported on
not-stopped : (c : Command) (old new : Folders) (text : Bytes) → IsSound c old → IsStopped c old new text → ⊥
not-stopped (Build o) old new text s h =
    let p = at-some (λ m. (plan : PlanView) × IsPlanOf m plan × Takes (Build o) old.cache (Says (EndsStopped old new) o.trace text plan)) s.told h.run in
    let same : p.0 ≡ s.plan = one-plan p.0 s.plan (sym p.1.read ∙ s.planned) in
    let w = at-some (λ m. (t : Taken) × IsTakenOf (get m store_path) t × Says (EndsStopped old new) o.trace text p.0 t) s.all.1 p.2 in
    not-both p.0 w.0 (subst (λ plan. AllEnd plan w.0) (sym same) (s.all.2 w.0 w.1)) w.2.ends.some
not-stopped (Rebuild o) old new text s h =
    let p = at-some (λ m. (plan : PlanView) × IsPlanOf m plan × Says (EndsStopped old new) o.trace text plan nothing) s.told h.run in
    let same : p.0 ≡ s.plan = one-plan p.0 s.plan (sym p.1.read ∙ s.planned) in
    not-both p.0 nothing (subst (λ plan. AllEnd plan nothing) (sym same) s.all) p.2.ends.some
not-stopped Check old new text s h =
    let p = at-some (λ m. (plan : PlanView) × IsPlanOf m plan × IsNamed text plan) s.told h.run in
    let same : p.0 ≡ s.plan = one-plan p.0 s.plan (sym p.1.read ∙ s.planned) in
    not-both p.0 nothing (subst (λ plan. AllEnd plan nothing) (sym same) s.all) p.2.some
not-stopped Deps old new text s h =
    let p = at-some (λ m. (plan : PlanView) × IsPlanOf m plan × IsNamed text plan) s.told h.run in
    let same : p.0 ≡ s.plan = one-plan p.0 s.plan (sym p.1.read ∙ s.planned) in
    not-both p.0 nothing (subst (λ plan. AllEnd plan nothing) (sym same) s.all) p.2.some
not-stopped Clean old new text s h = absurd h
not-stopped (Generate o) old new text s h =
    let same : h.run.0 ≡ s.0 = one-plan h.run.0 s.0 (sym h.run.1 ∙ s.1) in
    not-both h.run.0 nothing (subst (λ plan. AllEnd plan nothing) (sym same) s.2) h.run.2.some
not-stopped Links old new text s h =
    let p = at-some (λ m. (plan : PlanView) × IsPlanOf m plan × IsNamed text plan) s.told h.run in
    let same : p.0 ≡ s.plan = one-plan p.0 s.plan (sym p.1.read ∙ s.planned) in
    not-both p.0 nothing (subst (λ plan. AllEnd plan nothing) (sym same) s.all) p.2.some

-- where each link leads somewhere, none is named
not-bad : (c : Command) (old new : Folders) (text : Bytes) → IsSound c old → IsBadLinks c old new text → ⊥
not-bad (Build o) old new text s h = absurd h
not-bad (Rebuild o) old new text s h = absurd h
not-bad Check old new text s h = absurd h
not-bad Deps old new text s h = absurd h
not-bad Clean old new text s h = absurd h
not-bad (Generate o) old new text s h = absurd h
not-bad Links old new text s h =
    let p = at-some (λ m. (plan : PlanView) × IsPlanOf m plan × HasLinks false text plan) s.told h.run in
    let same : p.0 ≡ s.plan = one-plan p.0 s.plan (sym p.1.read ∙ s.planned) in
    let twice : true ≡ false = sym s.links ∙ ap (λ plan. all_lead (page_list plan)) (sym same) ∙ p.2.links in
    cc

-- what is sound is not refused
not-refused : (c : Command) (P : Reading → Type 0) (old new : Folders) → ((plan : PlanView) → P (planned plan) → ⊥) → IsSound c old → IsUnplanned c P old new → ⊥
not-refused (Build o) P old new never s h = never s.plan (subst P s.planned (at-some (λ m. P (reading m)) s.told h.cause))
not-refused (Rebuild o) P old new never s h = never s.plan (subst P s.planned (at-some (λ m. P (reading m)) s.told h.cause))
not-refused Check P old new never s h = never s.plan (subst P s.planned (at-some (λ m. P (reading m)) s.told h.cause))
not-refused Deps P old new never s h = never s.plan (subst P s.planned (at-some (λ m. P (reading m)) s.told h.cause))
not-refused Clean P old new never s h = absurd (cc h.reads)
not-refused (Generate o) P old new never s h = never s.0 (subst P s.1 h.cause)
not-refused Links P old new never s h = never s.plan (subst P s.planned (at-some (λ m. P (reading m)) s.told h.cause))

same-command : (words : List Bytes) (c d : Command) → command words ≡ Some c → command words ≡ Some d → c ≡ d
same-command words c d e f = some-is c d (sym e ∙ f)
  where
    some-is : (x y : Command) → Some x ≡ Some y → x ≡ y
    some-is x y is = cc is

ends-well : (words : List Bytes) (old new : Folders) (out out' : Output) (status : Status) (text : Bytes) → Holds words old new status text → (c : Command) → command words ≡ Some c → IsSound c old → EndsWell old new out out' status
ends-well words old new out out' Done text h c asked s = inl refl
ends-well words old new out out' Report text h c asked s = absurd (not-stopped h.task old new text (subst (λ d. IsSound d old) (same-command words c h.task asked h.asked) s) h.comes)
ends-well words old new out out' Usage text h c asked s = absurd (cc (h.cause, asked))
ends-well words old new out out' BadRules text h c asked s =
    absurd (not-refused h.task (IsBadRules text) old new (λ plan never. never) (subst (λ d. IsSound d old) (same-command words c h.task asked h.asked) s) h.comes)
ends-well words old new out out' BadSite text h c asked s =
    absurd (not-refused h.task (IsBadSite text) old new (λ plan never. never) (subst (λ d. IsSound d old) (same-command words c h.task asked h.asked) s) h.comes)
ends-well words old new out out' ReadFault text h c asked s = inr (failed (of_source h.comes.cause))
ends-well words old new out out' WriteFault text h c asked s = inr (failed (of_site (unwritten-cause h.task old new text h.comes)))
ends-well words old new out out' StoreFault text h c asked s = inr (failed (of_cache (store-cause h.task old new text h.comes)))
ends-well words old new out out' OutFault text h c asked s = absurd h.comes
ends-well words old new out out' NoMemory text h c asked s = absurd h.comes
ends-well words old new out out' BadLinks text h c asked s = absurd (not-bad h.task old new text (subst (λ d. IsSound d old) (same-command words c h.task asked h.asked) s) h.comes)

-- ---- the promise

pub promise : (words : List Bytes) (old new : Folders) (out out' : Output) (status : Status) (text : Bytes) (result : Status) → Ends words old new status text → SaysAs out out' text status result → out.faults ≤ out'.faults → Promise words old new out out' result
promise words old new out out' status text Done h s later =
    let holds : Holds words old new Done text = subst (λ x. Holds words old new x text) (sym s.0) h.holds in
    record { always = h.always; later = later; said = record { text = text; holds = holds; written = s.1 }; complete = ends-well words old new out out' Done text holds }
promise words old new out out' status text Report h s later =
    let holds : Holds words old new Report text = subst (λ x. Holds words old new x text) (sym s.0) h.holds in
    record { always = h.always; later = later; said = record { text = text; holds = holds; written = s.1 }; complete = ends-well words old new out out' Report text holds }
promise words old new out out' status text Usage h s later =
    let holds : Holds words old new Usage text = subst (λ x. Holds words old new x text) (sym s.0) h.holds in
    record { always = h.always; later = later; said = record { text = text; holds = holds; written = s.1 }; complete = ends-well words old new out out' Usage text holds }
promise words old new out out' status text BadRules h s later =
    let holds : Holds words old new BadRules text = subst (λ x. Holds words old new x text) (sym s.0) h.holds in
    record { always = h.always; later = later; said = record { text = text; holds = holds; written = s.1 }; complete = ends-well words old new out out' BadRules text holds }
promise words old new out out' status text BadSite h s later =
    let holds : Holds words old new BadSite text = subst (λ x. Holds words old new x text) (sym s.0) h.holds in
    record { always = h.always; later = later; said = record { text = text; holds = holds; written = s.1 }; complete = ends-well words old new out out' BadSite text holds }
promise words old new out out' status text ReadFault h s later =
    let holds : Holds words old new ReadFault text = subst (λ x. Holds words old new x text) (sym s.0) h.holds in
    record { always = h.always; later = later; said = record { text = text; holds = holds; written = s.1 }; complete = ends-well words old new out out' ReadFault text holds }
promise words old new out out' status text WriteFault h s later =
    let holds : Holds words old new WriteFault text = subst (λ x. Holds words old new x text) (sym s.0) h.holds in
    record { always = h.always; later = later; said = record { text = text; holds = holds; written = s.1 }; complete = ends-well words old new out out' WriteFault text holds }
promise words old new out out' status text StoreFault h s later =
    let holds : Holds words old new StoreFault text = subst (λ x. Holds words old new x text) (sym s.0) h.holds in
    record { always = h.always; later = later; said = record { text = text; holds = holds; written = s.1 }; complete = ends-well words old new out out' StoreFault text holds }
promise words old new out out' status text BadLinks h s later =
    let holds : Holds words old new BadLinks text = subst (λ x. Holds words old new x text) (sym s.0) h.holds in
    record { always = h.always; later = later; said = record { text = text; holds = holds; written = s.1 }; complete = ends-well words old new out out' BadLinks text holds }
promise words old new out out' status text OutFault h s later =
    record { always = h.always; later = later; said = record { status = status; text = text; holds = h.holds; cut = s }; complete = λ c asked sound. inr (unsaid s.cause) }
promise words old new out out' status text NoMemory h s later =
    record { always = h.always; later = later; said = record { leaves = leaves words old new status text h.holds; written = s }; complete = λ c asked sound. inr (wanting refl) }
