-- What a run leaves of the store, whatever it came to, and what a build without faults answers.
use Rattle.std.proofs.Common.{◌≡◌, List, Option, Some, None, refl, sym, ap, subst, ◌∙◌, IfSome, inl, inr}
use Rattle.std.specs.Prelude.{IsSome}
use Rattle.std.specs.FinMap.{get, insert}
use Rattle.hk_base.specs.Bytes.{Bytes, Files}
use Rattle.hk_build.specs.Build.{image}
use Rattle.hk_build.specs.Built.{IsClean}
use Rattle.hk_outside.specs.Causes.{Rose}
use Rattle.hk_reuse.specs.Entries.{no_entries}
use Rattle.hk_rules.specs.PlanView.{PlanView}
use Rattle.hk_words.specs.declared.commands.BuildOptions.{BuildOptions}
use Rattle.hk_words.specs.declared.commands.Command.{Command}
use Rattle.hk_words.specs.declared.commands.Command.TheVariants.{Build, Rebuild, Check, Deps, Clean, Generate, Links}
use Rattle.hk_words.specs.Words.{command}
use Rattle.hk_writer.specs.Writing.{HeldOrNone}
use Rattle.hk_app.specs.declared.status.Status.{Status}
use Rattle.hk_app.specs.declared.status.Status.TheVariants.{Ok as Done, Report, Usage, BadRules, BadSite, ReadFault, WriteFault, StoreFault, OutFault, NoMemory, BadLinks}
use Rattle.hk_app.specs.Promise.{AtOutFault, Holds, IsBadLinks, IsBadRules, IsBadSite, IsPast, IsPlanOf, IsRefused, IsStoreFault, IsUnplanned, IsWriteFault, Leaves, Promise, Runs, StoreLeft, StopsBuild, StopsClean}
use Rattle.hk_app.specs.Promise.{unsaved, saved, torn_store, unbegun, partly, torn_site, past, clearing_site, clearing_cache}
use Rattle.hk_app.specs.FolderReading.{Reading, planned, reading}
use Rattle.hk_app.specs.Standing.{LostSome, Same, store_path}
use Rattle.hk_app.specs.Taking.{IsTakenOf, Taken, Takes, nothing}
use Rattle.hk_app.specs.World.{Folders, Output}
use Rattle.hk_app.proofs.Endings.{at-some}
use Rattle.hk_app.proofs.Promising.{leaves}
use Rattle.hk_honest.specs.Chain.{IsLinked, IsRun}
use Rattle.hk_honest.specs.Honest.{IsHonest, absent, left, damaged}
use Rattle.hk_honest.specs.Mended.{FailsElsewhere, IsAnswered, IsBuildOf, IsFaultless, IsRunBefore, IsStoreAfter, IsTornStore}
use Rattle.hk_honest.specs.Mended.{as_before, cut, done, gone, held, removed, reported, torn_write, wanting, whole, written}
use Rattle.hk_honest.proofs.Clean.{clean-itself, clean-taken}
use Rattle.hk_honest.proofs.Runs.{left-at, run-ok, run-report, same-command}

same-some : {A : Type 0} (x y : A) → Some x ≡ Some y → x ≡ y
same-some x y e = cc e

some-of : {A : Type 0} (o : Option A) → IsSome o → (x : A) × (o ≡ Some x)
some-of None h = absurd (cc h)
some-of (Some x) h = (x, refl)

-- ---- what a run leaves

leaves-of : (words : List Bytes) (old new : Folders) (out out' : Output) (status : Status) → Promise words old new out out' status → Leaves (command words) old new
leaves-of words old new out out' Done h = leaves words old new Done h.said.text h.said.holds
leaves-of words old new out out' Report h = leaves words old new Report h.said.text h.said.holds
leaves-of words old new out out' Usage h = leaves words old new Usage h.said.text h.said.holds
leaves-of words old new out out' BadRules h = leaves words old new BadRules h.said.text h.said.holds
leaves-of words old new out out' BadSite h = leaves words old new BadSite h.said.text h.said.holds
leaves-of words old new out out' ReadFault h = leaves words old new ReadFault h.said.text h.said.holds
leaves-of words old new out out' WriteFault h = leaves words old new WriteFault h.said.text h.said.holds
leaves-of words old new out out' StoreFault h = leaves words old new StoreFault h.said.text h.said.holds
leaves-of words old new out out' OutFault h = leaves words old new h.said.status h.said.text h.said.holds
leaves-of words old new out out' NoMemory h = h.said.leaves
leaves-of words old new out out' BadLinks h = leaves words old new BadLinks h.said.text h.said.holds

module _ (plan : PlanView) (cache after : Files) (r : IsRunBefore plan cache after) where
  abbrev Stands : Type 0
  Stands = IsStoreAfter r.words r.old r.new (get cache store_path) (get after store_path)

  same-files : Same r.old.cache r.new.cache → after ≡ cache
  same-files same = same-some after cache (sym r.after_told ∙ (same ∙ r.cache_told))

  same-store : Same r.old.cache r.new.cache → Stands
  same-store same = as_before (ap (λ m. get m store_path) (same-files same))

  same-folders : r.new ≡ r.old → Stands
  same-folders same = same-store (ap (λ (f : Folders). f.cache.files) same)

  lost-store : command r.words ≡ Some Clean → LostSome r.old.cache r.new.cache → Stands
  lost-store asked lost =
      by-path (at-some (λ n. (path : Bytes) → HeldOrNone path cache n) r.after_told (at-some (λ m. IfSome r.new.cache.files (λ n. (path : Bytes) → HeldOrNone path m n)) r.cache_told lost) store_path)
    where
      by-path : HeldOrNone store_path cache after → Stands
      by-path (inl e) = as_before e
      by-path (inr e) = removed asked e

  -- all but the store was done by a build of this plan, over what it took
  stored : (own : PlanView) (b : IsBuildOf r.words r.old own) (t : Taken) → IsClean own t.entries → StoreLeft (image own t.entries) r.old.cache r.new.cache → Stands
  stored own b t clean (unsaved same) = same-store same
  stored own b t clean (saved h) =
      written own b (left-at cache after (image own t.entries) r.new.cache.files (at-some (λ m. r.new.cache.files ≡ Some (insert m store_path (image own t.entries))) r.cache_told h) r.after_told ∙ ap Some clean.image)
  stored own b t clean (torn_store rose but) = torn_write own b rose ((r.built own b).torn rose)

  past-build : (o : BuildOptions) → command r.words ≡ Some (Build o) → Runs (Build o) r.old (IsPast r.old r.new) → Stands
  past-build o asked h =
      let s = some-of r.old.source.files (r.source_told (Build o) asked refl) in
      let p = at-some (λ m. (own : PlanView) × IsPlanOf m own × Takes (Build o) r.old.cache (IsPast r.old r.new own)) s.1 h in
      let b : IsBuildOf r.words r.old p.0 = record { task = Build o; asked = asked; writes = refl; source = s.0; source_told = s.1; plan_of = p.1 } in
      let w = at-some (λ m. (t : Taken) × IsTakenOf (get m store_path) t × IsPast r.old r.new p.0 t) r.cache_told p.2 in
      stored p.0 b w.0 (clean-taken p.0 (get cache store_path) w.0 ((r.built p.0 b).honest refl) w.1) w.2.store

  past-rebuild : (o : BuildOptions) → command r.words ≡ Some (Rebuild o) → Runs (Rebuild o) r.old (IsPast r.old r.new) → Stands
  past-rebuild o asked h =
      let s = some-of r.old.source.files (r.source_told (Rebuild o) asked refl) in
      let p = at-some (λ m. (own : PlanView) × IsPlanOf m own × IsPast r.old r.new own nothing) s.1 h in
      let b : IsBuildOf r.words r.old p.0 = record { task = Rebuild o; asked = asked; writes = refl; source = s.0; source_told = s.1; plan_of = p.1 } in
      stored p.0 b nothing (clean-itself p.0) p.2.store

  build-after : (o : BuildOptions) → command r.words ≡ Some (Build o) → StopsBuild (Build o) r.old r.new → Stands
  build-after o asked (unbegun site same) = same-store same
  build-after o asked (partly run same) = same-store same
  build-after o asked (torn_site rose run same) = same-store same
  build-after o asked (past run but) = past-build o asked run

  rebuild-after : (o : BuildOptions) → command r.words ≡ Some (Rebuild o) → StopsBuild (Rebuild o) r.old r.new → Stands
  rebuild-after o asked (unbegun site same) = same-store same
  rebuild-after o asked (partly run same) = same-store same
  rebuild-after o asked (torn_site rose run same) = same-store same
  rebuild-after o asked (past run but) = past-rebuild o asked run

  clean-after : command r.words ≡ Some Clean → StopsClean r.old r.new → Stands
  clean-after asked (clearing_site lost same) = same-store same
  clean-after asked (clearing_cache cleared lost) = lost-store asked lost

  task-after : (c : Option Command) → command r.words ≡ c → Leaves c r.old r.new → Stands
  task-after None asked h = same-folders h
  task-after (Some (Build o)) asked h = build-after o asked h
  task-after (Some (Rebuild o)) asked h = rebuild-after o asked h
  task-after (Some Check) asked h = same-store h.cache
  task-after (Some Deps) asked h = same-store h.cache
  task-after (Some Clean) asked h = clean-after asked h
  task-after (Some (Generate o)) asked h = same-folders h
  task-after (Some Links) asked h = same-store h.cache

pub store-after : (plan : PlanView) (cache after : Files) (r : IsRunBefore plan cache after) → IsStoreAfter r.words r.old r.new (get cache store_path) (get after store_path)
store-after plan cache after r = task-after plan cache after r (command r.words) refl (leaves-of r.words r.old r.new r.out r.out' r.status r.promise)

-- ---- it is honest again

torn-honest : (own plan : PlanView) (before now : Option Bytes) → IsLinked own plan → IsHonest plan before → IsTornStore before (image own no_entries) now → IsHonest plan now
torn-honest own plan before now linked honest (held e) = subst (IsHonest plan) (sym e) honest
torn-honest own plan before now linked honest (gone e) = absent e
torn-honest own plan before now linked honest (whole e) = left own linked.apart linked.short e
torn-honest own plan before now linked honest (cut rest damage short read e) = damaged rest damage short read e

after-honest : (plan : PlanView) (cache after : Files) (r : IsRunBefore plan cache after) → IsStoreAfter r.words r.old r.new (get cache store_path) (get after store_path) → IsHonest plan (get after store_path)
after-honest plan cache after r (as_before e) = subst (IsHonest plan) (sym e) r.honest
after-honest plan cache after r (removed asked e) = absent e
after-honest plan cache after r (written own b e) = let k = (r.built own b).linked in left own k.apart k.short e
after-honest plan cache after r (torn_write own b rose t) = torn-honest own plan (get cache store_path) (get after store_path) (r.built own b).linked r.honest t

pub left-honest : (plan : PlanView) (cache after : Files) → IsRunBefore plan cache after → IsHonest plan (get after store_path)
left-honest plan cache after r = after-honest plan cache after r (store-after plan cache after r)

-- ---- a fault of the source or of the site leaves the cache

unwritten-same : (c : Command) (old new : Folders) (text : Bytes) → IsWriteFault c old new text → Same old.cache new.cache
unwritten-same (Build o) old new text h = h.cache
unwritten-same (Rebuild o) old new text h = h.cache
unwritten-same Check old new text h = absurd h
unwritten-same Deps old new text h = absurd h
unwritten-same Clean old new text h = h.cache
unwritten-same (Generate o) old new text h = absurd h
unwritten-same Links old new text h = absurd h

-- whether its text was written or cut short
same-elsewhere : (words : List Bytes) (old new : Folders) (status : Status) (text : Bytes) → Holds words old new status text → FailsElsewhere status → Same old.cache new.cache
same-elsewhere words old new status text h (inl unread) =
    let k : Holds words old new ReadFault text = subst (λ s. Holds words old new s text) unread h in
    k.comes.cache
same-elsewhere words old new status text h (inr unwritten) =
    let k : Holds words old new WriteFault text = subst (λ s. Holds words old new s text) unwritten h in
    unwritten-same k.task old new text k.comes

pub kept-elsewhere : (plan : PlanView) (cache after : Files) (r : IsRunBefore plan cache after) → FailsElsewhere r.status → after ≡ cache
kept-elsewhere plan cache after r (inl unread) =
    let h = (subst (λ s. Promise r.words r.old r.new r.out r.out' s) unread r.promise).said in
    same-files plan cache after r (same-elsewhere r.words r.old r.new ReadFault h.text h.holds (inl refl))
kept-elsewhere plan cache after r (inr unwritten) =
    let h = (subst (λ s. Promise r.words r.old r.new r.out r.out' s) unwritten r.promise).said in
    same-files plan cache after r (same-elsewhere r.words r.old r.new WriteFault h.text h.holds (inr refl))

pub kept-unsaid : (plan : PlanView) (cache after : Files) (r : IsRunBefore plan cache after) → (p : AtOutFault r.words r.old r.new r.out r.out') → FailsElsewhere p.status → after ≡ cache
kept-unsaid plan cache after r p elsewhere = same-files plan cache after r (same-elsewhere r.words r.old r.new p.status p.text p.holds elsewhere)

-- ---- what a build without faults answers

never-planned : (P : Reading → Type 0) (plan : PlanView) (cache : Files) (old new : Folders) (status : Status) (r : IsRun plan cache old new status) → (c : Command) → c ≡ Build r.options → (P (planned plan) → ⊥) → IsUnplanned c P old new → ⊥
never-planned P plan cache old new status r c is never h =
    let k : IsRefused (Build r.options) P old new = subst (λ d. IsUnplanned d P old new) is h in
    never (subst P r.plan_of.read (at-some (λ m. P (reading m)) r.source_told k.cause))

write-cause : (o : BuildOptions) (old new : Folders) (text : Bytes) → IsWriteFault (Build o) old new text → Rose old.site.faults new.site.faults
write-cause o old new text h = h.cause

store-cause : (o : BuildOptions) (old new : Folders) (text : Bytes) → IsStoreFault (Build o) old new text → Rose old.cache.faults new.cache.faults
store-cause o old new text (inl h) = h.cause
store-cause o old new text (inr h) = h.cause

pub answered : (plan : PlanView) (cache : Files) (old new : Folders) (status : Status) (r : IsRun plan cache old new status) → IsHonest plan (get cache store_path) → IsFaultless old new r.out r.out' → IsAnswered plan status
answered plan cache old new Done r honest f = done refl (run-ok plan cache old new r honest).all
answered plan cache old new Report r honest f = reported refl (run-report plan cache old new r honest).some
answered plan cache old new Usage r honest f = absurd (cc (r.promise.said.holds.cause, r.asked))
answered plan cache old new BadRules r honest f =
    let h = r.promise.said in
    absurd (never-planned (IsBadRules h.text) plan cache old new BadRules r h.holds.task (same-command r.words h.holds.task r.options h.holds.asked r.asked) (λ n. n) h.holds.comes)
answered plan cache old new BadSite r honest f =
    let h = r.promise.said in
    absurd (never-planned (IsBadSite h.text) plan cache old new BadSite r h.holds.task (same-command r.words h.holds.task r.options h.holds.asked r.asked) (λ n. n) h.holds.comes)
answered plan cache old new ReadFault r honest f = absurd (f.source r.promise.said.holds.comes.cause)
answered plan cache old new WriteFault r honest f =
    let h = r.promise.said in
    absurd (f.site (write-cause r.options old new h.text (subst (λ d. IsWriteFault d old new h.text) (same-command r.words h.holds.task r.options h.holds.asked r.asked) h.holds.comes)))
answered plan cache old new StoreFault r honest f =
    let h = r.promise.said in
    absurd (f.cache (store-cause r.options old new h.text (subst (λ d. IsStoreFault d old new h.text) (same-command r.words h.holds.task r.options h.holds.asked r.asked) h.holds.comes)))
answered plan cache old new OutFault r honest f = absurd (f.said r.promise.said.cut.cause)
answered plan cache old new NoMemory r honest f = wanting refl
answered plan cache old new BadLinks r honest f =
    let h = r.promise.said in
    absurd (subst (λ d. IsBadLinks d old new h.text) (same-command r.words h.holds.task r.options h.holds.asked r.asked) h.holds.comes)
