-- Builds over honest stores, one and many.
use Rattle.std.proofs.Common.{◌≡◌, Bool, List, Option, Some, sym, ap, subst, ◌∙◌, inl, inr}
use Rattle.std.specs.Cmp.Lexicographic.{nat_list_cmp_total}
use Rattle.std.specs.FinMap.{get, get-insert, insert}
use Rattle.std.specs.Prelude.{cond}
use Rattle.hk_base.specs.Bytes.{Bytes, Files}
use Rattle.hk_base.specs.Ties.{ties-self}
use Rattle.hk_build.specs.Build.{image, site_of}
use Rattle.hk_build.specs.Built.{IsClean}
use Rattle.hk_reuse.specs.Entries.{no_entries}
use Rattle.hk_rules.specs.PlanView.{PlanView}
use Rattle.hk_words.specs.declared.commands.BuildOptions.{BuildOptions}
use Rattle.hk_words.specs.declared.commands.Command.{Command}
use Rattle.hk_words.specs.declared.commands.Command.TheVariants.{Build}
use Rattle.hk_words.specs.Words.{command}
use Rattle.hk_app.specs.declared.status.Status.{Status}
use Rattle.hk_app.specs.declared.status.Status.TheVariants.{Ok as Done, Report}
use Rattle.hk_app.specs.Promise.{Builds, EndsStopped, EndsWhole, IsDone, IsPlanOf, IsStopped, Reports, Runs, Says}
use Rattle.hk_app.specs.FolderReading.{Reading, absent, planned, refused, unplanned}
use Rattle.hk_app.specs.Standing.{store_path}
use Rattle.hk_app.specs.Taking.{IsTakenOf, Taken, Takes}
use Rattle.hk_app.specs.World.{Folders}
use Rattle.hk_app.proofs.Endings.{at-some}
use Rattle.hk_honest.specs.Chain.{EndsBuild, IsChain, IsLinked, IsRun, first, next}
use Rattle.hk_honest.specs.Honest.{IsCleanReport, IsCleanSite, IsHonest, absent as no-store, left}
use Rattle.hk_honest.proofs.Clean.{clean-taken, same-report, same-site}

one-plan : (x y : PlanView) → planned x ≡ planned y → x ≡ y
one-plan x y e = ap held e
  where
    held : Reading → PlanView
    held (planned z) = z
    held absent = x
    held (refused fault) = x
    held (unplanned fault) = x

pub same-command : (words : List Bytes) (c : Command) (o : BuildOptions) → command words ≡ Some c → command words ≡ Some (Build o) → c ≡ Build o
same-command words c o e f = some-is c (Build o) (sym e ∙ f)
  where
    some-is : (x y : Command) → Some x ≡ Some y → x ≡ y
    some-is x y is = cc is

-- what was taken, and how the build of the plan ended
pub ended : (E : Bytes → PlanView → Taken → Type 0) (trace : Bool) (said : Bytes) (o : BuildOptions) (plan : PlanView) (cache : Files) (old new : Folders) (status : Status) → IsRun plan cache old new status
    → Runs (Build o) old (Says E trace said) → (t : Taken) × IsTakenOf (get cache store_path) t × Says E trace said plan t
ended E trace said o plan cache old new status r h =
    let p = at-some (λ m. (q : PlanView) × IsPlanOf m q × Takes (Build o) old.cache (Says E trace said q)) r.source_told h in
    let same : p.0 ≡ plan = one-plan p.0 plan (sym p.1.read ∙ r.plan_of.read) in
    at-some (λ m. (t : Taken) × IsTakenOf (get m store_path) t × Says E trace said plan t) r.cache_told (subst (λ q. Takes (Build o) old.cache (Says E trace said q)) same p.2)

clean-ok : (plan : PlanView) (cache : Files) (old new : Folders) → (r : IsRun plan cache old new Done) → IsHonest plan (get cache store_path) → (o : BuildOptions) (said : Bytes) → Builds (Build o) o.trace old new said → IsCleanSite plan cache new
clean-ok plan cache old new r honest o said b =
    let w = ended (EndsWhole old new) o.trace said o plan cache old new Done r b.run in
    let clean : IsClean plan w.0.entries = clean-taken plan (get cache store_path) w.0 honest w.1 in
    record {
      all = sym (same-report plan w.0.entries clean) ∙ w.2.ends.all;
      site = at-some (λ m. new.site.files ≡ Some (site_of plan w.0.entries)) r.site_told w.2.ends.site ∙ ap Some (same-site plan w.0.entries clean);
      store = at-some (λ m. new.cache.files ≡ Some (insert m store_path (image plan w.0.entries))) r.cache_told w.2.ends.store ∙ ap (λ b. Some (insert cache store_path b)) clean.image;
    }

clean-report : (plan : PlanView) (cache : Files) (old new : Folders) → (r : IsRun plan cache old new Report) → IsHonest plan (get cache store_path) → (o : BuildOptions) (said : Bytes) → Reports (Build o) o.trace old new said → IsCleanReport plan cache old new
clean-report plan cache old new r honest o said b =
    let w = ended (EndsStopped old new) o.trace said o plan cache old new Report r b.run in
    let clean : IsClean plan w.0.entries = clean-taken plan (get cache store_path) w.0 honest w.1 in
    record {
      some = sym (same-report plan w.0.entries clean) ∙ w.2.ends.some;
      site = b.site;
      store = at-some (λ m. new.cache.files ≡ Some (insert m store_path (image plan w.0.entries))) r.cache_told w.2.ends.store ∙ ap (λ b. Some (insert cache store_path b)) clean.image;
    }

pub run-ok : (plan : PlanView) (cache : Files) (old new : Folders) → IsRun plan cache old new Done → IsHonest plan (get cache store_path) → IsCleanSite plan cache new
run-ok plan cache old new r honest =
    let h = r.promise.said in
    let c : h.holds.task ≡ Build r.options = same-command r.words h.holds.task r.options h.holds.asked r.asked in
    clean-ok plan cache old new r honest r.options h.text (subst (λ d. IsDone d old new h.text) c h.holds.comes)

pub run-report : (plan : PlanView) (cache : Files) (old new : Folders) → IsRun plan cache old new Report → IsHonest plan (get cache store_path) → IsCleanReport plan cache old new
run-report plan cache old new r honest =
    let h = r.promise.said in
    let c : h.holds.task ≡ Build r.options = same-command r.words h.holds.task r.options h.holds.asked r.asked in
    clean-report plan cache old new r honest r.options h.text (subst (λ d. IsStopped d old new h.text) c h.holds.comes)

-- ---- chains

stored-at : (cache : Files) (bytes : Bytes) → get (insert cache store_path bytes) store_path ≡ Some bytes
stored-at cache bytes = get-insert nat_list_cmp_total cache store_path bytes store_path ∙ ap (λ b. cond b (Some bytes) (get cache store_path)) (ties-self store_path)

pub left-at : (cache after : Files) (bytes : Bytes) (o : Option Files) → o ≡ Some (insert cache store_path bytes) → o ≡ Some after → get after store_path ≡ Some bytes
left-at cache after bytes o e f = ap (λ m. get m store_path) (some-is after (insert cache store_path bytes) (sym f ∙ e)) ∙ stored-at cache bytes
  where
    some-is : (x y : Files) → Some x ≡ Some y → x ≡ y
    some-is x y is = cc is

run-leaves : (plan : PlanView) (cache after : Files) (old new : Folders) (status : Status) → IsRun plan cache old new status → EndsBuild status → IsHonest plan (get cache store_path) → new.cache.files ≡ Some after → get after store_path ≡ Some (image plan no_entries)
run-leaves plan cache after old new status r (inl done) honest e = left-at cache after (image plan no_entries) new.cache.files (run-ok plan cache old new (subst (IsRun plan cache old new) done r) honest).store e
run-leaves plan cache after old new status r (inr told) honest e = left-at cache after (image plan no_entries) new.cache.files (run-report plan cache old new (subst (IsRun plan cache old new) told r) honest).store e

pub chain-stores : (plan : PlanView) (after : Files) → IsChain plan after → get after store_path ≡ Some (image plan no_entries)
chain-stores _ _ (first plan after cache old new status r ends none e) = run-leaves plan cache after old new status r ends (no-store none) e
chain-stores _ _ (next before plan after cache old new status chain linked r ends e) = run-leaves plan cache after old new status r ends (left before linked.apart linked.short (chain-stores before cache chain)) e

pub chain-honest : (before plan : PlanView) (cache : Files) → IsChain before cache → IsLinked before plan → IsHonest plan (get cache store_path)
chain-honest before plan cache chain linked = left before linked.apart linked.short (chain-stores before cache chain)
