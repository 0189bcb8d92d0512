-- What a build over an honest store says.
use Rattle.std.proofs.Common.{◌≡◌, Bool, List, ◌++◌, length, Option, sym, ap, subst, ◌∙◌}
use Rattle.std.specs.FinMap.{get}
use Rattle.hk_base.specs.Bytes.{Bytes, Files}
use Rattle.hk_build.specs.Build.{compiled, reused, run_of, seeds, shown}
use Rattle.hk_build.specs.Built.{IsClean}
use Rattle.hk_build.specs.Planned.{IsPlanned}
use Rattle.hk_build.proofs.CompiledItems.{compiled-begin, kept-history}
use Rattle.hk_build.proofs.HonestBuilds.{honest-history}
use Rattle.hk_build.proofs.Replayed.{planned-made}
use Rattle.hk_fix.specs.declared.event.Event.{Event}
use Rattle.hk_fix.specs.Fix.{Ending, IsComplete}
use Rattle.hk_fix.specs.Report.{report_of}
use Rattle.hk_machine.specs.Machine.{plan_run, plan_shape}
use Rattle.hk_reuse.specs.Entries.{Entries, no_entries}
use Rattle.hk_reuse.specs.Site.{no_seeds}
use Rattle.hk_rules.specs.Plan.{lookups}
use Rattle.hk_rules.specs.PlanView.{PlanView}
use Rattle.hk_texts.specs.Printed.{summary}
use Rattle.hk_texts.specs.ReportText.{report_text}
use Rattle.hk_words.specs.declared.commands.Command.TheVariants.{Build}
use Rattle.hk_app.specs.declared.status.Status.TheVariants.{Ok as Done, Report}
use Rattle.hk_app.specs.Promise.{Builds, EndsStopped, EndsWhole, IsDone, IsSaid, IsStopped, Reports, Written, report_lines, summary_of, traced}
use Rattle.hk_app.specs.Standing.{removed, store_path, written}
use Rattle.hk_app.specs.Taking.{IsTakenOf, Taken, nothing}
use Rattle.hk_app.specs.World.{Folders, Output}
use Rattle.hk_app.proofs.Endings.{at-some}
use Rattle.hk_honest.specs.Chain.{IsRun}
use Rattle.hk_honest.specs.Honest.{IsHonest, SaysCleanly, absent, clean_summary, damaged, left}
use Rattle.hk_honest.proofs.Clean.{clean-taken, left-taken, damage-taken, none-formed, same-site}
use Rattle.hk_honest.proofs.Runs.{ended, same-command}

-- ---- the history

module _ (plan : PlanView) (is : IsPlanned plan) (h : List Event) where
  -- without the events of the kept items it is one of the machines
  abbrev Leaves : Entries → Type 0
  Leaves es = IsComplete (plan_shape plan) (run_of plan es) no_seeds h → IsComplete (plan_shape plan) (plan_run plan) (seeds plan es) (shown plan es h)

  over-nothing : Leaves no_entries
  over-nothing = kept-history plan no_entries (planned-made plan is) none-formed h

  own-history : (store : Option Bytes) (t : Taken) → IsHonest plan store → IsTakenOf store t → Leaves t.entries
  own-history store t (absent e) taken = subst Leaves (sym (ap (λ (x : Taken). x.entries) (subst (λ o. IsTakenOf o t) e taken))) over-nothing
  own-history store t (left old apart short e) taken = subst Leaves (sym (left-taken plan old apart short t (subst (λ o. IsTakenOf o t) e taken))) (honest-history old plan apart h)
  own-history store t (damaged bytes damage short read e) taken = subst Leaves (sym (damage-taken bytes damage short read t (subst (λ o. IsTakenOf o t) e taken))) over-nothing

-- ---- the text

said-cleanly : (trace : Bool) (plan : PlanView) (store : Option Bytes) (t : Taken) (rest clean said : Bytes) (out out' : Output) → IsPlanned plan → IsHonest plan store → IsTakenOf store t
    → IsSaid trace plan t rest said → rest ≡ clean → Written out out' said → SaysCleanly trace plan t clean out out'
said-cleanly trace plan store t rest clean said out out' is honest taken s same w =
    let h : List Event = shown plan t.entries s.history in
    record {
      history = h;
      complete = own-history plan is s.history store t honest taken s.complete;
      begun = λ i lt. compiled-begin plan t.entries s.history i s.complete lt;
      text = subst (Written out out') (s.text ∙ ap (λ r. t.damage ++ (traced trace plan h ++ r)) same) w;
    }

same-lines : (plan : PlanView) (t : Taken) → IsClean plan t.entries → report_lines plan t ≡ report_lines plan nothing
same-lines plan t h = ap (λ (x : List Ending). report_text (lookups plan) x (report_of (plan_shape plan) x)) h.endings

same-summary : (plan : PlanView) (t : Taken) (before : Files) → IsClean plan t.entries → summary_of plan t before ≡ clean_summary plan t before
same-summary plan t before h =
    ap (λ (m : Files). summary (length (compiled plan t.entries)) (length (reused plan t.entries)) (written m before) (removed m before)) (same-site plan t.entries h)

-- ---- a run

module _ (plan : PlanView) (cache : Files) (old new : Folders) where
  says-ok : (r : IsRun plan cache old new Done) → IsHonest plan (get cache store_path) → (said : Bytes) → Builds (Build r.options) r.options.trace old new said → Written r.out r.out' said
      → (t : Taken) × IsTakenOf (get cache store_path) t × SaysCleanly r.options.trace plan t (clean_summary plan t r.site) r.out r.out'
  says-ok r honest said b w =
      let e = ended (EndsWhole old new) r.options.trace said r.options plan cache old new Done r b.run in
      let clean : IsClean plan e.0.entries = clean-taken plan (get cache store_path) e.0 honest e.1 in
      let same : e.2.rest ≡ clean_summary plan e.0 r.site = at-some (λ m. e.2.rest ≡ summary_of plan e.0 m) r.site_told e.2.ends.text ∙ same-summary plan e.0 r.site clean in
      (e.0, e.1, said-cleanly r.options.trace plan (get cache store_path) e.0 e.2.rest (clean_summary plan e.0 r.site) said r.out r.out' r.plan_of.of_rules honest e.1 e.2.text same w)

  says-report : (r : IsRun plan cache old new Report) → IsHonest plan (get cache store_path) → (said : Bytes) → Reports (Build r.options) r.options.trace old new said → Written r.out r.out' said
      → (t : Taken) × IsTakenOf (get cache store_path) t × SaysCleanly r.options.trace plan t (report_lines plan nothing) r.out r.out'
  says-report r honest said b w =
      let e = ended (EndsStopped old new) r.options.trace said r.options plan cache old new Report r b.run in
      let clean : IsClean plan e.0.entries = clean-taken plan (get cache store_path) e.0 honest e.1 in
      (e.0, e.1, said-cleanly r.options.trace plan (get cache store_path) e.0 e.2.rest (report_lines plan nothing) said r.out r.out' r.plan_of.of_rules honest e.1 e.2.text (e.2.ends.text ∙ same-lines plan e.0 clean) w)

  pub ok-said : (r : IsRun plan cache old new Done) → IsHonest plan (get cache store_path)
      → (t : Taken) × IsTakenOf (get cache store_path) t × SaysCleanly r.options.trace plan t (clean_summary plan t r.site) r.out r.out'
  ok-said r honest =
      let h = r.promise.said in
      says-ok r honest h.text (subst (λ d. IsDone d old new h.text) (same-command r.words h.holds.task r.options h.holds.asked r.asked) h.holds.comes) h.written

  pub report-said : (r : IsRun plan cache old new Report) → IsHonest plan (get cache store_path)
      → (t : Taken) × IsTakenOf (get cache store_path) t × SaysCleanly r.options.trace plan t (report_lines plan nothing) r.out r.out'
  report-said r honest =
      let h = r.promise.said in
      says-report r honest h.text (subst (λ d. IsStopped d old new h.text) (same-command r.words h.holds.task r.options h.holds.asked r.asked) h.holds.comes) h.written
