-- What a run of all compilers of a plan gives, over plain values.
use Rattle.std.proofs.Common.{◌≡◌, ap, ◌∙◌, subst, ℕ, map, reverse, Some, Result, Ok, Err, IfOk}
use Rattle.hk_base.specs.declared.refusal.NoMemory.{NoMemory}
use Rattle.hk_chain.specs.declared.page.Page.{Page}
use Rattle.hk_chain.specs.Kept.{KeptView, none_kept}
use Rattle.hk_chain.specs.Layout.{Shape, IsShape}
use Rattle.hk_eval.specs.PlanTable.{table_of}
use Rattle.hk_fix.specs.Fix.{Ending, Seeds, seeds_of, status}
use Rattle.hk_fix.specs.Pages.{Pages}
use Rattle.hk_fix.specs.Report.{upto}
use Rattle.hk_fix.specs.Results.{ResultsView}
use Rattle.hk_fix.specs.Task.{Run}
use Rattle.hk_machine.specs.Machine.{plan_run, plan_shape}
use Rattle.hk_replay.proofs.Bridging.{over-named}
use Rattle.hk_replay.specs.Numbered.{AreNumbered}
use Rattle.hk_replay.specs.Replays.{over}
use Rattle.hk_replay.specs.declared.record.Records.{Records}
use Rattle.hk_reuse.proofs.Agreeing.{complete-agree, fix-agree, status-agree}
use Rattle.hk_reuse.specs.Entries.{Entries, no_entries}
use Rattle.hk_reuse.specs.Over.{SameRuns}
use Rattle.hk_reuse.specs.Site.{no_seeds}
use Rattle.hk_rules.specs.MadePlan.{IsMadePlan}
use Rattle.hk_rules.specs.Plan.{lookups}
use Rattle.hk_rules.specs.PlanView.{PlanView}
use Rattle.hk_sched.specs.Lawful.{IsRunOf}
use Rattle.hk_sites.proofs.Lawful.{nothing-kept}
use Rattle.hk_sites.proofs.PlanSites.{plan-shape}
use Rattle.hk_sites.specs.PlanSite.{items_of}
use Rattle.hk_store.specs.Traits.{sha_digests}
use Rattle.hk_build.specs.Build.{pages, endings, run_of}
use Rattle.hk_build.specs.Built.{AreResults}
use Rattle.hk_build.proofs.Numbers.{all-upto, shape-items}

-- a run over entries
pub compiled : (plan : PlanView) (entries : Entries) (r : ResultsView) → IsRunOf (plan_shape plan) (run_of plan entries) no_seeds r → AreResults plan entries r
unfolding pages endings
compiled plan entries r h =
    let ending : ℕ → Ending = status (plan_shape plan) (run_of plan entries) no_seeds in
    let same : r.outcomes ≡ map ending (upto (plan_shape plan).items) = all-upto ending (plan_shape plan).items r.outcomes h.outcome_count h.outcomes in
    record {
      complete = h.complete;
      pages = h.pages;
      endings = same ∙ ap (λ n. map ending (upto n)) (shape-items plan);
      reported = h.reports;
    }

-- a run of the compilers of the layout, from nothing that is kept
module _ (plan : PlanView) (lay : Shape) (lay-is : lay ≡ plan_shape plan) (kept : KeptView) (kept-is : kept ≡ none_kept (plan_shape plan)) where
  unseeded : seeds_of kept ≡ no_seeds
  unseeded = ap seeds_of kept-is ∙ nothing-kept (plan_shape plan)

  pub plain-run : (run : ℕ → Pages → Run Page) (r : ResultsView) → IsRunOf lay run (seeds_of kept) r → IsRunOf (plan_shape plan) run no_seeds r
  plain-run run r h = subst (λ (s : Seeds). IsRunOf (plan_shape plan) run s r) unseeded (subst (λ (l : Shape). IsRunOf l run (seeds_of kept) r) lay-is h)

  -- over no entries
  pub checked-run : (common : PlanView) → common ≡ plan → (r : Result ResultsView NoMemory) → IfOk r (IsRunOf lay (plan_run common) (seeds_of kept)) → IfOk r (AreResults plan no_entries)
  checked-run common common-is (Err e) h = tt
  checked-run common common-is (Ok r) h = compiled plan no_entries r (plain-run (plan_run plan) r (subst (λ (p : PlanView). IsRunOf lay (plan_run p) (seeds_of kept) r) common-is h))

-- a run of compilers that go as these do
module _ (lay : Shape) (shape : IsShape lay) (a b : ℕ → Pages → Run Page) (same : SameRuns lay a b) where
  run-agrees : (r : ResultsView) → IsRunOf lay a no_seeds r → IsRunOf lay b no_seeds r
  run-agrees r h =
      record {
        complete = complete-agree lay shape no_seeds a b same (reverse r.history) h.complete;
        page_count = h.page_count;
        pages = h.pages ∙ fix-agree lay shape no_seeds a b same;
        outcome_count = h.outcome_count;
        outcomes = λ i lt. h.outcomes i lt ∙ ap Some (status-agree lay shape no_seeds a b same i lt);
        reports = h.reports;
        pages_of_done = h.pages_of_done;
        facts_of_done = h.facts_of_done;
      }

-- over the records of entries
module _ (plan : PlanView) (made : IsMadePlan plan) (entries : Entries) (records : Records) (numbered : AreNumbered sha_digests (items_of plan) entries records) where
  replays-same : SameRuns (plan_shape plan) (over records (plan_run plan)) (run_of plan entries)
  unfolding lookups table_of
  replays-same i k lt = over-named (items_of plan) entries records (plan_run plan) numbered i k lt

  shape : IsShape (plan_shape plan)
  unfolding lookups
  shape = plan-shape plan made

  pub replayed-run : (lay : Shape) → lay ≡ plan_shape plan → (kept : KeptView) → kept ≡ none_kept (plan_shape plan) → (common : PlanView) → common ≡ plan
      → (r : ResultsView) → IsRunOf lay (over records (plan_run common)) (seeds_of kept) r → AreResults plan entries r
  replayed-run lay lay-is kept kept-is common common-is r h =
      compiled plan entries r
      (run-agrees (plan_shape plan) shape (over records (plan_run plan)) (run_of plan entries) replays-same r
      (plain-run plan lay lay-is kept kept-is (over records (plan_run plan)) r (subst (λ (p : PlanView). IsRunOf lay (over records (plan_run p)) (seeds_of kept) r) common-is h)))
