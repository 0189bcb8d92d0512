-- The results of replays over the entries of a store are those of a build.
use Rattle.std.proofs.Common.{◌≡◌, sym, subst, List, Result, Ok, Err, IfOk}
use Rattle.hk_base.specs.declared.refusal.NoMemory.{NoMemory}
use Rattle.hk_chain.specs.Kept.{KeptView, none_kept}
use Rattle.hk_chain.specs.Layout.{Shape}
use Rattle.hk_fix.specs.Fix.{seeds_of}
use Rattle.hk_fix.specs.Results.{ResultsView}
use Rattle.hk_machine.specs.Machine.{plan_run, plan_shape}
use Rattle.hk_replay.proofs.Planned.{stores-formed}
use Rattle.hk_replay.specs.Numbered.{AreNumbered}
use Rattle.hk_replay.specs.Replays.{over}
use Rattle.hk_replay.specs.declared.record.Records.{Records}
use Rattle.hk_reuse.specs.Entries.{Entries, entries_in}
use Rattle.hk_rules.specs.MadePlan.{IsMadePlan}
use Rattle.hk_rules.specs.PlanView.{PlanView}
use Rattle.hk_sched.specs.Lawful.{IsRunOf}
use Rattle.hk_sites.proofs.MadePlans.{plan-made}
use Rattle.hk_sites.specs.PlanSite.{items_of}
use Rattle.hk_store.specs.Entry.{EntryView}
use Rattle.hk_store.specs.Stored.{IsStored}
use Rattle.hk_store.specs.Traits.{sha_digests}
use Rattle.hk_build.specs.Ended.{HasReplayed, IsBuild, IsReplayed}
use Rattle.hk_build.specs.Planned.{IsPlanned}
use Rattle.hk_build.specs.declared.ended.Build.{Build}
use Rattle.hk_build.proofs.Compiling.{replayed-run}

pub planned-made : (plan : PlanView) → IsPlanned plan → IsMadePlan plan
planned-made plan is = plan-made is.rules is.files plan is.made is.linked

module _ (plan : PlanView) (is : IsPlanned plan) (stored : List EntryView) (held : IsStored stored) (records : Records) (numbered : AreNumbered sha_digests (items_of plan) (entries_in stored) records) where
  abbrev IsOver : PlanView → ResultsView → Type 0
  IsOver p r = IsReplayed p (entries_in stored) records r

  pub replayed : (lay : Shape) → lay ≡ plan_shape plan → (kept : KeptView) → kept ≡ none_kept (plan_shape plan) → (common : PlanView) → common ≡ plan
      → (r : ResultsView) → IsRunOf lay (over records (plan_run common)) (seeds_of kept) r → IsOver plan r
  replayed lay lay-is kept kept-is common common-is r h =
      record {
        made = planned-made plan is;
        formed = stores-formed stored held;
        numbered = numbered;
        results = replayed-run plan (planned-made plan is) (entries_in stored) records numbered lay lay-is kept kept-is common common-is r h;
      }

  -- a plan under another name
  module _ (p : PlanView) (p-is : p ≡ plan) (r : ResultsView) (h : IsOver plan r) where
    under : IsOver p r
    under = subst (λ q. IsOver q r) (sym p-is) h

    pub has-replayed : HasReplayed p records r
    has-replayed = (entries_in stored, under)

    pub built : (x : Result Build NoMemory) → IfOk x (λ b. (entries : Entries) → IsReplayed p entries records r → IsBuild p entries b) → IfOk x (IsBuild plan (entries_in stored))
    built (Err e) t = tt
    built (Ok b) t = subst (λ q. IsBuild q (entries_in stored) b) p-is (t (entries_in stored) under)
