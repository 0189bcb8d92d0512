-- What the commands come to that write nothing but their text.
use Rattle.std.proofs.Common.{◌≡◌, ℕ, ◌<◌, List, map, length, refl, sym, ap, subst, ◌∙◌, Result, Ok, Err, IfOk, Some}
use Rattle.hk_base.specs.Bytes.{Bytes}
use Rattle.hk_base.specs.declared.refusal.NoMemory.{NoMemory as NoMemory-data}
use Rattle.hk_build.specs.Build.{endings}
use Rattle.hk_build.specs.Built.{AreResults}
use Rattle.hk_build.specs.Planned.{IsPlanned}
use Rattle.hk_build.specs.Reported.{IsReported}
use Rattle.hk_build.proofs.Numbers.{shape-is}
use Rattle.hk_build.proofs.Replayed.{planned-made}
use Rattle.hk_build.proofs.Storing.{can-tell}
use Rattle.hk_chain.specs.Layout.{pairs}
use Rattle.hk_fix.specs.Fix.{Ending}
use Rattle.hk_fix.specs.Results.{ResultsView}
use Rattle.hk_reuse.specs.Entries.{no_entries}
use Rattle.hk_rules.specs.Pairs.{layout}
use Rattle.hk_rules.specs.Plan.{lookups}
use Rattle.hk_rules.specs.PlanView.{PlanView}
use Rattle.hk_texts.specs.DepsText.{CanTell, deps_text}
use Rattle.hk_app.specs.declared.checking.Compiled.{Compiled}
use Rattle.hk_app.specs.declared.checking.Compiled.TheVariants.{Stopped, Whole}
use Rattle.hk_app.specs.declared.ended.Ended.{Ended}
use Rattle.hk_app.specs.declared.status.Status.TheVariants.{Ok as Done}
use Rattle.hk_app.specs.Checking.{CompilesTo, IsWhole}
use Rattle.hk_app.specs.Promise.{AllEnd, IsNamed, deps_lines}
use Rattle.hk_app.specs.Run.{EndsCheck, EndsChecked}
use Rattle.hk_app.specs.Taking.{nothing}

pub named-of : (plan q : PlanView) (text : Bytes) → q ≡ plan → IsReported q no_entries (Some text) → IsNamed text plan
named-of plan q text e h = subst (IsNamed text) e (record { some = h.0; text = h.1 })

pub stopped-check : (shown : PlanView → Bytes) (plan p : PlanView) (x : Compiled) (e : Ended) → p ≡ plan → x ≡ Stopped e → CompilesTo p x → EndsCheck shown plan e
stopped-check shown plan p x e same is h =
    let w = subst (CompilesTo plan) is (subst (λ q. CompilesTo q x) same h) in
    subst (λ s. EndsChecked shown plan s e.text) (sym w.0) w.1

pub whole-check : (shown : PlanView → Bytes) (plan p q : PlanView) (x : Compiled) (results : ResultsView) (r : Result Ended NoMemory-data) (text : Bytes) → p ≡ plan → q ≡ p → x ≡ Whole results → CompilesTo p x
    → text ≡ shown q → IfOk r (λ e. (e.status ≡ Done) × (e.text ≡ text)) → IfOk r (EndsCheck shown plan)
whole-check shown plan p q x results (Err e) text is same whole h shows said = tt
whole-check shown plan p q x results (Ok e) text is same whole h shows said =
    let all : AllEnd p nothing = (subst (CompilesTo p) whole h).all in
    subst (λ s. EndsChecked shown plan s e.text) (sym said.0) (record { all = subst (λ v. AllEnd v nothing) is all; text = said.1 ∙ shows ∙ ap shown (same ∙ is) })

-- what is told of the items is the plan's
pub tells : (plan q : PlanView) → IsPlanned plan → q ≡ plan → (r : ResultsView) → AreResults plan no_entries r → (ends : List Ending) → ends ≡ r.outcomes
    → CanTell (length q.items) (pairs (layout q.items)) (length q.patterns) ends
tells plan q planned same r h ends is =
    subst (λ (es : List Ending). CanTell (length q.items) (pairs (layout q.items)) (length q.patterns) es) (sym is)
    (subst (λ (v : PlanView). CanTell (length v.items) (pairs (layout v.items)) (length v.patterns) r.outcomes) (sym same)
    (subst (λ lay. CanTell (length plan.items) (pairs lay) (length plan.patterns) r.outcomes) (shape-is plan) (can-tell plan (planned-made plan planned) no_entries (λ id e found. cc found) r h)))

pub told-deps : (plan q : PlanView) → q ≡ plan → (r : ResultsView) → AreResults plan no_entries r → (ends : List Ending) → ends ≡ r.outcomes → (text : Bytes) → text ≡ deps_text (lookups q) (length q.items) ends → text ≡ deps_lines q
told-deps plan q same r h ends is text e =
    let there : ends ≡ endings q no_entries = is ∙ h.endings ∙ ap (λ v. endings v no_entries) (sym same) in
    e ∙ ap (deps_text (lookups q) (length q.items)) there
