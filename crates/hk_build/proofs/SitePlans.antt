-- The plans of rules with tables.
use Rattle.std.proofs.Common.{◌≡◌, List, Result, Ok, Err, refl, sym, ap, subst, ◌∙◌}
use Rattle.hk_base.specs.Answers.{Answers}
use Rattle.hk_base.specs.Bytes.{Bytes}
use Rattle.hk_base.specs.declared.refusal.Refusal.{Refusal}
use Rattle.hk_base.specs.declared.refusal.Refusal.TheVariants.{Fault, NoMemory}
use Rattle.hk_rules.specs.Outcomes.{after}
use Rattle.hk_rules.specs.PlanView.{PlanView}
use Rattle.hk_rules.specs.Planning.{plan_of}
use Rattle.hk_rules_file.specs.Linked.{IsLinked}
use Rattle.hk_rules_file.specs.Rules.{RulesView}
use Rattle.hk_tags.specs.Untabled.{without_tables}
use Rattle.hk_build.specs.SitePlan.{SiteFault, of_plan, rules_plan}

-- a plan doesn't look at the tables
pub untabled-plan : (rules : RulesView) (files : List (Bytes × Bytes)) → plan_of (without_tables rules) files ≡ plan_of rules files
unfolding plan_of
untabled-plan rules files = refl

-- a refusal ends it
pub stops : {S T F : Type 0} (first : Result S F) (next : S → Result T F) (e : Refusal F) → Answers first (Err e) → Answers (after first next) (Err e)
stops first next (Fault fault) h = ap (λ r. after r next) h
stops first next NoMemory h = tt

-- and a value goes on
pub goes-on : {S T F : Type 0} (first : Result S F) (next : S → Result T F) (x : S) (answer : Result T (Refusal F)) → first ≡ Ok x
    → Answers (next x) answer → Answers (after first next) answer
goes-on first next x answer is h = subst (λ wanted. Answers wanted answer) (sym (ap (λ r. after r next) is)) h

pub untabled-linked : (rules found : RulesView) → found ≡ without_tables rules → IsLinked rules → IsLinked found
untabled-linked rules found is h = subst IsLinked (sym is) (record { chains = h.chains; named = h.named; routes = h.routes })

pub base-answers : (rules found : RulesView) (files copies : List (Bytes × Bytes)) (answer : Result PlanView (Refusal SiteFault)) → found ≡ without_tables rules
    → copies ≡ files → Answers (rules_plan found copies) answer → Answers (rules_plan rules files) answer
base-answers rules found files copies answer is same h =
    subst (λ wanted. Answers wanted answer)
    ((λ i. rules_plan (is i) (same i)) ∙ ap of_plan (untabled-plan rules files)) h
