-- The steps of a plan, up to the first fault.
use borrow.Author.Tests.{lt-ltb}
use Rattle.std.proofs.Common.{◌≡◌, ◌<◌, length, cond, List, Some, None, Result, Err, sym, ap, subst, ◌∙◌}
use Rattle.hk_base.specs.Answers.{Answers}
use Rattle.hk_base.specs.Bytes.{Bytes}
use Rattle.hk_base.specs.declared.refusal.Refusal.{Refusal}
use Rattle.hk_base.specs.declared.refusal.Refusal.TheVariants.{Fault, NoMemory}
use Rattle.hk_chain.specs.Context.{ContextView}
use Rattle.hk_pattern.specs.declared.pattern.Pattern.{Pattern}
use Rattle.hk_rules.specs.Outcomes.{Passes, unless}
use Rattle.hk_rules.specs.PlanView.{PlanView}
use Rattle.hk_rules.specs.Planning.{name_fault, plan_items, plan_counted, plan_of}
use Rattle.hk_rules_file.specs.Rules.{RulesView}
use Rattle.hk_rules_file.specs.declared.tables.FeedRule.{FeedRule}
use Rattle.hk_rules.specs.Sources.{sources}
use Rattle.hk_rules.specs.Universe.{Claim, universe, Enough, same, many}
use Rattle.hk_rules.specs.declared.plan_fault.PlanFault.{PlanFault}
use Rattle.hk_rules.specs.declared.plan_fault.PlanFault.TheVariants.{TooManyItems}

-- a bad name ends it
pub plan_of-stop : (T : Type 0) (rules : RulesView) (files : List (Bytes × Bytes)) (e : Refusal PlanFault) → Passes {T = T} (name_fault files) (Err e) → Answers {T = PlanView} (plan_of rules files) (Err e)
unfolding plan_of
plan_of-stop T rules files (Fault fault) h = ap (λ o. unless o (plan_items rules.contexts rules.patterns rules.feeds (universe (sources files) rules.rules))) h
plan_of-stop T rules files NoMemory h = tt

plan_items-many : (contexts : List ContextView) (patterns : List Pattern) (feeds : List FeedRule) (items : List Claim) → 65535 < length items → plan_items contexts patterns feeds items ≡ Err TooManyItems
plan_items-many contexts patterns feeds items h = ap (λ b. unless (cond b (Some TooManyItems) None) (plan_counted contexts patterns feeds items)) (lt-ltb _ _ h)

plan_items-enough : (contexts : List ContextView) (patterns : List Pattern) (feeds : List FeedRule) (items all : List Claim) → Enough items all → plan_items contexts patterns feeds items ≡ plan_items contexts patterns feeds all
plan_items-enough contexts patterns feeds items all (same e) = ap (plan_items contexts patterns feeds) e
plan_items-enough contexts patterns feeds items all (many h k) = plan_items-many contexts patterns feeds items h ∙ sym (plan_items-many contexts patterns feeds all k)

-- the plan of the items that there are
pub plan_of-on : (rules : RulesView) (files : List (Bytes × Bytes)) (items : List Claim) (r : Result PlanView (Refusal PlanFault)) → name_fault files ≡ None → Enough items (universe (sources files) rules.rules) → Answers (plan_items rules.contexts rules.patterns rules.feeds items) r → Answers (plan_of rules files) r
unfolding plan_of
plan_of-on rules files items r free are =
    subst (λ w. Answers w r)
    (plan_items-enough rules.contexts rules.patterns rules.feeds items (universe (sources files) rules.rules) are ∙ sym (ap (λ o. unless o (plan_items rules.contexts rules.patterns rules.feeds (universe (sources files) rules.rules))) free))
