-- Why the chains of linked plans are compilers.
use Rattle.std.proofs.Common.{◌≡◌, ℕ, List, [], ◌∷◌, length, map, Option, Some, refl, sym, ap, subst}
use Rattle.std.proofs.lemmas.List.{length-map}
use Rattle.std.specs.List.{AllByRecursion, filter_map}
use Rattle.hk_chain.specs.Layout.{IsShape}
use Rattle.hk_chain.specs.Snapshots.{AreSnapshots}
use Rattle.hk_chain.specs.declared.chain.Step.{Step}
use Rattle.hk_chain.specs.declared.chain.Step.TheVariants.{Body, Str, Copy, TemplateBody, Make, Load, Concat, Apply, SelfApply, Save, Relativize}
use Rattle.hk_rules.specs.Linked.{IsStepWithin}
use Rattle.hk_rules.specs.LinkedPlan.{IsLinkedPlan, snapshots_of}
use Rattle.hk_rules.specs.Pairs.{layout, count_of, saves}
use Rattle.hk_rules.specs.Plan.{chain_at, lookups, pair_of, pattern_at}
use Rattle.hk_rules.specs.PlanView.{PlanView}
use Rattle.hk_rules.proofs.ItemNumbers.{matches_in-distinct}
use Rattle.hk_rules.proofs.PairNumbers.{linked-chain, pair_of-own, pairs_of-saves, plan-snapshots}
use Rattle.hk_eval.specs.Within.{Renders}
use Rattle.hk_machine.specs.Runnable.{IsRunnableStep, Runs}

-- what a function gives of each, where it gives something of each
all-given : {X Y : Type 0} (f : X → Option Y) (xs : List X) (ys : List Y) → map f xs ≡ map Some ys → filter_map f xs ≡ ys
all-given f [] [] e = refl
all-given f [] (y ∷ ys) e = cc
all-given f (x ∷ xs) [] e = cc
all-given f (x ∷ xs) (y ∷ ys) e =
    let first : f x ≡ Some y = cc in
    let rest : map f xs ≡ map Some ys = cc in
    rw first (ap (λ zs. y ∷ zs) (all-given f xs ys rest))

step-runs : (contexts patterns : ℕ) (step : Step) → IsStepWithin contexts patterns step → IsRunnableStep contexts patterns step
step-runs contexts patterns Body h = tt
step-runs contexts patterns Str h = tt
step-runs contexts patterns Copy h = tt
step-runs contexts patterns TemplateBody h = tt
step-runs contexts patterns (Make text) h = tt
step-runs contexts patterns (Load id name) h = tt
step-runs contexts patterns (Concat pattern) h = h
step-runs contexts patterns (Apply id context) h = h
step-runs contexts patterns (SelfApply context) h = h
step-runs contexts patterns (Save name) h = tt
step-runs contexts patterns Relativize h = tt

chain-runs : (contexts patterns : ℕ) (steps : List Step) → AllByRecursion (IsStepWithin contexts patterns) steps → AllByRecursion (IsRunnableStep contexts patterns) steps
chain-runs contexts patterns [] h = tt
chain-runs contexts patterns (step ∷ steps) h = (step-runs contexts patterns step h.0, chain-runs contexts patterns steps h.1)

-- the chains of a linked plan whose layout has the form of one
pub linked-runs : (plan : PlanView) → IsShape (layout plan.items) → Renders plan → IsLinkedPlan plan → Runs plan
unfolding lookups
linked-runs plan shape renders linked =
    record {
      shape = shape;
      count = length-map plan.items count_of;
      renders = renders;
      once = λ n. matches_in-distinct plan.items (pattern_at plan n);
      paired = λ i name p lt e. pair_of-own plan i name p lt e;
      saved = λ i lt. subst (AreSnapshots (layout plan.items) i) (sym (all-given (pair_of plan i) (saves (chain_at plan i)) (snapshots_of plan i) (pairs_of-saves plan i linked lt))) (plan-snapshots plan i lt);
      runs = λ i lt. chain-runs (length plan.contexts) (length plan.patterns) (chain_at plan i) (linked-chain plan i linked lt).within;
    }
