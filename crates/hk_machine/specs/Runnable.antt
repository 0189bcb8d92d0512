-- What a plan has to be for its chains to be compilers.
use Rattle.std.specs.Prelude.{◌≡◌, ℕ, ◌<◌, List, filter_map, length, Some, nat_eq}
use Rattle.std.specs.List.{AllByRecursion, IsDistinct}
use Rattle.hk_base.specs.Bytes.{Bytes}
use Rattle.hk_chain.specs.Layout.{IsShape, pairs, item_of}
use Rattle.hk_chain.specs.declared.chain.Step.{Step}
use Rattle.hk_chain.specs.declared.chain.Step.TheVariants.{Load, Concat, Apply, SelfApply}
use Rattle.hk_chain.specs.Snapshots.{AreSnapshots}
use Rattle.hk_rules.specs.Pairs.{saves}
use Rattle.hk_rules.specs.Plan.{Lookups, lookups}
use Rattle.hk_rules.specs.PlanView.{PlanView}
use Rattle.hk_eval.specs.Renderable.{IsRenderable}

-- the pairs under which some steps of an item's chain save its page
abbrev pub own_pairs : Lookups → ℕ → List Step → List ℕ
own_pairs plan item steps = filter_map (plan.pair item) (saves steps)

-- a step whose numbers are those of a context or of a pattern of the plan
abbrev pub IsRunnableStep : ℕ → ℕ → Step → Type 0
IsRunnableStep contexts patterns (Concat pattern) = pattern < patterns
IsRunnableStep contexts patterns (Apply id context) = context < contexts
IsRunnableStep contexts patterns (SelfApply context) = context < contexts
IsRunnableStep contexts patterns _ = Unit {0}

-- a step that asks for no page and renders nothing
abbrev pub NeedsNoPage : Step → Type 0
NeedsNoPage (Load id name) = ⊥
NeedsNoPage (Concat pattern) = ⊥
NeedsNoPage (Apply id context) = ⊥
NeedsNoPage (SelfApply context) = ⊥
NeedsNoPage _ = Unit {0}

-- these are all facts of a plan, with so many items, contexts and patterns, that its compilers rest on
pub record IsRunnable (plan : Lookups) (items contexts patterns : ℕ) : Type 0 where
  pub shape : IsShape plan.layout
  pub count : plan.layout.items ≡ items
  -- keys can be looked up in it: so what is found is an item, and a pattern matches items
  pub renders : IsRenderable plan items contexts patterns
  -- each once
  pub once : (n : ℕ) → IsDistinct nat_eq (plan.matches n)
  -- a pair of an item is one of the layout, and the item's own
  pub paired : (i : ℕ) (name : Bytes) (p : ℕ) → i < items → plan.pair i name ≡ Some p → (p < pairs plan.layout) × (item_of plan.layout p ≡ i)
  -- an item's chain saves all its pairs but the last, in order
  pub saved : (i : ℕ) → i < items → AreSnapshots plan.layout i (own_pairs plan i (plan.chain i))
  -- the numbers in each step are in range
  pub runs : (i : ℕ) → i < items → AllByRecursion (IsRunnableStep contexts patterns) (plan.chain i)

-- a plan whose chains are compilers
abbrev pub Runs : PlanView → Type 0
Runs plan = IsRunnable (lookups plan) (length plan.items) (length plan.contexts) (length plan.patterns)
