-- That a plan can be run holds in one way at most.
use Rattle.std.specs.Prelude.{ℕ, List, [], ◌∷◌}
use Rattle.std.specs.List.{AllByRecursion-prop}
use Rattle.std.proofs.Props.{props}
use Rattle.std.proofs.lemmas.Map.Keys.{IsDistinct-prop}
use Rattle.hk_chain.specs.Layout.{Shape, IsShape}
use Rattle.hk_chain.specs.declared.chain.Step.{Step}
use Rattle.hk_chain.specs.declared.chain.Step.TheVariants.{Body, Str, Copy, TemplateBody, Make, Load, Concat, Apply, SelfApply, Save, Relativize}
use Rattle.hk_chain.specs.Snapshots.{Ascending, AreSnapshots}
use Rattle.hk_chain.specs.declared.context.Field.{Field}
use Rattle.hk_chain.specs.declared.context.Field.TheVariants as fields
use Rattle.hk_rules.specs.Plan.{Lookups}
use Rattle.hk_eval.specs.Renderable.{IsRenderableField, IsRenderable}
use Rattle.hk_machine.specs.Runnable.{IsRunnableStep, IsRunnable}

step-prop : (contexts patterns : ℕ) (step : Step) → IsProp (IsRunnableStep contexts patterns step)
step-prop contexts patterns Body = hlevel props
step-prop contexts patterns Str = hlevel props
step-prop contexts patterns Copy = hlevel props
step-prop contexts patterns TemplateBody = hlevel props
step-prop contexts patterns (Make text) = hlevel props
step-prop contexts patterns (Load id name) = hlevel props
step-prop contexts patterns (Concat pattern) = hlevel props
step-prop contexts patterns (Apply id context) = hlevel props
step-prop contexts patterns (SelfApply context) = hlevel props
step-prop contexts patterns (Save name) = hlevel props
step-prop contexts patterns Relativize = hlevel props

ascending-prop : (ps : List ℕ) → IsProp (Ascending ps)
ascending-prop [] = hlevel props
ascending-prop (p ∷ ps) = hlevel (props, AllByRecursion-prop, ascending-prop ps)

shape-prop : (lay : Shape) → IsProp (IsShape lay)
shape-prop lay = hlevel props

snapshots-prop : (lay : Shape) (i : ℕ) (ps : List ℕ) → IsProp (AreSnapshots lay i ps)
snapshots-prop lay i ps = hlevel (props, AllByRecursion-prop, ascending-prop)

field-prop : (contexts patterns : ℕ) (field : Field) → IsProp (IsRenderableField contexts patterns field)
field-prop contexts patterns fields.Body = hlevel props
field-prop contexts patterns fields.Metadata = hlevel props
field-prop contexts patterns fields.Url = hlevel props
field-prop contexts patterns fields.Path = hlevel props
field-prop contexts patterns fields.Title = hlevel props
field-prop contexts patterns (fields.Const key text) = hlevel props
field-prop contexts patterns (fields.Date key pattern) = hlevel props
field-prop contexts patterns (fields.Bool key set) = hlevel props
field-prop contexts patterns (fields.Teaser key name) = hlevel props
field-prop contexts patterns (fields.List key pattern snapshot order limit context) = hlevel props

renderable-prop : (plan : Lookups) (items contexts patterns : ℕ) → IsProp (IsRenderable plan items contexts patterns)
renderable-prop plan items contexts patterns = hlevel (props, AllByRecursion-prop, field-prop)

pub runnable-prop : (plan : Lookups) (items contexts patterns : ℕ) → IsProp (IsRunnable plan items contexts patterns)
runnable-prop plan items contexts patterns = hlevel (props, AllByRecursion-prop, IsDistinct-prop, shape-prop, renderable-prop, snapshots-prop, step-prop)
