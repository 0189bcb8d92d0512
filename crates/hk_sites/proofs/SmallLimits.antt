-- The limits of a linked plan's lists are below 2^64.
use Rattle.std.proofs.Common.{ℕ, List, [], ◌∷◌, length, Option, Some, None, IfSome, arith}
use Rattle.std.specs.List.{AllByRecursion}
use Rattle.hk_chain.specs.Context.{ContextView}
use Rattle.hk_chain.specs.declared.context.Field.{Field}
use Rattle.hk_chain.specs.declared.context.Field.TheVariants as fields
use Rattle.hk_rules.specs.LinkedPlan.{IsLinkedPlan}
use Rattle.hk_rules.specs.PlanView.{PlanView}
use Rattle.hk_rules_file.specs.Linked.{IsCount, IsLinkedField}
use Rattle.hk_sites.specs.Sizes.{IsSmallField, HasLimits}
use Rattle.hk_store.specs.Told.{Small}

small-limit : (limit : Option ℕ) → IfSome limit IsCount → IfSome limit Small
small-limit None h = tt
small-limit (Some most) h = let low = h.1 in omega (arith, low)

small-field : (contexts patterns : ℕ) (field : Field) → IsLinkedField contexts patterns field → IsSmallField field
small-field contexts patterns fields.Body h = tt
small-field contexts patterns fields.Metadata h = tt
small-field contexts patterns fields.Url h = tt
small-field contexts patterns fields.Path h = tt
small-field contexts patterns fields.Title h = tt
small-field contexts patterns (fields.Const key text) h = tt
small-field contexts patterns (fields.Date key pattern) h = tt
small-field contexts patterns (fields.Bool key set) h = tt
small-field contexts patterns (fields.Teaser key name) h = tt
small-field contexts patterns (fields.List key pattern snapshot order limit context) h = small-limit limit h.2

small-fields : (contexts patterns : ℕ) (more : List Field) → AllByRecursion (IsLinkedField contexts patterns) more → AllByRecursion IsSmallField more
small-fields contexts patterns [] h = tt
small-fields contexts patterns (field ∷ more) h = (small-field contexts patterns field h.0, small-fields contexts patterns more h.1)

small-contexts : (contexts patterns : ℕ) (more : List ContextView) → AllByRecursion (λ context. AllByRecursion (IsLinkedField contexts patterns) context.fields) more → AllByRecursion (λ context. AllByRecursion IsSmallField context.fields) more
small-contexts contexts patterns [] h = tt
small-contexts contexts patterns (context ∷ more) h = (small-fields contexts patterns context.fields h.0, small-contexts contexts patterns more h.1)

pub plans-limited : (plan : PlanView) → IsLinkedPlan plan → HasLimits plan
plans-limited plan linked = small-contexts (length plan.contexts) (length plan.patterns) plan.contexts linked.named.within
