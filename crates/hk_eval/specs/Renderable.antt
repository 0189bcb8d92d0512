-- What a plan has to be for keys to be looked up in it, lists to be made and templates to be found.
use Rattle.std.specs.Prelude.{◌≡◌, ℕ, ◌<◌, true, Some}
use Rattle.std.specs.List.{AllByRecursion}
use Rattle.hk_base.specs.Identifier.{Ident}
use Rattle.hk_chain.specs.declared.context.Field.{Field}
use Rattle.hk_chain.specs.declared.context.Field.TheVariants as fields
use Rattle.hk_meta.specs.DatePattern.{pattern_ok}
use Rattle.hk_rules.specs.Plan.{Lookups}

-- a field of a plan of so many contexts and patterns: a list's numbers are in range, and a date's pattern is one to print by
abbrev pub IsRenderableField : ℕ → ℕ → Field → Type 0
IsRenderableField contexts patterns (fields.Date key pattern) = pattern_ok pattern ≡ true
IsRenderableField contexts patterns (fields.List key pattern snapshot order limit context) = (pattern < patterns) × (context < contexts)
IsRenderableField contexts patterns _ = Unit {0}

-- these are all facts of a plan, with so many items, contexts and patterns, that lookups rest on
pub record IsRenderable (plan : Lookups) (items contexts patterns : ℕ) : Type 0 where
  -- what is found is an item, and each item is found
  pub found : (id : Ident) (i : ℕ) → plan.find id ≡ Some i → i < items
  pub own : (i : ℕ) → i < items → plan.find (plan.id i) ≡ Some i
  -- a pattern matches items
  pub matched : (n : ℕ) → AllByRecursion (λ i. i < items) (plan.matches n)
  -- each field of a context can be looked up
  pub fields : (c : ℕ) → c < contexts → AllByRecursion (IsRenderableField contexts patterns) (plan.context c).fields
