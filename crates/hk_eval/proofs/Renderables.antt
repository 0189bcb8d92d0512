-- Why keys can be looked up in linked plans.
use Rattle.std.proofs.Common.{◌≡◌, refl, ap, ◌∙◌, arith, ℕ, zero, suc, ◌<◌, List, [], ◌∷◌, length, Some, zero-add}
use Rattle.std.specs.List.{AllByRecursion, slice_index_or}
use Rattle.std.specs.Ordering.{ordering_reverse}
use Rattle.std.specs.declared.cmp.Ordering.{Ordering}
use Rattle.std.specs.declared.cmp.Ordering.TheVariants.{Less, Equal, Greater}
use Rattle.hk_base.specs.Identifier.{Ident, ident_cmp}
use Rattle.hk_base.specs.IdentTies.{ident_cmp_total}
use Rattle.hk_chain.specs.Context.{ContextView}
use Rattle.hk_chain.specs.declared.context.Field.{Field}
use Rattle.hk_chain.specs.declared.context.Field.TheVariants as fields
use Rattle.hk_rules.specs.Linked.{IsLinkedField}
use Rattle.hk_rules.specs.LinkedPlan.{IsLinkedPlan}
use Rattle.hk_rules.specs.Plan.{no_item, no_context, id_at, find_in, lookups, pattern_at}
use Rattle.hk_rules.specs.PlanView.{PlanView, IsPlan}
use Rattle.hk_rules.proofs.ItemNumbers.{find_in-item, matches_in-below}
use Rattle.hk_rules.proofs.Searching.{hit}
use Rattle.hk_eval.specs.Renderable.{IsRenderableField, IsRenderable}

same-ident : (id : Ident) → ident_cmp id id ≡ Equal
same-ident id = at (ident_cmp id id) (ident_cmp_total.antisymm id id)
  where
    at : (o : Ordering) → o ≡ ordering_reverse o → o ≡ Equal
    at Less e = cc
    at Equal e = refl
    at Greater e = cc

-- each item is found by its identifier
pub find_in-own : (plan : PlanView) → IsPlan plan → (i : ℕ) → i < length plan.items → find_in plan.items (id_at plan i) ≡ Some i
find_in-own plan is i lt = hit (id_at plan i) 0 plan.items i no_item is.sorted lt (same-ident (id_at plan i)) ∙ ap Some (zero-add i)

field-renderable : (contexts patterns : ℕ) (field : Field) → IsLinkedField contexts patterns field → IsRenderableField contexts patterns field
field-renderable contexts patterns fields.Body h = tt
field-renderable contexts patterns fields.Metadata h = tt
field-renderable contexts patterns fields.Url h = tt
field-renderable contexts patterns fields.Path h = tt
field-renderable contexts patterns fields.Title h = tt
field-renderable contexts patterns (fields.Const key text) h = tt
field-renderable contexts patterns (fields.Date key pattern) h = h
field-renderable contexts patterns (fields.Bool key set) h = tt
field-renderable contexts patterns (fields.Teaser key name) h = tt
field-renderable contexts patterns (fields.List key pattern snapshot order limit context) h = (h.0, h.1)

fields-renderable : (contexts patterns : ℕ) (fs : List Field) → AllByRecursion (IsLinkedField contexts patterns) fs → AllByRecursion (IsRenderableField contexts patterns) fs
fields-renderable contexts patterns [] h = tt
fields-renderable contexts patterns (f ∷ fs) h = (field-renderable contexts patterns f h.0, fields-renderable contexts patterns fs h.1)

context-renderable : (contexts patterns : ℕ) (cs : List ContextView) (c : ℕ) → c < length cs → AllByRecursion (λ context. AllByRecursion (IsLinkedField contexts patterns) context.fields) cs → AllByRecursion (IsRenderableField contexts patterns) (slice_index_or cs c no_context).fields
context-renderable contexts patterns [] c lt h = absurd (omega arith)
context-renderable contexts patterns (x ∷ cs) zero lt h = fields-renderable contexts patterns x.fields h.0
context-renderable contexts patterns (x ∷ cs) (suc c) lt h = context-renderable contexts patterns cs c (omega arith) h.1

pub linked-renderable : (plan : PlanView) → IsPlan plan → IsLinkedPlan plan → IsRenderable (lookups plan) (length plan.items) (length plan.contexts) (length plan.patterns)
unfolding lookups
linked-renderable plan is linked =
    record {
      found = λ id i e. (find_in-item plan.items id i e).0;
      own = find_in-own plan is;
      matched = λ n. matches_in-below plan.items (pattern_at plan n);
      fields = λ c lt. context-renderable (length plan.contexts) (length plan.patterns) plan.contexts c lt linked.named.within;
    }
