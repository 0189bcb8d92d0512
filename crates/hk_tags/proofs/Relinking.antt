-- Rules that are linked are so with their contexts in the order of their names.
use Rattle.std.proofs.Common.{◌≡◌, ◌∙◌, ℕ, suc, ◌≤◌, true, false, cond, List, [], ◌∷◌, ◌++◌, length, map, refl, sym, ap, subst}
use Rattle.std.specs.Prelude.{bytes_eq}
use Rattle.std.specs.List.{AllByRecursion, IsDistinct, cons_option}
use Rattle.std.proofs.lemmas.List.{length-map}
use Rattle.hk_chain.specs.Context.{ContextView}
use Rattle.hk_chain.specs.declared.chain.Step.{Step}
use Rattle.hk_chain.specs.declared.chain.Step.TheVariants.{Body, Str, Copy, TemplateBody, Make, Load, Concat, Apply, SelfApply, Save, Relativize}
use Rattle.hk_chain.specs.declared.context.Field.{Field}
use Rattle.hk_chain.specs.declared.context.Field.TheVariants as fields
use Rattle.hk_forms.specs.Names.{is_snapshot_name}
use Rattle.hk_rules_file.specs.Linked.{IsStepWithin, IsLinkedField, IsLinkedChain, AreLinked, IsLinked, IsRouted, context_names}
use Rattle.hk_rules_file.specs.Saves.{saved, saves}
use Rattle.hk_rules_file.specs.declared.rules.Rule.{Rule}
use Rattle.hk_rules_file.specs.declared.tables.FeedRule.{FeedRule}
use Rattle.hk_chain.specs.Names.{final_name}
use Rattle.hk_tags.specs.Expanding.{whole}
use Rattle.hk_tags.specs.Growing.{GrowingView}
use Rattle.hk_tags.specs.NameOrder.{is_named_before, by_name, numbers_of, step_by, field_by, rule_by, context_by, in_name_order}
use Rattle.hk_chain.specs.Sorting.{put_by}
use Rattle.hk_tags.proofs.Renumbering.{KeepsBelow, new-below, all-by_name, order-ascends, ascending-differ}

module _ (numbers : List ℕ) (c p : ℕ) (keeps : KeepsBelow c numbers) where
  step-kept : (s : Step) → IsStepWithin c p s → IsStepWithin c p (step_by numbers s)
  step-kept Body h = tt
  step-kept Str h = tt
  step-kept Copy h = tt
  step-kept TemplateBody h = tt
  step-kept (Make text) h = tt
  step-kept (Load id snapshot) h = tt
  step-kept (Concat n) h = h
  step-kept (Apply id n) h = keeps n h
  step-kept (SelfApply n) h = keeps n h
  step-kept (Save name) h = tt
  step-kept Relativize h = tt

  steps-kept : (steps : List Step) → AllByRecursion (IsStepWithin c p) steps → AllByRecursion (IsStepWithin c p) (map (step_by numbers) steps)
  steps-kept [] h = tt
  steps-kept (s ∷ steps) h = (step-kept s h.0, steps-kept steps h.1)

  saved-kept : (s : Step) → saved (step_by numbers s) ≡ saved s
  saved-kept Body = refl
  saved-kept Str = refl
  saved-kept Copy = refl
  saved-kept TemplateBody = refl
  saved-kept (Make text) = refl
  saved-kept (Load id snapshot) = refl
  saved-kept (Concat n) = refl
  saved-kept (Apply id n) = refl
  saved-kept (SelfApply n) = refl
  saved-kept (Save name) = refl
  saved-kept Relativize = refl

  saves-kept : (steps : List Step) → saves (map (step_by numbers) steps) ≡ saves steps
  saves-kept [] = refl
  saves-kept (s ∷ steps) = ap (λ o. cons_option o (saves (map (step_by numbers) steps))) (saved-kept s) ∙ ap (cons_option (saved s)) (saves-kept steps)

  chain-kept : (steps : List Step) → IsLinkedChain c p steps → IsLinkedChain c p (map (step_by numbers) steps)
  chain-kept steps h = record {
    short = subst (λ k. k ≤ 64) (sym (length-map steps (step_by numbers))) h.short;
    within = steps-kept steps h.within;
    names = subst (λ l. IsDistinct bytes_eq (l ++ final_name ∷ [])) (sym (saves-kept steps)) h.names;
    saved = subst (AllByRecursion (λ name. is_snapshot_name name ≡ true)) (sym (saves-kept steps)) h.saved;
  }

  chains-kept : (rules : List Rule) → AllByRecursion (λ (rule : Rule). IsLinkedChain c p rule.chain) rules → AllByRecursion (λ (rule : Rule). IsLinkedChain c p rule.chain) (map (rule_by numbers) rules)
  chains-kept [] h = tt
  chains-kept (r ∷ rules) h = (chain-kept r.chain h.0, chains-kept rules h.1)

  routes-kept : (rules : List Rule) → AllByRecursion (λ (rule : Rule). IsRouted rule.route) rules → AllByRecursion (λ (rule : Rule). IsRouted rule.route) (map (rule_by numbers) rules)
  routes-kept [] h = tt
  routes-kept (r ∷ rules) h = (h.0, routes-kept rules h.1)

  field-kept : (f : Field) → IsLinkedField c p f → IsLinkedField c p (field_by numbers f)
  field-kept fields.Body h = tt
  field-kept fields.Metadata h = tt
  field-kept fields.Url h = tt
  field-kept fields.Path h = tt
  field-kept fields.Title h = tt
  field-kept (fields.Const key text) h = tt
  field-kept (fields.Date key pattern) h = h
  field-kept (fields.Bool key flag) h = tt
  field-kept (fields.Teaser key snapshot) h = tt
  field-kept (fields.List key of snapshot order limit n) h = (h.0, keeps n h.1, h.2)

  fields-kept : (fs : List Field) → AllByRecursion (IsLinkedField c p) fs → AllByRecursion (IsLinkedField c p) (map (field_by numbers) fs)
  fields-kept [] h = tt
  fields-kept (f ∷ fs) h = (field-kept f h.0, fields-kept fs h.1)

  abbrev HasLinkedFields : ContextView → Type 0
  HasLinkedFields context = AllByRecursion (IsLinkedField c p) context.fields

  contexts-kept : (cs : List ContextView) → AllByRecursion HasLinkedFields cs → AllByRecursion HasLinkedFields (map (context_by numbers) cs)
  contexts-kept [] h = tt
  contexts-kept (x ∷ cs) h = (fields-kept x.fields h.0, contexts-kept cs h.1)

length-put : (x : ContextView) (cs : List ContextView) → length (put_by is_named_before x cs) ≡ suc (length cs)
length-put x [] = refl
length-put x (y ∷ ys) = elim (is_named_before y x) as (λ b. length (cond b (y ∷ put_by is_named_before x ys) (x ∷ y ∷ ys)) ≡ suc (suc (length ys))) [
  | true ↦ ap suc (length-put x ys)
  | false ↦ refl
]

length-by_name : (cs : List ContextView) → length (by_name cs) ≡ length cs
length-by_name [] = refl
length-by_name (c ∷ cs) = length-put c (by_name cs) ∙ ap suc (length-by_name cs)

pub relinked : (feeds : List FeedRule) (g : GrowingView) → AllByRecursion (λ (rule : Rule). IsLinkedChain (length g.contexts) (length g.patterns) rule.chain) g.rules → AreLinked g.contexts g.patterns
    → AllByRecursion (λ (rule : Rule). IsRouted rule.route) g.rules → IsLinked (whole feeds (in_name_order g))
unfolding in_name_order
relinked feeds g chains named routes =
    let cs = g.contexts in
    let c = length cs in
    let p = length g.patterns in
    let ns = numbers_of cs in
    let keeps = new-below cs in
    let moved = map (context_by ns) (by_name cs) in
    let rules = map (rule_by ns) g.rules in
    let count : c ≡ length moved = sym (length-map (by_name cs) (context_by ns) ∙ length-by_name cs) in
    record {
      chains = subst (λ n. AllByRecursion (λ (rule : Rule). IsLinkedChain n p rule.chain) rules) count (chains-kept ns c p keeps g.rules chains);
      named = record {
        within = subst (λ n. AllByRecursion (λ (context : ContextView). AllByRecursion (IsLinkedField n p) context.fields) moved) count
            (contexts-kept ns c p keeps (by_name cs) (all-by_name (λ (context : ContextView). AllByRecursion (IsLinkedField c p) context.fields) cs named.within));
        names = ascending-differ (context_names moved) (order-ascends ns cs named.names);
        texts = named.texts;
      };
      routes = routes-kept ns c p keeps g.rules routes;
    }
