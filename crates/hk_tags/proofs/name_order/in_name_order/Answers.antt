use Rattle.std.proofs.Common.{ap, map, ◌∙◌}
use Rattle.hk_rules_file.specs.Linked.{context_names}
use Rattle.hk_tags.specs.NameOrder.{number_of, rule_by, context_by}
use Rattle.hk_tags.proofs.Renumbering.{ordered-parts}
use Rattle.hk_tags.proofs.name_order.in_name_order.Goals as goal

pub returns : goal.returns
returns c =
    let old = c.growing.inside in
    ordered-parts c.args.growing (record { rules = old.rules.items; contexts = old.contexts.items; patterns = old.pool })
    c.in_ok-names.names.items c.in_ok-contexts.contexts.items c.in_ok-contexts-2.contexts.items c.in_ok-numbers.numbers.items c.in_ok-rules.rules.items
    c.growing.view_is (c.in_ok-names.ensures ∙ ap context_names c.deref.ensures.value) c.in_ok-contexts.ensures.value
    (c.in_ok-numbers.ensures ∙ (λ i. map (number_of (c.deref-3.ensures.value i)) (c.deref-2.ensures.value i)))
    (c.in_ok-contexts-2.ensures ∙ ap (λ ns. map (context_by ns) c.in_ok-contexts.contexts.items) c.deref-4.ensures.value)
    (c.in_ok-rules.ensures ∙ ap (λ ns. map (rule_by ns) old.rules.items) c.deref-5.ensures.value)
