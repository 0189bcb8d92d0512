use Rattle.std.proofs.Common.{◌∙◌, ap}
use Rattle.std.specs.List.{flat_map}
use Rattle.hk_chain.specs.Context.{ContextView}
use Rattle.hk_rules.specs.Plan.{lookups}
use Rattle.hk_rules.specs.Recipe.{field_contexts, list_contexts}
use Rattle.hk_store.specs.Reached.{puts}
use Rattle.hk_store.proofs.Ascents.{listed-turn}
use Rattle.hk_store.proofs.reached.put_listed.Goals as goal

pub loop-number-preserved : goal.loop-number-preserved
loop-number-preserved c =
    listed-turn (lookups c.args.plan.now) c.args.named.now c.loop-number.number-index c.loop-number.numbers.items c.put_fields.new.numbers.items (puts c.args.numbers.now.items (flat_map (list_contexts (lookups c.args.plan.now)) c.args.named.now))
    c.loop-number-test.true
    (c.in_ok-put_fields.ensures ∙ ap (λ fs. puts c.loop-number.numbers.items (flat_map field_contexts fs)) (c.deref.ensures.value ∙ ap (λ (v : ContextView). v.fields) (c.behind-plan.view_is ∙ c.context.ensures)))
    c.loop-number.invariant
