use Rattle.std.proofs.Common.{ap, ◌∙◌}
use Rattle.hk_rules.specs.Plan.{lookups}
use Rattle.hk_tags.specs.Growing.{page_context, ids_of}
use Rattle.hk_tags.specs.Made.{making_of}
use Rattle.hk_tags.proofs.Makings.{page-made}
use Rattle.hk_tags.proofs.growing.with_page.Goals as goal

pub returns : goal.returns
returns c =
    page-made (lookups c.args.base.now) c.args.growing (record { rules = c.growing.inside.rules.items; contexts = c.growing.inside.contexts.items; patterns = c.growing.inside.pool }) (making_of c.args.making.now) c.args.page c.args.id
    c.in_ok-ids.ids c.in_ok-pattern.pattern c.in_ok-pattern.pool c.in_ok-context.context c.in_ok-number.number c.in_ok-page_rule.field-0 _ _
    c.growing.view_is (c.in_ok-ids.ensures ∙ ap (ids_of (lookups c.args.base.now)) (c.as_slice.ensures ∙ ap (λ p. p.members) c.page.view_is)) c.in_ok-pattern.ensures
    (c.in_ok-context.ensures ∙ ap (λ cs. page_context cs (making_of c.args.making.now) c.args.page c.in_ok-pattern.pattern) c.deref.ensures.value) (c.in_ok-number.ensures ∙ (c.len.ensures ∙ c.growing.inside.contexts.ok.0)) c.in_ok-page_rule.ensures c.in_ok-push.ensures.items c.in_ok-push-2.ensures.items
