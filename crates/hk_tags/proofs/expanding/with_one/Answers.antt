use Rattle.std.proofs.Common.{ap, ◌∙◌}
use Rattle.hk_rules.specs.Plan.{lookups}
use Rattle.hk_tags.specs.Made.{making_of}
use Rattle.hk_tags.proofs.Makings.{one-made}
use Rattle.hk_tags.proofs.expanding.with_one.Goals as goal

pub returns-clause-value : goal.returns-clause-value
returns-clause-value c =
    one-made (lookups c.args.base.now) c.args.grown (record { growing = c.grown.inside.growing; made = c.grown.inside.made.keys }) (making_of c.args.making.now) c.args.page c.as_slice.result.now
    c.in_ok-id.id c.in_ok-made.made.keys c.in_ok-growing.growing c.grown.view_is (c.as_slice.ensures ∙ ap (λ p. p.path) c.page.view_is) c.in_ok-id.ensures c.in_ok-made.ensures c.in_ok-growing.ensures
