use Rattle.std.proofs.Common.{sym, ap, ◌∙◌}
use Rattle.hk_rules.specs.SiteMap.{site_in}
use Rattle.hk_rules.specs.Clashes.{lesser, lesser_above}
use Rattle.hk_rules.proofs.Clashing.{range-turn}
use Rattle.hk_rules.proofs.clashes.nested_in.Goals as goal

pub loop-place-preserved : goal.loop-place-preserved
loop-place-preserved c =
    let f = lesser_above (site_in c.args.sites.now.entries) c.args.inner.now in
    c.lesser-best.ensures
    ∙ ap (lesser c.loop-place.best) c.in_ok-clash.ensures
    ∙ ap (λ b. f b c.loop-place.place) c.loop-place.invariant
    ∙ sym (range-turn f c.args.best c.loop-place.place)
