use Rattle.std.proofs.Common.{◌≡◌, ap, ◌∙◌, take, cond}
use Rattle.std.proofs.lemmas.List.{take_all}
use Rattle.hk_fix.specs.declared.cycles.Place.TheVariants.{Member}
use Rattle.hk_fix.specs.Facts.{is_in}
use Rattle.hk_fix.specs.Walks.{place_at}
use Rattle.hk_fix.proofs.Steps.{marks}
use Rattle.hk_fix.proofs.cycles.mark.Goals as goal

pub returns : goal.returns
returns c =
    let whole : take c.loop-item.item-index c.args.around.now ≡ c.args.around.now = take_all c.loop-item.item-index c.args.around.now c.loop-item-test.false in
    marks c.args.around.now c.args.places.now c.loop-item.places c.least-first.result c.least-first.ensures.member c.least-first.ensures.below c.requires.range c.loop-item.auto.places
    (λ q lt. c.loop-item.invariant q lt ∙ ap (λ l. cond (is_in l q) Member (place_at c.args.places.now q)) whole)
