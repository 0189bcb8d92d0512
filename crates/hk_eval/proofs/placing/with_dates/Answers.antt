use Rattle.std.proofs.Common.{◌≡◌, sym, ap, ◌∙◌, subst, ◌<◌, length, Some}
use Rattle.std.specs.List.{AllByRecursion}
use Rattle.std.specs.Vec.Iter.{into_iter_items}
use Rattle.hk_base.specs.Identifier.{Ident}
use Rattle.hk_meta.specs.Date.{date_of}
use Rattle.hk_rules.specs.Plan.{Lookups, lookups}
use Rattle.hk_eval.specs.Fields.{date_at}
use Rattle.hk_eval.proofs.Placings.{dates-step}
use Rattle.hk_eval.proofs.placing.with_dates.Goals as goal

pub loop-place-preserved : goal.loop-place-preserved
loop-place-preserved c =
    let plan : Lookups = lookups c.args.plan.now in
    let path = c.path.ensures.value ∙ ap (λ (i : Ident). i.path) c.id.ensures in
    let at : date_at plan c.in-Some.place.item ≡ Some c.in-Some-date_of.date =
    ap (λ m. date_of m (plan.id c.in-Some.place.item).path) (sym c.meta.ensures) ∙ (ap (λ p. date_of c.meta.result.now p) (sym path) ∙ (sym c.date_of.ensures.value ∙ c.in-Some-date_of.is)) in
    record {
      found = dates-step plan c.args.places.items c.loop-place.dated.items c.push.new.self.items (into_iter_items c.loop-place.place-iterator) (into_iter_items c.next.new.self) c.in-Some.place c.in-Some-date_of.date c.loop-place.invariant.found c.in-Some.ensures.steps.0 at c.in_ok-push-in-Some-date_of.ensures.items;
      within = (subst (AllByRecursion (λ p. p.item < length c.args.plan.now.items)) c.in-Some.ensures.steps.0 c.loop-place.invariant.within).1;
    }
