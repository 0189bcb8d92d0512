use Rattle.std.proofs.Common.{◌≡◌, sym, ◌∙◌, subst, ◌<◌, length, Some}
use Rattle.std.specs.List.{AllByRecursion}
use Rattle.std.specs.Vec.Iter.{into_iter_items}
use Rattle.hk_rules.specs.Plan.{Lookups, lookups}
use Rattle.hk_tags.specs.Members.{date_at}
use Rattle.hk_tags.proofs.Datings.{dates-step}
use Rattle.hk_tags.proofs.dates.with_dates.Goals as goal

pub loop-item-preserved : goal.loop-item-preserved
loop-item-preserved c =
    let plan : Lookups = lookups c.args.plan.now in
    let at : date_at plan c.in-Some.item ≡ Some c.in-Some-date_at.date = sym c.date_at.ensures ∙ c.in-Some-date_at.is in
    record {
      found = dates-step plan c.args.items.items c.loop-item.dated.items c.push.new.self.items (into_iter_items c.loop-item.item-iterator) (into_iter_items c.next.new.self) c.in-Some.item c.in-Some-date_at.date c.loop-item.invariant.found c.in-Some.ensures.steps.0 at c.in_ok-push-in-Some-date_at.ensures.items;
      within = (subst (AllByRecursion (λ item. item < length c.args.plan.now.items)) c.in-Some.ensures.steps.0 c.loop-item.invariant.within).1;
    }
