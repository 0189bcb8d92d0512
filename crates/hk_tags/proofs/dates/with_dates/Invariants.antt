use Rattle.std.proofs.Common.{◌≡◌, ◌<◌, length}
use Rattle.std.specs.List.{AllByRecursion}
use Rattle.std.specs.Vec.Iter.{into_iter_items}
use Rattle.hk_rules.specs.Plan.{lookups}
use Rattle.hk_tags.specs.Dates.{dated}
use Rattle.hk_tags.proofs.Datings.{after_dates}
use Rattle.hk_tags.proofs.dates.with_dates.Given as goal

abbrev pub invariant-loop-item : goal.invariant-loop-item
invariant-loop-item l = record {
  found : dated (lookups l.fn.plan) l.fn.items.items ≡ after_dates l.dated.items (dated (lookups l.fn.plan) (into_iter_items l.item-iterator));
  within : AllByRecursion (λ item. item < length l.fn.plan.items) (into_iter_items l.item-iterator);
}
