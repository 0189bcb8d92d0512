use Rattle.std.proofs.Common.{◌≡◌, ◌<◌, length}
use Rattle.std.specs.List.{AllByRecursion}
use Rattle.std.specs.Vec.Iter.{into_iter_items}
use Rattle.hk_rules.specs.Plan.{lookups}
use Rattle.hk_eval.specs.Lists.{dated}
use Rattle.hk_eval.proofs.Placings.{after_dates}
use Rattle.hk_eval.proofs.placing.with_dates.Given as goal

abbrev pub invariant-loop-place : goal.invariant-loop-place
invariant-loop-place l = record {
  found : dated (lookups l.fn.plan) l.fn.places.items ≡ after_dates l.dated.items (dated (lookups l.fn.plan) (into_iter_items l.place-iterator));
  within : AllByRecursion (λ p. p.item < length l.fn.plan.items) (into_iter_items l.place-iterator);
}
