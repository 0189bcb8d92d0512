use Rattle.std.proofs.Common.{◌<◌, arith, sym, subst, length}
use Rattle.std.specs.List.{AllByRecursion}
use Rattle.hk_rules.specs.Plan.{lookups}
use Rattle.hk_tags.specs.Members.{is_member}
use Rattle.hk_tags.proofs.Filters.{filter-init, filter-step, filter-over, filter-all}
use Rattle.hk_tags.proofs.members.members.Goals as goal

pub loop-number-init : goal.loop-number-init
loop-number-init c = filter-init (is_member (lookups c.args.plan.now) c.args.of.now) (lookups c.args.plan.now).count _ c.new-members.ensures.items

pub loop-number-preserved : goal.loop-number-preserved
loop-number-preserved c =
    filter-step (is_member (lookups c.args.plan.now) c.args.of.now) (lookups c.args.plan.now).count c.loop-number.number _ _ _ (omega (arith, c.loop-number-test.true, c.count-number-end.ensures.value)) c.in_ok-add_member.ensures c.loop-number.invariant

pub returns-clause-members : goal.returns-clause-members
returns-clause-members c =
    filter-over (is_member (lookups c.args.plan.now) c.args.of.now) (lookups c.args.plan.now).count c.loop-number.number _ _ (omega (arith, c.loop-number-test.false, c.count-number-end.ensures.value)) c.loop-number.invariant

pub returns-clause-within : goal.returns-clause-within
returns-clause-within c =
    subst (λ items. AllByRecursion (λ item. item < length c.args.plan.now.items) items) (sym (returns-clause-members c))
    (filter-all (is_member (lookups c.args.plan.now) c.args.of.now) (λ item. item < length c.args.plan.now.items) (lookups c.args.plan.now).count (λ q lt. omega (arith, lt, c.count-number-end.ensures.value, c.count-number-end.ensures.items)))
