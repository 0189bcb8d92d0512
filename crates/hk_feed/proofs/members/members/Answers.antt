use Rattle.std.proofs.Common.{◌≡◌, ◌<◌, ◌≤◌, arith, sym, ◌∙◌, subst, length, All}
use Rattle.std.proofs.lemmas.List.Elements.{All-same}
use Rattle.hk_rules.specs.Plan.{Lookups, lookups}
use Rattle.hk_feed.specs.Members.{is_member, members}
use Rattle.hk_feed.proofs.Lists.{filter-init, filter-step, filter-over}
use Rattle.hk_feed.proofs.Within.{members-within}
use Rattle.hk_feed.proofs.members.members.Goals as goal

pub loop-number-init : goal.loop-number-init
loop-number-init c = filter-init (is_member (lookups c.args.plan.now) c.args.feed.now) (lookups c.args.plan.now).count _ c.new-members.ensures.items

pub loop-number-preserved : goal.loop-number-preserved
loop-number-preserved c =
    filter-step (is_member (lookups c.args.plan.now) c.args.feed.now) (lookups c.args.plan.now).count c.loop-number.number _ _ _ (omega (arith, c.loop-number-test.true, c.count-number-end.ensures.value)) c.in_ok-add_member.ensures c.loop-number.invariant

pub returns-clause-members : goal.returns-clause-members
returns-clause-members c =
    filter-over (is_member (lookups c.args.plan.now) c.args.feed.now) (lookups c.args.plan.now).count c.loop-number.number _ _ (omega (arith, c.loop-number-test.false, c.count-number-end.ensures.value)) c.loop-number.invariant

pub returns-clause-within : goal.returns-clause-within
returns-clause-within c =
    All-same (λ item. item < length c.args.plan.now.items) c.loop-number.members.items (members (lookups c.args.plan.now) c.args.feed.now) (returns-clause-members c)
    (subst (λ n. All (λ item. item < n) (members (lookups c.args.plan.now) c.args.feed.now)) (sym c.count-number-end.ensures.value ∙ c.count-number-end.ensures.items) (members-within (lookups c.args.plan.now) c.args.feed.now))
