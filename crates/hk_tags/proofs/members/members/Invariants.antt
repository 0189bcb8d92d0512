use Rattle.std.proofs.Common.{◌≡◌, ◌++◌, ◌-◌, filter}
use Rattle.std.specs.List.{range_with_len}
use Rattle.hk_rules.specs.Plan.{lookups}
use Rattle.hk_tags.specs.Members.{is_member, members}
use Rattle.hk_tags.proofs.members.members.Given as goal

-- the members so far and those of the rest are all
abbrev pub invariant-loop-number : goal.invariant-loop-number
invariant-loop-number l = l.members.items ++ filter (is_member (lookups l.plan) l.of) (range_with_len l.number ((lookups l.plan).count - l.number)) ≡ members (lookups l.plan) l.of
