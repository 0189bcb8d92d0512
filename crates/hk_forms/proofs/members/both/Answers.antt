use Rattle.std.proofs.Common.{◌≡◌, length, arith, ◌∙◌}
use Rattle.hk_forms.specs.Members.{pair_of}
use Rattle.hk_forms.proofs.Tables.{both-other, both-two}
use Rattle.hk_forms.proofs.members.both.Goals as goal

pub returns-then-len-ne2 : goal.returns-then-len-ne2
returns-then-len-ne2 c = both-other c.args.table.now.entries c.args.first.now c.args.second.now (λ e. absurd (omega (arith, c.len.ensures.len)))

pub returns : goal.returns
returns c =
    let is_two : length c.args.table.now.entries ≡ 2 = omega (arith, c.len.ensures.len) in
    c.pair_of.ensures ∙ (λ i. pair_of (c.value_at.ensures i) (c.value_at-2.ensures i)) ∙ both-two c.args.table.now.entries c.args.first.now c.args.second.now is_two
