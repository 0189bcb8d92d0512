use Rattle.std.proofs.Common.{◌≡◌, ◌+◌, ◌-◌, length, ap, sym, ◌∙◌, Some, option_map, take, drop}
use Rattle.hk_meta.specs.Scalar.{read_member, members_from, skip_blanks}
use Rattle.hk_meta.proofs.Members.{members_read, after_empty, after_close, after_comma}
use Rattle.hk_meta.proofs.scalar.read_bracketed.Goals as goal

pub returns-then-is_empty : goal.returns-then-is_empty
returns-then-is_empty c =
    let read : Some (c.read_member.new.joined, c.in-Some.after.now) ≡ read_member c.loop-member.joined (skip_blanks c.loop-member.rest.now) =
    ap (option_map (λ rest. (c.read_member.new.joined, rest.now))) (sym c.in-Some.is) ∙ c.in_ok-after.ensures ∙ ap (read_member c.loop-member.joined) c.skip_blanks.ensures in
    sym (c.loop-member.invariant
    ∙ members_read (length c.args.text.now) c.loop-member._member c.loop-member.joined c.read_member.new.joined c.loop-member.rest.now c.in-Some.after.now c.loop-member-test.true read
    ∙ after_empty c.read_member.new.joined c.in-Some.after.now (members_from (length c.args.text.now - (c.loop-member._member + 1))) c.if-is_empty.ensures)

pub returns-in-93 : goal.returns-in-93
returns-in-93 c =
    let read : Some (c.read_member.new.joined, c.in-Some.after.now) ≡ read_member c.loop-member.joined (skip_blanks c.loop-member.rest.now) =
    ap (option_map (λ rest. (c.read_member.new.joined, rest.now))) (sym c.in-Some.is) ∙ c.in_ok-after.ensures ∙ ap (read_member c.loop-member.joined) c.skip_blanks.ensures in
    sym (c.loop-member.invariant
    ∙ members_read (length c.args.text.now) c.loop-member._member c.loop-member.joined c.read_member.new.joined c.loop-member.rest.now c.in-Some.after.now c.loop-member-test.true read
    ∙ after_close c.read_member.new.joined c.in-Some.after.now (members_from (length c.args.text.now - (c.loop-member._member + 1))) c.if-is_empty.ensures c.in-93.is
    ∙ ap (λ value. Some (value, take (length c.in-Some.after.now - 1) (drop 1 c.in-Some.after.now))) (sym c.into_value-value.ensures))

pub loop-member-preserved : goal.loop-member-preserved
loop-member-preserved c =
    let read : Some (c.read_member.new.joined, c.in-Some.after.now) ≡ read_member c.loop-member.joined (skip_blanks c.loop-member.rest.now) =
    ap (option_map (λ rest. (c.read_member.new.joined, rest.now))) (sym c.in-Some.is) ∙ c.in_ok-after.ensures ∙ ap (read_member c.loop-member.joined) c.skip_blanks.ensures in
    c.loop-member.invariant
    ∙ members_read (length c.args.text.now) c.loop-member._member c.loop-member.joined c.read_member.new.joined c.loop-member.rest.now c.in-Some.after.now c.loop-member-test.true read
    ∙ after_comma c.read_member.new.joined c.in-Some.after.now (members_from (length c.args.text.now - (c.loop-member._member + 1))) c.if-is_empty.ensures c.in-44.is
