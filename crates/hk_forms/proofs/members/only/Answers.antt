use Rattle.std.proofs.Common.{◌≡◌, length, arith, ap, ◌∙◌}
use Rattle.std.proofs.Common.{Some}
use Rattle.toml.specs.View.{view}
use Rattle.hk_forms.proofs.Tables.{only-other, only-one}
use Rattle.hk_forms.proofs.members.only.Goals as goal

pub returns-then-len-ne1 : goal.returns-then-len-ne1
returns-then-len-ne1 c = only-other c.args.table.now.entries (λ e. absurd (omega (arith, c.len.ensures.len)))

pub returns-in-Some : goal.returns-in-Some
returns-in-Some c =
    let one : length c.args.table.now.entries ≡ 1 = omega (arith, c.len.ensures.len) in
    let is = only-one c.args.table.now.entries c.in-Some.key.now c.in-Some.value.now one c.in-Some.ensures.first in
    ap (λ t. Some (t, view c.in-Some.value.now)) c.as_str.ensures.value ∙ is
