use Rattle.std.proofs.Common.{arith}
use Rattle.hk_forms.proofs.Tables.{two-other, two-both}
use Rattle.hk_forms.proofs.members.two.Goals as goal

pub returns-then-items-ne2 : goal.returns-then-items-ne2
returns-then-items-ne2 c = two-other c.args.items.now (λ e. absurd (omega arith))

pub returns : goal.returns
returns c = two-both c.args.items.now _ _ (omega arith) c.index-items-0.is c.index-items-1.is
