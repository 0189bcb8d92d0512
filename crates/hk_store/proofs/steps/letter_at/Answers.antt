use Rattle.std.proofs.Common.{sym}
use Rattle.hk_store.proofs.Letters.{last-group, letter-fits}
use Rattle.hk_store.proofs.steps.letter_at.Goals as goal

pub returns-then-may_stand : goal.returns-then-may_stand
returns-then-may_stand c = letter-fits c.args.last c.in-Some.group c.args.bytes.now c.in-Some.rest.now c.in-Some.ensures.1 (sym c.if-may_stand.ensures)

pub returns-else-may_stand : goal.returns-else-may_stand
returns-else-may_stand c = last-group c.args.last c.in-Some.group c.args.bytes.now c.in-Some.rest.now c.in-Some.ensures.1 (sym c.if-may_stand.ensures)
