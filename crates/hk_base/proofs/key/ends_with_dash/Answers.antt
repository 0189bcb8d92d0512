-- The last byte tells whether a key ends in a dash.
use Rattle.std.proofs.Common.{sym}
use Rattle.hk_base.proofs.Keys.{ends_by}
use Rattle.hk_base.proofs.key.ends_with_dash.Goals as goal

pub returns-in-Some : goal.returns-in-Some
returns-in-Some c = rw c.in-Some.ensures.cases.0 (sym (ends_by c.in-Some.field-0-1.now c.in-Some.last.now))
