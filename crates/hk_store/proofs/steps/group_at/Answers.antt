use Rattle.std.proofs.Common.{refl, ℕ, Bor, Vec, Global}
use Rattle.std.proofs.lemmas.Result.{err_from_is_err_and}
use Rattle.hk_base.specs.Bytes.{Bytes}
use Rattle.hk_store.specs.Entry.{AskView, asked}
use Rattle.hk_store.specs.Stored.{asked_keys}
use Rattle.hk_store.proofs.Exits.{group-count, group-asks}
use Rattle.hk_store.proofs.steps.group_at.Goals as goal

pub returns-in_err-count-clause-asks : goal.returns-in_err-count-clause-asks
returns-in_err-count-clause-asks c before has =
    let p = err_from_is_err_and c.from_residual.result c.from_residual.ensures.1 in
    rw (p.1, p.2) (group-count before c.args.bytes.now (λ (q : Vec AskView Global × Bor Bytes). (asked q.0.items, q.1.now)) (λ (q : ℕ × Bor Bytes). (q.0, q.1.now)) c.in_err-count.field-0.0 c.in_err-count.ensures)

pub returns-in_err-asks-clause-asks : goal.returns-in_err-asks-clause-asks
returns-in_err-asks-clause-asks c before has =
    let p = err_from_is_err_and c.from_residual-in_err-asks.result c.from_residual-in_err-asks.ensures.1 in
    rw (p.1, p.2) (group-asks before c.args.bytes.now (λ (q : Vec AskView Global × Bor Bytes). (asked q.0.items, q.1.now)) (λ (q : Vec AskView Global × Bor Bytes). (q.0.items, q.1.now)) c.in_ok-count.count c.in_ok-count.rest.now c.in_err-asks.field-0.0
    c.in_ok-count.ensures (c.in_err-asks.ensures.asks (asked_keys before) has))

pub returns-clause-asks : goal.returns-clause-asks
returns-clause-asks c before has =
    (c.in_ok-count.count, c.in_ok-count.rest.now, c.in_ok-count.ensures, (c.in_ok-asks.asks.items, c.in_ok-asks.rest.now, c.in_ok-asks.ensures.asks (asked_keys before) has, (refl, refl)))

pub returns-clause-seen : goal.returns-clause-seen
returns-clause-seen c keys has = c.in_ok-asks.ensures.seen keys has
