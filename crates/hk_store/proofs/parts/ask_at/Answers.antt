use Rattle.std.proofs.Common.{refl, Bor}
use Rattle.std.proofs.lemmas.Result.{err_from_is_err_and}
use Rattle.hk_base.specs.Bytes.{Bytes}
use Rattle.hk_base.specs.Identifier.{Ident}
use Rattle.hk_store.specs.Entry.{AskView}
use Rattle.hk_store.specs.StoreReading.{key_by}
use Rattle.hk_store.proofs.Exits.{ask-key, ask-page, ask-traits}
use Rattle.hk_store.proofs.parts.ask_at.Goals as goal

pub returns-in_err-id-clause-ask : goal.returns-in_err-id-clause-ask
returns-in_err-id-clause-ask c keys has =
    let p = err_from_is_err_and c.from_residual.result c.from_residual.ensures.1 in
    rw (p.1, p.2) (ask-key keys c.args.bytes.now (λ (q : AskView × Bor Bytes). (q.0, q.1.now)) (λ (q : (Ident × Bytes) × Bor Bytes). (key_by q.0.0 q.0.1, q.1.now)) c.in_err-id.field-0.0 (c.in_err-id.ensures.key keys has))

pub returns-in_err-page-clause-ask : goal.returns-in_err-page-clause-ask
returns-in_err-page-clause-ask c keys has =
    let p = err_from_is_err_and c.from_residual-in_err-page.result c.from_residual-in_err-page.ensures.1 in
    rw (p.1, p.2) (ask-page keys c.args.bytes.now (λ (q : AskView × Bor Bytes). (q.0, q.1.now)) (λ (q : Bytes × Bor Bytes). (q.0, q.1.now)) (key_by c.in_ok-id.id c.in_ok-id.name) c.in_ok-id.rest.now c.in_err-page.field-0.0 (c.in_ok-id.ensures.key keys has) c.in_err-page.ensures)

pub returns-in_err-traits-clause-ask : goal.returns-in_err-traits-clause-ask
returns-in_err-traits-clause-ask c keys has =
    let p = err_from_is_err_and c.from_residual-in_err-traits.result c.from_residual-in_err-traits.ensures.1 in
    rw (p.1, p.2) (ask-traits keys c.args.bytes.now (λ (q : AskView × Bor Bytes). (q.0, q.1.now)) (λ (q : Bytes × Bor Bytes). (q.0, q.1.now)) (key_by c.in_ok-id.id c.in_ok-id.name) c.in_ok-id.rest.now c.in_ok-page.page c.in_ok-page.rest.now c.in_err-traits.field-0.0
    (c.in_ok-id.ensures.key keys has) c.in_ok-page.ensures c.in_err-traits.ensures)

pub returns-clause-ask : goal.returns-clause-ask
returns-clause-ask c keys has = (
  key_by c.in_ok-id.id c.in_ok-id.name,
  c.in_ok-id.rest.now,
  c.in_ok-id.ensures.key keys has,
  (c.in_ok-page.page, c.in_ok-page.rest.now, c.in_ok-page.ensures, (c.in_ok-traits.traits, c.in_ok-traits.rest.now, c.in_ok-traits.ensures, (refl, refl))),
)

pub returns-clause-seen : goal.returns-clause-seen
returns-clause-seen c keys has = c.in_ok-id.ensures.seen keys has
