use Rattle.std.proofs.Common.{◌+◌, ◌-◌, ◌∙◌, ap, List, subst, arith, Bor, Vec, Global}
use Rattle.std.specs.Prelude.{Ok, Err}
use Rattle.std.proofs.lemmas.Result.{err_from_is_err_and}
use Rattle.hk_base.specs.Bytes.{Bytes}
use Rattle.hk_base.specs.Identifier.{Ident}
use Rattle.hk_store.specs.Found.{Gives}
use Rattle.hk_store.specs.Reading.{each}
use Rattle.hk_store.specs.StoreReading.{an_id_above, an_id_after, last_of}
use Rattle.hk_store.proofs.Readings.{each-more, err-each}
use Rattle.hk_store.proofs.parts.ids_at.Goals as goal

pub returns-in_err-id : goal.returns-in_err-id
returns-in_err-id c =
    let p = err_from_is_err_and c.from_residual.result c.from_residual.ensures.1 in
    let last = c.last.ensures.value ∙ ap last_of c.deref.ensures.value in
    rw (p.1, p.2) (err-each an_id_after c.args.count c.loop-done._done c.loop-done.ids.items c.loop-done.rest.now c.args.bytes.now (λ (q : Ident × Bor Bytes). (q.0, q.1.now)) (λ (q : Vec Ident Global × Bor Bytes). (q.0.items, q.1.now)) _ c.loop-done-test.true c.loop-done.invariant.gives
    (subst (λ o. Gives (an_id_above o) c.loop-done.rest.now (λ (q : Ident × Bor Bytes). (q.0, q.1.now)) (Err c.in_err-id.field-0.0)) last c.in_err-id.ensures))

pub loop-done-preserved : goal.loop-done-preserved
loop-done-preserved c =
    let last = c.last.ensures.value ∙ ap last_of c.deref.ensures.value in
    record {
      few = omega (arith, c.loop-done-test.true);
      gives = λ o g. c.loop-done.invariant.gives o (each-more an_id_after c.args.count c.loop-done._done c.loop-done.ids.items c.loop-done.rest.now c.in_ok-id.id c.in_ok-id.next.now c.loop-done-test.true
          (subst (λ l. an_id_above l c.loop-done.rest.now (Ok (c.in_ok-id.id, c.in_ok-id.next.now))) last c.in_ok-id.ensures) o
          (subst (λ (l : List Ident). each (c.args.count - (c.loop-done._done + 1)) an_id_after l c.in_ok-id.next.now o) c.in_ok-push.ensures.items g));
    }
