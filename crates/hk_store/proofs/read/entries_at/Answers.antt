use Rattle.std.proofs.Common.{◌+◌, ◌-◌, ◌∙◌, ap, List, subst, arith, Bor, Vec, Global}
use Rattle.std.specs.Prelude.{Ok, Err}
use Rattle.std.proofs.lemmas.Result.{err_from_is_err_and}
use Rattle.hk_base.specs.Bytes.{Bytes}
use Rattle.hk_store.specs.Entry.{EntryView}
use Rattle.hk_store.specs.Found.{Gives}
use Rattle.hk_store.specs.Reading.{each}
use Rattle.hk_store.specs.Stored.{ids_of}
use Rattle.hk_store.specs.StoreReading.{an_entry_above, an_entry, last_of}
use Rattle.hk_store.proofs.Readings.{each-more, err-each}
use Rattle.hk_store.proofs.read.entries_at.Goals as goal

pub returns-in_err-entry : goal.returns-in_err-entry
returns-in_err-entry c =
    let p = err_from_is_err_and c.from_residual.result c.from_residual.ensures.1 in
    let last = c.last_id.ensures ∙ ap (λ es. last_of (ids_of es)) c.deref.ensures.value in
    rw (p.1, p.2) (err-each an_entry c.args.count c.loop-done._done c.loop-done.entries.items c.loop-done.rest.now c.args.bytes.now (λ (q : EntryView × Bor Bytes). (q.0, q.1.now)) (λ (q : Vec EntryView Global × Bor Bytes). (q.0.items, q.1.now)) c.in_err-entry.field-0.0 c.loop-done-test.true c.loop-done.invariant.gives
    (subst (λ o. Gives (an_entry_above o) c.loop-done.rest.now (λ (q : EntryView × Bor Bytes). (q.0, q.1.now)) (Err c.in_err-entry.field-0.0)) last c.in_err-entry.ensures))

pub loop-done-preserved : goal.loop-done-preserved
loop-done-preserved c =
    let last = c.last_id.ensures ∙ ap (λ es. last_of (ids_of es)) c.deref.ensures.value in
    record {
      few = omega (arith, c.loop-done-test.true);
      gives = λ o g. c.loop-done.invariant.gives o (each-more an_entry c.args.count c.loop-done._done c.loop-done.entries.items c.loop-done.rest.now c.in_ok-entry.entry c.in_ok-entry.next.now c.loop-done-test.true
          (subst (λ l. an_entry_above l c.loop-done.rest.now (Ok (c.in_ok-entry.entry, c.in_ok-entry.next.now))) last c.in_ok-entry.ensures) o
          (subst (λ (l : List EntryView). each (c.args.count - (c.loop-done._done + 1)) an_entry l c.in_ok-entry.next.now o) c.in_ok-push.ensures.items g));
    }
