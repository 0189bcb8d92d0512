use Rattle.std.proofs.Common.{◌≡◌, ◌+◌, ◌-◌, ◌==◌, sym, ap, ◌∙◌, List, [], ◌∷◌, ◌++◌, length, length-append, subst, arith, Bor, Vec, Global}
use Rattle.std.specs.Prelude.{map, Ok, Err}
use Rattle.std.proofs.lemmas.List.{map-append, length-map}
use Rattle.std.proofs.lemmas.Result.{err_from_is_err_and}
use Rattle.hk_base.specs.Bytes.{Bytes}
use Rattle.hk_store.specs.declared.entry.MarkRecord.{MarkRecord}
use Rattle.hk_store.specs.Entry.{MarkView}
use Rattle.hk_store.specs.Found.{Gives, HasKeys, HasNames}
use Rattle.hk_store.specs.Marks.{mark_view}
use Rattle.hk_store.specs.Reading.{each}
use Rattle.hk_store.specs.Stored.{asked_keys, saved_names}
use Rattle.hk_store.specs.StoreReading.{a_mark, a_mark_of}
use Rattle.hk_store.proofs.Readings.{each-more, err-each}
use Rattle.hk_store.proofs.steps.marks_at.Goals as goal

pub returns-in_err-mark : goal.returns-in_err-mark
returns-in_err-mark c =
    let p = err_from_is_err_and c.from_residual.result c.from_residual.ensures.1 in
    let before : List MarkView = map mark_view c.loop-done.marks.items in
    let place = length-map c.loop-done.marks.items mark_view ∙ c.loop-done.invariant.long in
    rw (p.1, p.2) (err-each (a_mark c.args.count) c.args.count c.loop-done.done before c.loop-done.rest.now c.args.bytes.now (λ (q : MarkRecord × Bor Bytes). (mark_view q.0, q.1.now)) (λ (q : Vec MarkRecord Global × Bor Bytes). (map mark_view q.0.items, q.1.now)) c.in_err-mark.field-0.0 c.loop-done-test.true c.loop-done.invariant.gives
    (subst (λ n. Gives (a_mark_of (n + 1 == c.args.count) before) c.loop-done.rest.now (λ (q : MarkRecord × Bor Bytes). (mark_view q.0, q.1.now)) (Err c.in_err-mark.field-0.0)) (sym place)
    (c.in_err-mark.ensures.mark before c.loop-done.invariant.asked c.loop-done.invariant.saved)))

pub loop-done-preserved : goal.loop-done-preserved
loop-done-preserved c =
    let before : List MarkView = map mark_view c.loop-done.marks.items in
    let mark : MarkView = mark_view c.in_ok-mark.mark in
    let place = length-map c.loop-done.marks.items mark_view ∙ c.loop-done.invariant.long in
    let grown = ap (map mark_view) c.in_ok-push.ensures.items ∙ map-append mark_view c.loop-done.marks.items (c.in_ok-mark.mark ∷ []) in
    record {
      few = omega (arith, c.loop-done-test.true);
      long = omega (arith, ap length c.in_ok-push.ensures.items, length-append c.loop-done.marks.items (c.in_ok-mark.mark ∷ []), c.loop-done.invariant.long);
      gives = λ o g. c.loop-done.invariant.gives o (each-more (a_mark c.args.count) c.args.count c.loop-done.done before c.loop-done.rest.now mark c.in_ok-mark.next.now c.loop-done-test.true
          (subst (λ n. a_mark_of (n + 1 == c.args.count) before c.loop-done.rest.now (Ok (mark, c.in_ok-mark.next.now))) (sym place)
          (c.in_ok-mark.ensures.mark before c.loop-done.invariant.asked c.loop-done.invariant.saved)) o
          (subst (λ (l : List MarkView). each (c.args.count - (c.loop-done.done + 1)) (a_mark c.args.count) l c.in_ok-mark.next.now o) grown g));
      asked = subst (λ (l : List MarkView). HasKeys c.mark_at.new.asked (asked_keys l)) (sym grown) (c.in_ok-mark.ensures.asked before c.loop-done.invariant.asked);
      saved = subst (λ (l : List MarkView). HasNames c.mark_at.new.saved (saved_names l)) (sym grown) (c.in_ok-mark.ensures.saved before c.loop-done.invariant.saved);
    }
