use Rattle.std.proofs.Common.{refl, ℕ, Bor, Vec, Global}
use Rattle.std.specs.Prelude.{map}
use Rattle.std.specs.Option.{option_map}
use Rattle.std.proofs.lemmas.Result.{err_from_is_err_and}
use Rattle.hk_base.specs.Bytes.{Bytes}
use Rattle.hk_base.specs.Identifier.{Ident}
use Rattle.hk_store.specs.declared.entry.MarkRecord.{MarkRecord}
use Rattle.hk_store.specs.Entry.{MatchView, EntryView}
use Rattle.hk_store.specs.Marks.{mark_view}
use Rattle.hk_store.proofs.Exits.{entry-id, entry-print, entry-count, entry-patterns, entry-some, entry-marks}
use Rattle.hk_store.proofs.read.entry_at.Goals as goal

pub returns-in_err-id : goal.returns-in_err-id
returns-in_err-id c =
    let p = err_from_is_err_and c.from_residual.result c.from_residual.ensures.1 in
    rw (p.1, p.2) (entry-id (option_map (λ id. id.now) c.args.last) c.args.bytes.now (λ (q : EntryView × Bor Bytes). (q.0, q.1.now)) (λ (q : Ident × Bor Bytes). (q.0, q.1.now)) c.in_err-id.field-0.0 c.in_err-id.ensures)

pub returns-in_err-print : goal.returns-in_err-print
returns-in_err-print c =
    let p = err_from_is_err_and c.from_residual-in_err-print.result c.from_residual-in_err-print.ensures.1 in
    rw (p.1, p.2) (entry-print (option_map (λ id. id.now) c.args.last) c.args.bytes.now (λ (q : EntryView × Bor Bytes). (q.0, q.1.now)) c.in_ok-id.id c.in_ok-id.rest.now c.in_ok-id.ensures
    (λ (q : Bytes × Bor Bytes). (q.0, q.1.now)) c.in_err-print.field-0.0 c.in_err-print.ensures)

pub returns-in_err-count : goal.returns-in_err-count
returns-in_err-count c =
    let p = err_from_is_err_and c.from_residual-in_err-count.result c.from_residual-in_err-count.ensures.1 in
    rw (p.1, p.2) (entry-count (option_map (λ id. id.now) c.args.last) c.args.bytes.now (λ (q : EntryView × Bor Bytes). (q.0, q.1.now)) c.in_ok-id.id c.in_ok-id.rest.now c.in_ok-id.ensures
    c.in_ok-print.print c.in_ok-print.rest.now c.in_ok-print.ensures
    (λ (q : ℕ × Bor Bytes). (q.0, q.1.now)) c.in_err-count.field-0.0 c.in_err-count.ensures)

pub returns-in_err-patterns : goal.returns-in_err-patterns
returns-in_err-patterns c =
    let p = err_from_is_err_and c.from_residual-in_err-patterns.result c.from_residual-in_err-patterns.ensures.1 in
    rw (p.1, p.2) (entry-patterns (option_map (λ id. id.now) c.args.last) c.args.bytes.now (λ (q : EntryView × Bor Bytes). (q.0, q.1.now)) c.in_ok-id.id c.in_ok-id.rest.now c.in_ok-id.ensures
    c.in_ok-print.print c.in_ok-print.rest.now c.in_ok-print.ensures
    c.in_ok-count.count c.in_ok-count.rest.now c.in_ok-count.ensures
    (λ (q : Vec MatchView Global × Bor Bytes). (q.0.items, q.1.now)) c.in_err-patterns.field-0.0 c.in_err-patterns.ensures)

pub returns-in_err-total : goal.returns-in_err-total
returns-in_err-total c =
    let p = err_from_is_err_and c.from_residual-in_err-total.result c.from_residual-in_err-total.ensures.1 in
    rw (p.1, p.2) (entry-some (option_map (λ id. id.now) c.args.last) c.args.bytes.now (λ (q : EntryView × Bor Bytes). (q.0, q.1.now)) c.in_ok-id.id c.in_ok-id.rest.now c.in_ok-id.ensures
    c.in_ok-print.print c.in_ok-print.rest.now c.in_ok-print.ensures
    c.in_ok-count.count c.in_ok-count.rest.now c.in_ok-count.ensures
    c.in_ok-patterns.patterns.items c.in_ok-patterns.rest.now c.in_ok-patterns.ensures
    (λ (q : ℕ × Bor Bytes). (q.0, q.1.now)) c.in_err-total.field-0.0 c.in_err-total.ensures)

pub returns-in_err-marks : goal.returns-in_err-marks
returns-in_err-marks c =
    let p = err_from_is_err_and c.from_residual-in_err-marks.result c.from_residual-in_err-marks.ensures.1 in
    rw (p.1, p.2) (entry-marks (option_map (λ id. id.now) c.args.last) c.args.bytes.now (λ (q : EntryView × Bor Bytes). (q.0, q.1.now)) c.in_ok-id.id c.in_ok-id.rest.now c.in_ok-id.ensures
    c.in_ok-print.print c.in_ok-print.rest.now c.in_ok-print.ensures
    c.in_ok-count.count c.in_ok-count.rest.now c.in_ok-count.ensures
    c.in_ok-patterns.patterns.items c.in_ok-patterns.rest.now c.in_ok-patterns.ensures
    c.in_ok-total.total c.in_ok-total.rest.now c.in_ok-total.ensures
    (λ (q : Vec MarkRecord Global × Bor Bytes). (map mark_view q.0.items, q.1.now)) c.in_err-marks.field-0.0 c.in_err-marks.ensures)

pub returns : goal.returns
returns c = (
  c.in_ok-id.id,
  c.in_ok-id.rest.now,
  c.in_ok-id.ensures,
  (
    c.in_ok-print.print,
    c.in_ok-print.rest.now,
    c.in_ok-print.ensures,
    (
      c.in_ok-count.count,
      c.in_ok-count.rest.now,
      c.in_ok-count.ensures,
      (
        c.in_ok-patterns.patterns.items,
        c.in_ok-patterns.rest.now,
        c.in_ok-patterns.ensures,
        (
          c.in_ok-total.total,
          c.in_ok-total.rest.now,
          c.in_ok-total.ensures,
          (map mark_view c.in_ok-marks.marks.items, c.in_ok-marks.rest.now, c.in_ok-marks.ensures, (refl, refl)),
        ),
      ),
    ),
  ),
)
