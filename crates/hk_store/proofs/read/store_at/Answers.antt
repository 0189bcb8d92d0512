use Rattle.std.proofs.Common.{refl, sym, ◌∙◌, ap, subst, arith, ℕ, [], length, inl, inr, Bor, Vec, Global}
use Rattle.std.proofs.lemmas.Result.{err_from_is_err_and}
use Rattle.hk_base.specs.Bytes.{Bytes}
use Rattle.hk_store.specs.Entry.{EntryView}
use Rattle.hk_store.proofs.Exits.{store-count, store-entries, store-line, store-more, store-whole}
use Rattle.hk_store.proofs.read.store_at.Goals as goal

pub returns-in_default : goal.returns-in_default
returns-in_default c = store-line c.args.bytes.now c.in_default.ensures

pub returns-in_err-count : goal.returns-in_err-count
returns-in_err-count c =
    let p = err_from_is_err_and c.from_residual.result c.from_residual.ensures.1 in
    rw (p.1, p.2) (store-count c.args.bytes.now c.in-Some.rest.now (λ (v : Vec EntryView Global). (v.items, [])) c.in-Some.ensures
    (λ (q : ℕ × Bor Bytes). (q.0, q.1.now)) c.in_err-count.field-0.0 c.in_err-count.ensures)

pub returns-in_err-entries : goal.returns-in_err-entries
returns-in_err-entries c =
    let p = err_from_is_err_and c.from_residual-in_err-entries.result c.from_residual-in_err-entries.ensures.1 in
    rw (p.1, p.2) (store-entries c.args.bytes.now c.in-Some.rest.now (λ (v : Vec EntryView Global). (v.items, [])) c.in-Some.ensures
    c.in_ok-count.count c.in_ok-count.rest.now c.in_ok-count.ensures
    (λ (q : Vec EntryView Global × Bor Bytes). (q.0.items, q.1.now)) c.in_err-entries.field-0.0 c.in_err-entries.ensures)

pub returns-then-is_empty : goal.returns-then-is_empty
returns-then-is_empty c =
    store-whole c.args.bytes.now c.in-Some.rest.now c.in-Some.ensures c.in_ok-count.count c.in_ok-count.rest.now c.in_ok-count.ensures c.in_ok-entries.entries.items c.in_ok-entries.rest.now c.in_ok-entries.ensures (grind arith)

pub returns-else-is_empty : goal.returns-else-is_empty
returns-else-is_empty c =
    store-more c.args.bytes.now c.in-Some.rest.now c.in-Some.ensures c.in_ok-count.count c.in_ok-count.rest.now c.in_ok-count.ensures c.in_ok-entries.entries.items c.in_ok-entries.rest.now c.in_ok-entries.ensures (grind arith)
