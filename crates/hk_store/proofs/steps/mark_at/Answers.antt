use Rattle.std.proofs.Common.{sym, subst, true, false, Bool, Bor, Vec, Global, [], ◌∷◌, ◌++◌}
use Rattle.std.specs.Prelude.{Ok, Err}
use Rattle.std.proofs.lemmas.Result.{err_from_is_err_and}
use Rattle.hk_base.specs.Bytes.{Bytes}
use Rattle.hk_store.specs.declared.entry.MarkRecord.{MarkRecord}
use Rattle.hk_store.specs.declared.entry.SaveRecord.{SaveRecord}
use Rattle.hk_store.specs.Entry.{AskView, asked, stored}
use Rattle.hk_store.specs.Found.{Gives, HasKeys, HasNames}
use Rattle.hk_store.specs.Marks.{mark_view}
use Rattle.hk_store.specs.Stored.{asked_keys, saved_names}
use Rattle.hk_store.specs.StoreReading.{a_mark_by}
use Rattle.hk_store.proofs.Exits.{mark-letter, mark-rest}
use Rattle.hk_store.proofs.TakenTexts.{group-keys, group-names, save-keys, save-names}
use Rattle.hk_store.proofs.steps.mark_at.Goals as goal

pub returns-in_err-group-clause-mark : goal.returns-in_err-group-clause-mark
returns-in_err-group-clause-mark c before asks saves =
    let p = err_from_is_err_and c.from_residual.result c.from_residual.ensures.1 in
    rw (p.1, p.2) (mark-letter before c.args.bytes.now (λ (q : MarkRecord × Bor Bytes). (mark_view q.0, q.1.now)) c.args.last (λ (q : Bool × Bor Bytes). (q.0, q.1.now)) c.in_err-group.field-0.0 c.in_err-group.ensures)

pub returns-in_err-asks-clause-mark : goal.returns-in_err-asks-clause-mark
returns-in_err-asks-clause-mark c before asks saves =
    let p = err_from_is_err_and c.from_residual-in_err-asks.result c.from_residual-in_err-asks.ensures.1 in
    rw (p.1, p.2) (mark-rest before c.args.bytes.now (λ (q : MarkRecord × Bor Bytes). (mark_view q.0, q.1.now)) c.args.last (λ (q : Vec AskView Global × Bor Bytes). (asked q.0.items, q.1.now)) c.in_ok-group.group c.in_ok-group.rest.now c.in_err-asks.field-0.0 c.in_ok-group.ensures
    (subst (λ g. Gives (a_mark_by g c.args.last before) c.in_ok-group.rest.now (λ (q : Vec AskView Global × Bor Bytes). (asked q.0.items, q.1.now)) (Err c.in_err-asks.field-0.0)) (sym c.if-group.true)
    (c.in_err-asks.ensures.asks before asks)))

pub returns-in_err-save-clause-mark : goal.returns-in_err-save-clause-mark
returns-in_err-save-clause-mark c before asks saves =
    let p = err_from_is_err_and c.from_residual-in_err-save.result c.from_residual-in_err-save.ensures.1 in
    rw (p.1, p.2) (mark-rest before c.args.bytes.now (λ (q : MarkRecord × Bor Bytes). (mark_view q.0, q.1.now)) c.args.last (λ (q : SaveRecord × Bor Bytes). (stored q.0.name q.0.page, q.1.now)) c.in_ok-group.group c.in_ok-group.rest.now c.in_err-save.field-0.0 c.in_ok-group.ensures
    (subst (λ g. Gives (a_mark_by g c.args.last before) c.in_ok-group.rest.now (λ (q : SaveRecord × Bor Bytes). (stored q.0.name q.0.page, q.1.now)) (Err c.in_err-save.field-0.0)) (sym c.if-group.false)
    (c.in_err-save.ensures.save before saves)))

pub returns-in_ok-asks-clause-mark : goal.returns-in_ok-asks-clause-mark
returns-in_ok-asks-clause-mark c before asks saves = (
  c.in_ok-group.group,
  c.in_ok-group.rest.now,
  c.in_ok-group.ensures,
  subst (λ g. a_mark_by g c.args.last before c.in_ok-group.rest.now (Ok (asked c.in_ok-asks.asks.items, c.in_ok-asks.rest.now))) (sym c.if-group.true) (c.in_ok-asks.ensures.asks before asks),
)

pub returns-in_ok-asks-clause-asked : goal.returns-in_ok-asks-clause-asked
returns-in_ok-asks-clause-asked c before asks = subst (HasKeys c.group_at.new.seen) (sym (group-keys before c.in_ok-asks.asks.items)) (c.in_ok-asks.ensures.seen (asked_keys before) asks)

pub returns-in_ok-asks-clause-saved : goal.returns-in_ok-asks-clause-saved
returns-in_ok-asks-clause-saved c before saves = subst (HasNames c.args.saved.now) (sym (group-names before c.in_ok-asks.asks.items)) saves

pub returns-in_ok-save-clause-mark : goal.returns-in_ok-save-clause-mark
returns-in_ok-save-clause-mark c before asks saves = (
  c.in_ok-group.group,
  c.in_ok-group.rest.now,
  c.in_ok-group.ensures,
  subst (λ g. a_mark_by g c.args.last before c.in_ok-group.rest.now (Ok (stored c.in_ok-save.save.name c.in_ok-save.save.page, c.in_ok-save.rest.now))) (sym c.if-group.false) (c.in_ok-save.ensures.save before saves),
)

pub returns-in_ok-save-clause-asked : goal.returns-in_ok-save-clause-asked
returns-in_ok-save-clause-asked c before asks = subst (HasKeys c.args.asked.now) (sym (save-keys before c.in_ok-save.save.name c.in_ok-save.save.page)) asks

pub returns-in_ok-save-clause-saved : goal.returns-in_ok-save-clause-saved
returns-in_ok-save-clause-saved c before saves = subst (HasNames c.save_at.new.seen) (sym (save-names before c.in_ok-save.save.name c.in_ok-save.save.page)) (c.in_ok-save.ensures.seen (saved_names before) saves)
