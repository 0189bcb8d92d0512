use Rattle.std.proofs.Common.{refl, sym, ap, ◌∙◌, subst, Bor, inl, inr}
use Rattle.std.specs.Prelude.{Ok}
use Rattle.std.proofs.lemmas.Result.{err_from_is_err_and}
use Rattle.hk_base.specs.Bytes.{Bytes}
use Rattle.hk_store.proofs.Exits.{save-name}
use Rattle.hk_store.specs.declared.entry.SaveRecord.{SaveRecord}
use Rattle.hk_chain.specs.declared.page.Kind.{Kind}
use Rattle.hk_chain.specs.declared.page.Page.{Page}
use Rattle.hk_store.specs.Entry.{stored}
use Rattle.hk_store.specs.StoreReading.{a_save}
use Rattle.hk_store.proofs.steps.save_at.Goals as goal

abbrev page_with : Kind → Bytes → Page
page_with kind body = record { kind = kind; body = body }

pub returns-in_err-name-clause-save : goal.returns-in_err-name-clause-save
returns-in_err-name-clause-save c before has =
    let p = err_from_is_err_and c.from_residual.result c.from_residual.ensures.1 in
    rw (p.1, p.2) (save-name before c.args.bytes.now (λ (q : SaveRecord × Bor Bytes). (stored q.0.name q.0.page, q.1.now)) c.args.last (λ (q : Bytes × Bor Bytes). (q.0, q.1.now)) c.in_err-name.field-0.0 (c.in_err-name.ensures.name before has))

pub returns-in_default-clause-save : goal.returns-in_default-clause-save
returns-in_default-clause-save c before has =
    inr (c.in_ok-name.name, c.in_ok-name.rest.now, c.in_ok-name.ensures.name before has, inl (refl, c.in_default.ensures))

pub returns-clause-save : goal.returns-clause-save
returns-clause-save c before has =
    let page = c.in_ok-page.ensures ∙ ap (λ b. page_with c.in-Some.kind b) c.in_ok-body.ensures in
    subst (λ p. a_save c.args.last before c.args.bytes.now (Ok (stored c.in_ok-name.name p, c.in-Some.after.now))) (sym page) (
      c.in_ok-name.name,
      c.in_ok-name.rest.now,
      c.in_ok-name.ensures.name before has,
      (page_with c.in-Some.kind c.in-Some.body.now, c.in-Some.after.now, c.in-Some.ensures, (refl, refl)),
    )

pub returns-clause-seen : goal.returns-clause-seen
returns-clause-seen c names has = c.in_ok-name.ensures.seen names has
