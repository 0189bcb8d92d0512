use Rattle.std.proofs.Common.{Vec, Global, sym, ap, ◌∙◌, subst, arith, rules, ◌-◌, [], length}
use Rattle.std.specs.Prelude.{Ok, Err}
use Rattle.hk_base.specs.declared.refusal.Refusal.TheVariants.{Fault, NoMemory}
use Rattle.hk_store.specs.Entry.{EntryView}
use Rattle.hk_store.specs.Found.{Gives}
use Rattle.hk_store.specs.StoreReading.{a_store}
use Rattle.hk_store.specs.StoreText.{sealed}
use Rattle.hk_store.specs.Told.{Short}
use Rattle.hk_store.specs.declared.damage.StoreDamage.TheVariants.{BadTrailer, BadShape, OldVersion}
use Rattle.hk_store.proofs.ReadOnce.{answers-once, store-sure}
use Rattle.hk_store.proofs.TakenTexts.{store-taken}
use Rattle.hk_store.proofs.read.read_store.Goals as goal

pub returns-in_default-clause-gives : goal.returns-in_default-clause-gives
returns-in_default-clause-gives c = c.in_default.ensures

pub returns-in_default-clause-only : goal.returns-in_default-clause-only
returns-in_default-clause-only c answer is =
    let short : Short c.args.bytes.now = search rules in
    answers-once c.args.bytes.now short (Err (Fault BadTrailer)) c.in_default.ensures answer is

pub returns-in-Some-behind-clause-gives : goal.returns-in-Some-behind-clause-gives
returns-in-Some-behind-clause-gives c = (c.in-Some-behind._rest.now, c.in-Some.ensures ∙ ap sealed c.in-Some-behind.ensures)

pub returns-in-Some-behind-clause-only : goal.returns-in-Some-behind-clause-only
returns-in-Some-behind-clause-only c answer is =
    let short : Short c.args.bytes.now = search rules in
    answers-once c.args.bytes.now short (Err (Fault OldVersion)) (c.in-Some-behind._rest.now, c.in-Some.ensures ∙ ap sealed c.in-Some-behind.ensures) answer is

pub returns-in-Ok-clause-gives : goal.returns-in-Ok-clause-gives
returns-in-Ok-clause-gives c =
    let t = store-taken c.in-Some.text.now (c.in-Ok.entries.items, []) c.in-Ok.ensures in
    (t.0.0, (t.0.1, c.in-Some.ensures ∙ ap sealed t.1.0))

pub returns-in-Ok-clause-only : goal.returns-in-Ok-clause-only
returns-in-Ok-clause-only c answer is =
    let short : Short c.args.bytes.now = search rules in
    let t = store-taken c.in-Some.text.now (c.in-Ok.entries.items, []) c.in-Ok.ensures in
    answers-once c.args.bytes.now short (Ok c.in-Ok.entries.items) (t.0.0, (t.0.1, c.in-Some.ensures ∙ ap sealed t.1.0)) answer is

pub overflow_sub-place : goal.overflow_sub-place
overflow_sub-place c =
    let broken = subst (λ h. Gives a_store c.in-Some.text.now (λ (v : Vec EntryView Global). (v.items, [])) (Err h)) c.in-Err-Broken.field-0-is c.in-Err-Broken.ensures in
    store-sure.within c.in-Some.text.now c.in-Err-Broken.left broken

pub returns-in-Err-Broken-clause-gives : goal.returns-in-Err-Broken-clause-gives
returns-in-Err-Broken-clause-gives c =
    let broken = subst (λ h. Gives a_store c.in-Some.text.now (λ (v : Vec EntryView Global). (v.items, [])) (Err h)) c.in-Err-Broken.field-0-is c.in-Err-Broken.ensures in
    (c.in-Some.text.now, c.in-Some.ensures, c.in_default-behind.ensures, (c.in-Err-Broken.left, broken, omega (arith, store-sure.within c.in-Some.text.now c.in-Err-Broken.left broken)))

pub returns-in-Err-Broken-clause-only : goal.returns-in-Err-Broken-clause-only
returns-in-Err-Broken-clause-only c answer is =
    let broken = subst (λ h. Gives a_store c.in-Some.text.now (λ (v : Vec EntryView Global). (v.items, [])) (Err h)) c.in-Err-Broken.field-0-is c.in-Err-Broken.ensures in
    let short : Short c.args.bytes.now = search rules in
    answers-once c.args.bytes.now short (Err (Fault (BadShape (length c.in-Some.text.now - c.in-Err-Broken.left))))
    (c.in-Some.text.now, c.in-Some.ensures, c.in_default-behind.ensures, (c.in-Err-Broken.left, broken, omega (arith, store-sure.within c.in-Some.text.now c.in-Err-Broken.left broken))) answer is
