use Rattle.std.proofs.Common.{◌≡◌, sym, ◌∙◌, subst, Ok, Err}
use Rattle.hk_store.specs.Damage.{Answers, IsRead}
use Rattle.hk_app.specs.declared.taken.Taken.{Taken as TakenStore}
use Rattle.hk_app.specs.TakenBy.{taken_by}
use Rattle.hk_app.specs.Taking.{IsReadOf, taken_of}
use Rattle.hk_app.proofs.Stocks.{ok-map}
use Rattle.hk_app.proofs.taking.taken_of.Goals as goal

pub whole-requires-clause-stored : goal.whole-requires-clause-stored
whole-requires-clause-stored c = c.in-Ok.ensures.gives.1.0

pub whole-requires-clause-bytes : goal.whole-requires-clause-bytes
whole-requires-clause-bytes c = sym c.deref.ensures.value ∙ c.in-Ok.ensures.gives.1.1

pub returns-in-Ok-clause-taken : goal.returns-in-Ok-clause-taken
returns-in-Ok-clause-taken c =
    let read : IsRead c.args.bytes.items (Ok c.in-Ok.stored) = subst (λ b. IsRead b (Ok c.in-Ok.stored)) c.deref.ensures.value c.in-Ok.ensures.gives in
    ok-map (λ (t : TakenStore). taken_by t ≡ taken_of (Ok c.in-Ok.stored)) (λ t. IsReadOf c.args.bytes.items (taken_by t))
    (λ t is. record { answer = Ok c.in-Ok.stored; read = read; taken = is }) c.whole.result c.whole.ensures.taken

pub returns-in-Err-Fault-clause-taken : goal.returns-in-Err-Fault-clause-taken
returns-in-Err-Fault-clause-taken c =
    let told : IsRead c.deref.result.now (Err c.in-Err-Fault.damage) = subst (λ f. Answers (IsRead c.deref.result.now) (Err f)) c.in-Err-Fault.field-0-is c.in-Err-Fault.ensures.gives in
    let read : IsRead c.args.bytes.items (Err c.in-Err-Fault.damage) = subst (λ b. IsRead b (Err c.in-Err-Fault.damage)) c.deref.ensures.value told in
    ok-map (λ (t : TakenStore). taken_by t ≡ taken_of (Err c.in-Err-Fault.damage)) (λ t. IsReadOf c.args.bytes.items (taken_by t))
    (λ t is. record { answer = Err c.in-Err-Fault.damage; read = read; taken = is }) c.damaged.result c.damaged.ensures.taken
