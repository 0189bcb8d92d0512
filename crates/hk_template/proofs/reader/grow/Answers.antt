-- Each token leads on to the tree of the rest.
use Rattle.std.proofs.Common.{◌≡◌, ℕ, ◌+◌, ◌-◌, length, sym, ◌∙◌, subst, arith, false, [], Result}
use Rattle.std.proofs.lemmas.Result.{err_from_is_err_and}
use Rattle.hk_template.specs.declared.fault.TemplateFault.{TemplateFault}
use Rattle.hk_template.specs.Token.{Token, token_text}
use Rattle.hk_template.specs.Tree.{Nodes}
use Rattle.hk_template.specs.Growing.{State, Waiting, read_tree, waits, token_step}
use Rattle.hk_template.specs.ParserViews.{waiting_view}
use Rattle.hk_template.specs.ParserViews.{token_view}
use Rattle.hk_template.specs.Stepping.{Grows}
use Rattle.hk_template.proofs.Rests.{grown_rest, rest_whole, rest_next, rest_fault, rest_length, rest_some, rest_stuck, rest_end, refused}
use Rattle.hk_template.proofs.reader.grow.Goals as goal

pub loop-rest-init : goal.loop-rest-init
loop-rest-init c =
    let zero : length c.args.text.now - length c.args.text.now ≡ 0 = omega arith in
    let P : State → Type 0 = λ st. grown_rest 0 (waits [] false st) c.args.text.now ≡ read_tree c.args.text.now in
    (omega arith, rw zero (subst P (sym c.new.ensures) (rest_whole c.args.text.now)))

pub returns-in_err-take-in-Some : goal.returns-in_err-take-in-Some
returns-in_err-take-in-Some c =
    let p = err_from_is_err_and c.from_residual.result c.from_residual.ensures.1 in
    let place : ℕ = length c.args.text.now - length c.loop-rest.rest.now in
    let t : Token = token_view c.in-Some.cut.token in
    let w : Waiting = waiting_view c.loop-rest.reader in
    rw (p.1, p.2) (refused (token_step place t w) (waiting_view c.take.new.self) (read_tree c.args.text.now) c.take.result c.in_err-take-in-Some.field-0.0 c.in_err-take-in-Some.was c.take.ensures
    (λ fault s. sym c.loop-rest.invariant.1 ∙ rest_fault place w c.loop-rest.rest.now t c.in-Some.cut.rest.now fault (sym c.in-Some.ensures) s))

pub loop-rest-smaller : goal.loop-rest-smaller
loop-rest-smaller c =
    omega (arith, rest_length c.loop-rest.rest.now (token_view c.in-Some.cut.token) c.in-Some.cut.rest.now (sym c.in-Some.ensures), rest_some c.loop-rest.rest.now (token_view c.in-Some.cut.token) c.in-Some.cut.rest.now (sym c.in-Some.ensures))

pub loop-rest-preserved : goal.loop-rest-preserved
loop-rest-preserved c =
    let rest = c.loop-rest.rest.now in
    let t : Token = token_view c.in-Some.cut.token in
    let len = rest_length rest t c.in-Some.cut.rest.now (sym c.in-Some.ensures) in
    let place : length c.args.text.now - length c.in-Some.cut.rest.now ≡ (length c.args.text.now - length rest) + length (token_text t) = omega (arith, len) in
    (omega (arith, len), rw place (sym (rest_next (length c.args.text.now - length rest) (waiting_view c.loop-rest.reader) rest t c.in-Some.cut.rest.now (waiting_view c.take.new.self) (sym c.in-Some.ensures) c.in_ok-take-in-Some.ensures) ∙ c.loop-rest.invariant.1))

pub returns-in-None : goal.returns-in-None
returns-in-None c =
    sym c.loop-rest.invariant.1
    ∙ rest_stuck (length c.args.text.now - length c.loop-rest.rest.now) (waiting_view c.loop-rest.reader) c.loop-rest.rest.now (sym c.in-None.ensures) (sym c.is_empty.ensures ∙ c.loop-rest-test.true)

pub returns : goal.returns
returns c =
    let P : Result Nodes TemplateFault → Type 0 = λ r. Grows r c.finish.result in
    subst P (sym (rest_end (length c.args.text.now - length c.loop-rest.rest.now) (waiting_view c.loop-rest.reader) c.loop-rest.rest.now (sym c.is_empty.ensures ∙ c.loop-rest-test.false)) ∙ c.loop-rest.invariant.1) c.finish.ensures
