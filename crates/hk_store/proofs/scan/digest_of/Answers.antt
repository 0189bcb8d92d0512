use Rattle.std.proofs.Common.{◌≡◌, ◌∙◌, sym, ap, subst}
use Rattle.std.specs.Prelude.{Ok, Err}
use Rattle.std.specs.Result.{MatchResult, is_err}
use Rattle.hex.specs.Hex.{encode_lower}
use Rattle.hk_store.proofs.Finding.{digits-read}
use Rattle.hk_store.proofs.Numerals.{false-true}
use Rattle.hk_store.proofs.scan.digest_of.Goals as goal

pub returns-then-is_err-clause-none : goal.returns-then-is_err-clause-none
returns-then-is_err-clause-none c d h e =
    let got = subst (λ r. MatchResult r (λ bytes. (c.decode_to_slice.result ≡ Ok tt) × (c.decode_to_slice.new.out ≡ bytes)) (λ f. c.decode_to_slice.result ≡ Err f)) (digits-read c.args.digits.now d c.requires h e) c.decode_to_slice.ensures.value in
    false-true (is_err c.decode_to_slice.result) (ap is_err got.0) (sym c.is_err.ensures.value ∙ c.if-is_err.true)

pub returns-else-is_printed_so-clause-none : goal.returns-else-is_printed_so-clause-none
returns-else-is_printed_so-clause-none c d h e =
    let got = subst (λ r. MatchResult r (λ bytes. (c.decode_to_slice.result ≡ Ok tt) × (c.decode_to_slice.new.out ≡ bytes)) (λ f. c.decode_to_slice.result ≡ Err f)) (digits-read c.args.digits.now d c.requires h e) c.decode_to_slice.ensures.value in
    false-true c.is_printed_so.result c.if-is_printed_so.false (c.is_printed_so.ensures.else_not (e ∙ ap encode_lower (sym got.1)))
