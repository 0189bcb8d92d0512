-- The tests before `parse` and `parse` itself read the number of the definition.
use Rattle.std.proofs.Common.{◌≤◌, ◌<◌, rules, tests, length, ap, sym, subst, ◌∙◌, ℕ, List}
use Rattle.std.proofs.lemmas.Bool.{eqb-true}
use Rattle.std.specs.Str.{all_ascii_digits}
use Rattle.std.specs.Char.{is_ascii_digit}
use Rattle.hk_words.proofs.Numerals.{IsShortNumeral, no_digit, not_digits, read_none, read_some, same_test, too_long}
use Rattle.std.proofs.lemmas.Iterator.{YieldsList-from_slice}
use Rattle.std.proofs.lemmas.Iterator.Search.{all_from_yields_List}
use Rattle.hk_words.proofs.numbers.read_number.Goals as goal
use Rattle.hk_words.proofs.numbers.read_number.Goals.{then-is_empty-via-then-is_empty, then-is_empty-via-else-is_empty+then-digits-gt10, then-is_empty-via-else-is_empty+else-digits-gt10+then-not-all}

pub returns-then-is_empty : goal.returns-then-is_empty
returns-then-is_empty c =
    let text = c.args.text.now in
    let same = c.as_bytes-digits.ensures.value in
    elim c.then-is_empty.branch [
      | then-is_empty-via-then-is_empty w ↦
          sym (no_digit c.args.least c.args.most text (ap length (sym same) ∙ eqb-true (length c.as_bytes-digits.result.now) 0 (sym c.is_empty.ensures ∙ w.if-is_empty.true)))
      | then-is_empty-via-else-is_empty+then-digits-gt10 w ↦
          sym (too_long c.args.least c.args.most text (subst (λ (t : List ℕ). 10 < length t) same w.if-digits-gt10.true))
      | then-is_empty-via-else-is_empty+else-digits-gt10+then-not-all w ↦
          let tested = all_from_yields_List is_ascii_digit _ _ w.all.result w.all.ensures.ran (YieldsList-from_slice c.as_bytes-digits.result.now cc) (λ x b q k. search (rules, tests)) in
          sym (not_digits c.args.least c.args.most text (ap all_ascii_digits (sym same) ∙ sym (same_test c.as_bytes-digits.result.now) ∙ sym tested ∙ w.if-not-all.true))
    ]

pub returns-in_err-number : goal.returns-in_err-number
returns-in_err-number c =
    let text = c.args.text.now in
    let same = c.as_bytes-digits.ensures.value in
    let tested = all_from_yields_List is_ascii_digit _ _ c.all.result c.all.ensures.ran (YieldsList-from_slice c.as_bytes-digits.result.now cc) (λ x b q k. search (rules, tests)) in
    let short : IsShortNumeral text = record {
      digits = ap all_ascii_digits (sym same) ∙ sym (same_test c.as_bytes-digits.result.now) ∙ sym tested ∙ c.if-not-all.false;
      some = search rules;
      few = subst (λ (t : List ℕ). length t ≤ 10) same c.if-digits-gt10.false;
    } in
    c.from_residual.ensures ∙ sym (read_none c.args.least c.args.most text c.parse.result c.parse.ensures.value.0 (sym c.ok.ensures.value ∙ c.in_err-number.was) short (search rules))

pub returns-then-number-most : goal.returns-then-number-most
returns-then-number-most c =
    let text = c.args.text.now in
    let same = c.as_bytes-digits.ensures.value in
    let tested = all_from_yields_List is_ascii_digit _ _ c.all.result c.all.ensures.ran (YieldsList-from_slice c.as_bytes-digits.result.now cc) (λ x b q k. search (rules, tests)) in
    let short : IsShortNumeral text = record {
      digits = ap all_ascii_digits (sym same) ∙ sym (same_test c.as_bytes-digits.result.now) ∙ sym tested ∙ c.if-not-all.false;
      some = search rules;
      few = subst (λ (t : List ℕ). length t ≤ 10) same c.if-digits-gt10.false;
    } in
    read_some c.args.least c.args.most c.in_ok-number.number text c.parse.result c.parse.ensures.value.0 (sym c.ok.ensures.value ∙ c.in_ok-number.was) short c.if-least-number.true c.if-number-most.true
