use Rattle.std.proofs.Common.{sym, ◌∙◌}
use Rattle.hk_store.proofs.Numerals.{numeral-match, not-plain, not-digits}
use Rattle.hk_store.proofs.scan.number_of.Goals.{else-begins_plain-via-then-begins_plain+else-are_digits, else-begins_plain-via-else-begins_plain}
use Rattle.hk_store.proofs.scan.number_of.Goals as goal

pub returns-then-are_digits : goal.returns-then-are_digits
returns-then-are_digits c = numeral-match c.args.line.now c.value_of.result (sym c.if-begins_plain.ensures) (sym c.if-are_digits.ensures) c.value_of.ensures

pub returns-else-begins_plain : goal.returns-else-begins_plain
returns-else-begins_plain c n small e =
    elim c.else-begins_plain.branch [
      | else-begins_plain-via-then-begins_plain+else-are_digits w ↦ not-digits c.args.line.now (sym w.are_digits.ensures ∙ w.if-are_digits.false) n small e
      | else-begins_plain-via-else-begins_plain w ↦ not-plain c.args.line.now (sym c.begins_plain.ensures ∙ w.if-begins_plain.false) n small e
    ]
