-- A blank at the end goes, and any other byte stays.
use Rattle.std.proofs.Common.{sym, ap, ◌∙◌}
use Rattle.hk_template.specs.Tree.{trim_end}
use Rattle.hk_template.proofs.Trims.{end_blank, end_kept}
use Rattle.hk_template.proofs.trim.trim_end.Goals as goal

pub returns-then-not-is_blank : goal.returns-then-not-is_blank
returns-then-not-is_blank c =
    c.in-Some.ensures.cases.0
    ∙ sym (end_kept c.in-Some.front.now c.in-Some.last.now (sym c.is_blank.ensures ∙ c.if-not-is_blank.true))
    ∙ ap trim_end (sym c.in-Some.ensures.cases.0)
    ∙ c.loop-last.invariant

pub loop-last-preserved : goal.loop-last-preserved
loop-last-preserved c =
    sym (end_blank c.in-Some.front.now c.in-Some.last.now (sym c.is_blank.ensures ∙ c.if-not-is_blank.false))
    ∙ ap trim_end (sym c.in-Some.ensures.cases.0)
    ∙ c.loop-last.invariant
