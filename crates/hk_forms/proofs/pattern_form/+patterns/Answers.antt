use Rattle.std.proofs.Common.{◌<◌, ◌∙◌, ◌-◌, arith}
use Rattle.std.proofs.lemmas.Result.{IfOk-weaker}
use Rattle.toml.specs.View.{view}
use Rattle.hk_forms.specs.PatternForm.{pattern_at, pattern_by}
use Rattle.hk_forms.proofs.Tables.{listed-long, listed-each}
use Rattle.hk_forms.proofs.Open.{pattern_at-open}
use Rattle.hk_forms.proofs.pattern_form.+patterns.Goals as goal

pub pattern_at-returns : goal.pattern_at-returns
pattern_at-returns t c =
    let some : 0 < c.args.depth = omega arith in
    let is = pattern_at-open c.args.depth (view c.args.value.now) some in
    IfOk-weaker c.pattern_by.result _ _ (λ o e. e ∙ (λ i. pattern_by (pattern_at (c.args.depth - 1)) (c.text_in.ensures i) (c.only_in.ensures i)) ∙ is) c.pattern_by.ensures

pub patterns_in-returns-then-items-gt-MOST_MEMBERS :
    goal.patterns_in-returns-then-items-gt-MOST_MEMBERS
patterns_in-returns-then-items-gt-MOST_MEMBERS t c = listed-long (pattern_at c.args.depth) c.args.items.now c.if-items-gt-MOST_MEMBERS.true

pub patterns_in-returns : goal.patterns_in-returns
patterns_in-returns t c = IfOk-weaker c.each_pattern.result _ _ (λ o e. e ∙ listed-each (pattern_at c.args.depth) c.args.items.now c.if-items-gt-MOST_MEMBERS.false) c.each_pattern.ensures
