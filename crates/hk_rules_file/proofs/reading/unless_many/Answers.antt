use Rattle.std.proofs.Common.{◌∙◌, ap, sym, subst, nat_lt}
use Rattle.std.proofs.lemmas.Bool.{lt-ltb, le-ltb}
use Rattle.toml.specs.View.{table_view, items_view}
use Rattle.hk_base.specs.Answers.{Answers}
use Rattle.hk_rules_file.specs.RulesForm.{unless_many}
use Rattle.hk_forms.proofs.Tables.{count_items-view}
use Rattle.hk_rules_file.proofs.reading.unless_many.Goals as goal

pub returns-then-rules-gt-MOST_RULES-clause-read : goal.returns-then-rules-gt-MOST_RULES-clause-read
returns-then-rules-gt-MOST_RULES-clause-read c =
    let many = ap (nat_lt 1024) (count_items-view c.args.rules.now) ∙ lt-ltb _ _ c.if-rules-gt-MOST_RULES.true in
    ap (λ b. unless_many b (table_view c.args.contexts.now) (items_view c.args.rules.now) (items_view c.args.tags.now) (items_view c.args.pages.now) (items_view c.args.feeds.now)) many

pub returns-clause-read : goal.returns-clause-read
returns-clause-read c =
    let many = ap (nat_lt 1024) (count_items-view c.args.rules.now) ∙ le-ltb _ _ c.if-rules-gt-MOST_RULES.false in
    let by = ap (λ b. unless_many b (table_view c.args.contexts.now) (items_view c.args.rules.now) (items_view c.args.tags.now) (items_view c.args.pages.now) (items_view c.args.feeds.now)) many in
    subst (λ r. Answers r c.parts_in.result) (sym by) c.parts_in.ensures.read
