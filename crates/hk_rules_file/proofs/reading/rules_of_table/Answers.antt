use Rattle.std.proofs.Common.{◌∙◌, ap, subst}
use Rattle.hk_base.specs.Answers.{Answers}
use Rattle.hk_rules_file.specs.RulesForm.{rules_of_table, top_by, contexts_at, tables_at}
use Rattle.hk_rules_file.proofs.reading.rules_of_table.Goals as goal

pub returns-clause-read : goal.returns-clause-read
unfolding rules_of_table
returns-clause-read c =
    let contexts = c.contexts_at-contexts.ensures ∙ ap contexts_at c.value_at.ensures in
    let feeds = c.tables_at-feeds.ensures ∙ ap tables_at c.value_at-2.ensures in
    let pages = c.tables_at-pages.ensures ∙ ap tables_at c.value_at-3.ensures in
    let rules = c.tables_at-rules.ensures ∙ ap tables_at c.value_at-4.ensures in
    let tags = c.tables_at-tags.ensures ∙ ap tables_at c.value_at-5.ensures in
    subst (λ r. Answers r c.top_by.result) (λ i. top_by (c.in_ok-other.ensures i) (contexts i) (feeds i) (pages i) (rules i) (tags i)) c.top_by.ensures.read
