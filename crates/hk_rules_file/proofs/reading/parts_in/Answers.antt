use Rattle.std.proofs.Common.{◌∙◌, ap, sym, []}
use Rattle.std.specs.List.{fold}
use Rattle.toml.specs.View.{items_view}
use Rattle.hk_rules_file.specs.ContextForm.{names_in}
use Rattle.hk_rules_file.specs.FileEntries.{contexts_at}
use Rattle.hk_rules_file.specs.Numbering.{with_name}
use Rattle.hk_rules_file.proofs.LinkedTables.{parts-linked, parts-tables}
use Rattle.hk_rules_file.proofs.reading.parts_in.Goals as goal

pub returns-clause-linked : goal.returns-clause-linked
returns-clause-linked c =
    parts-linked c.args.contexts.now (items_view c.args.rules.now) (items_view c.args.tags.now) (items_view c.args.pages.now) (items_view c.args.feeds.now)
    (contexts_at c.deref-2.result.now) c.in_ok-names.names c.parts_with.result c.len-count.ensures.ordered (ap contexts_at c.deref-2.ensures.value ∙ c.in_ok-contexts.ensures)
    (c.in_ok-names.ensures ∙ ap (λ entries. fold with_name [] (names_in (contexts_at entries))) (c.deref.ensures.value ∙ sym c.deref-2.ensures.value)) c.parts_with.ensures

pub returns-clause-tables : goal.returns-clause-tables
returns-clause-tables c =
    parts-tables c.args.contexts.now (items_view c.args.rules.now) (items_view c.args.tags.now) (items_view c.args.pages.now) (items_view c.args.feeds.now)
    (contexts_at c.deref-2.result.now) c.in_ok-names.names c.parts_with.result c.len-count.ensures.ordered (ap contexts_at c.deref-2.ensures.value ∙ c.in_ok-contexts.ensures)
    (c.in_ok-names.ensures ∙ ap (λ entries. fold with_name [] (names_in (contexts_at entries))) (c.deref.ensures.value ∙ sym c.deref-2.ensures.value)) c.parts_with.ensures
