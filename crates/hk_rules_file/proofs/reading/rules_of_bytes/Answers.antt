use Rattle.std.proofs.Common.{◌∙◌, ap, rules, sym, subst, None, IsTrue, false}
use Rattle.toml.specs.Parse.{parse_document}
use Rattle.hk_base.specs.Answers.{Answers}
use Rattle.hk_rules_file.specs.RulesForm.{rules_of_document}
use Rattle.hk_rules_file.proofs.Documents.{document-text, document-none}
use Rattle.hk_rules_file.proofs.reading.rules_of_bytes.Goals as goal

pub returns-in_default-clause-read : goal.returns-in_default-clause-read
returns-in_default-clause-read c = ap rules_of_document (document-none c.args.bytes.now c.in_default.ensures.cases.0)

pub returns-in-Ok-table_from_str-clause-read : goal.returns-in-Ok-table_from_str-clause-read
returns-in-Ok-table_from_str-clause-read c =
    let same = c.in-Ok.ensures.cases.0 in
    let read = document-text c.args.bytes.now _ c.in-Ok.ensures.cases.1 (ap parse_document (sym same) ∙ c.in-Ok-table_from_str.ensures.ok) in
    subst (λ d. Answers (rules_of_document d) c.rules_of_table.result) (sym read) c.rules_of_table.ensures.read

pub returns-in-Err-2-clause-read : goal.returns-in-Err-2-clause-read
returns-in-Err-2-clause-read c =
    let same = c.in-Ok.ensures.cases.0 in
    ap rules_of_document (document-text c.args.bytes.now None c.in-Ok.ensures.cases.1 (ap parse_document (sym same) ∙ c.in-Err.ensures.refused (λ k. let bad : IsTrue false = c.if-is_memory.ensures.1 k in search rules)))
