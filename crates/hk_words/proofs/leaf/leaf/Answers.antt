-- The builders make the command of `specs/Arguments.antt`.
use Rattle.std.proofs.Common.{◌≡◌, ◌∙◌, ap, ap₂, codes, true, rules}
use Rattle.std.proofs.lemmas.Result.{IfOk-weaker}
use Rattle.clap.specs.Words.{new_rule, rule_of, with_rule}
use Rattle.clap.specs.Simple.{app_of_fields, on_top}
use Rattle.hk_words.specs.Leaf.{trace_rule, workers_rule}
use Rattle.hk_words.proofs.leaf.leaf.Goals as goal

pub returns : goal.returns
returns c =
    let workers_is : rule_of c.action-workers.result ≡ workers_rule = search rules in
    let trace_is : rule_of c.action-trace.result ≡ trace_rule = search rules in
    let number_is : rule_of c.new-number.result ≡ new_rule (codes "number") = search rules in
    let count_is : rule_of c.new-count.result ≡ new_rule (codes "count") = search rules in
    let bare = ap app_of_fields c.disable_version_flag.ensures
    ∙ ap (on_top (λ s. record s { disable_version_flag = true })) (ap app_of_fields c.disable_help_flag.ensures
    ∙ ap (on_top (λ s. record s { disable_help_flag = true })) (ap app_of_fields c.no_binary_name.ensures
    ∙ ap (on_top (λ s. record s { no_binary_name = true })) c.new-3.ensures.app)) in
    let first = c.in_ok-arg.ensures.shape (search rules) ∙ ap₂ with_rule bare workers_is in
    let second = c.in_ok-arg-2.ensures.shape (search rules) ∙ ap₂ with_rule first trace_is in
    let third = c.in_ok-arg-3.ensures.shape (search rules) ∙ ap₂ with_rule second number_is in
    IfOk-weaker c.arg-4.result _ _ (λ r h. h.shape (search rules) ∙ ap₂ with_rule third count_is) c.arg-4.ensures
