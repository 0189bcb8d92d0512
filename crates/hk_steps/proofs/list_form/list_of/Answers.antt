use Rattle.std.proofs.Common.{◌∙◌, ap}
use Rattle.std.proofs.lemmas.Result.{IfOk-weaker}
use Rattle.toml.specs.View.{table_view}
use Rattle.hk_steps.specs.FieldForm.{is_list_key, list_by, list_of}
use Rattle.hk_forms.proofs.Tables.{keys_pass-entries}
use Rattle.hk_steps.proofs.list_form.list_of.Goals as goal

pub returns : goal.returns
unfolding list_of
returns c =
    let pass = c.has_list_keys.ensures ∙ keys_pass-entries is_list_key c.args.table.now in
    IfOk-weaker c.list_by.result _ _ (λ o e. e ∙ ap (λ b. list_by b (table_view c.args.table.now)) pass) c.list_by.ensures
