use Rattle.std.proofs.lemmas.Result.{IfOk-weaker}
use Rattle.std.proofs.Common.{◌∙◌}
use Rattle.hk_forms.specs.IdForm.{id_of}
use Rattle.hk_forms.proofs.Tables.{listed-long, listed-each}
use Rattle.hk_forms.proofs.id_form.ids_listed.Goals as goal

pub returns-then-items-gt-MOST_MEMBERS : goal.returns-then-items-gt-MOST_MEMBERS
returns-then-items-gt-MOST_MEMBERS c = listed-long id_of c.args.items.now c.if-items-gt-MOST_MEMBERS.true

pub returns : goal.returns
returns c = IfOk-weaker c.ids_in.result _ _ (λ o e. e ∙ listed-each id_of c.args.items.now c.if-items-gt-MOST_MEMBERS.false) c.ids_in.ensures
