use Rattle.std.proofs.lemmas.Result.{IfOk-weaker}
use Rattle.std.proofs.Common.{◌∙◌}
use Rattle.hk_forms.specs.IdForm.{path_of}
use Rattle.hk_forms.proofs.Tables.{listed-long, listed-each}
use Rattle.hk_forms.proofs.id_form.paths_listed.Goals as goal

pub returns-then-items-gt-MOST_MEMBERS : goal.returns-then-items-gt-MOST_MEMBERS
returns-then-items-gt-MOST_MEMBERS c = listed-long path_of c.args.items.now c.if-items-gt-MOST_MEMBERS.true

pub returns : goal.returns
returns c = IfOk-weaker c.paths_in.result _ _ (λ o e. e ∙ listed-each path_of c.args.items.now c.if-items-gt-MOST_MEMBERS.false) c.paths_in.ensures
