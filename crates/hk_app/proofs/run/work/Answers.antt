use Rattle.std.proofs.Common.{◌∙◌, sym}
use Rattle.std.proofs.lemmas.Result.{err_from_is_err_and}
use Rattle.hk_app.proofs.Endings.{task-ends, unread-ends}
use Rattle.hk_app.proofs.run.work.Goals as goal

pub returns-in_err-task : goal.returns-in_err-task
returns-in_err-task g c =
    let p = err_from_is_err_and c.from_residual.result c.from_residual.ensures.1 in unread-ends _ _ c.from_residual.result p.0 p.1

pub returns-in-Some : goal.returns-in-Some
returns-in-Some g c = task-ends _ c.in-Some.task _ _ c.perform.result (sym c.in_ok-task.ensures ∙ c.in-Some.is) c.perform.ensures
