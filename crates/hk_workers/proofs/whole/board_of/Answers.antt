use Rattle.std.proofs.Common.{◌≡◌, subst}
use Rattle.std.specs.Result.{IfOk}
use Rattle.hk_sched.specs.Lawful.{Key}
use Rattle.hk_sched.specs.Board.{opened}
use Rattle.hk_workers.proofs.Steps.{opens-lawful}
use Rattle.hk_workers.proofs.whole.board_of.Goals as goal

pub returns : goal.returns
returns g c =
    opens-lawful g.M.Compiler.run g.M.Compiler.shape g.M.Compiler.meaning c.args.key c.open.result c.lawful_board.ensures c.requires.key c.requires.kept
    (subst (λ (k : Key g.row.M-Common.Denot). IfOk c.open.result (λ b. b ≡ opened k.common k.lay k.kept)) c.key.view_is c.open.ensures)
